-- The reports of small programs, computed.
use Rattle.std.proofs.Common.{refl}
use Rattle.std.specs.Int.{int_wrap}
use Rattle.brisk_sound.specs.ReportExamples.{ReportExamples}

pub reported : ReportExamples
unfolding int_wrap
reported = record {
  crossed_waits = refl;
  ping_pong_goes = refl;
  two_messages_go_on = refl;
  unread_is_at_its_end = refl;
  no_derivation = refl;
  nested_for_stops = refl;
  without_inner_try = refl;
  with_another_fault = refl;
  without_a_try = refl;
  not_for_its_owner = refl;
  overtaking_stops = refl;
  by_gather = refl;
  member_goes_on = refl;
  set_untold = refl;
  stops_early = refl;
  maybe_empty_server_stops = refl;
  stops_inside = refl;
  the_other_fault = refl;
  one_sided_stops = refl;
  side_undone = refl;
  side_goes_on = refl;
  another_fault = refl;
}
