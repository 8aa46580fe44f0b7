-- The derivations, computed.
use Rattle.std.proofs.Common.{refl}
use Rattle.std.specs.Int.{int_wrap}
use Rattle.brisk_sound.specs.Derivations.{Derivations}

pub derived : Derivations
unfolding int_wrap
derived = record {
  late_box_valid = refl;
  ask_all_valid = refl;
  collect_valid = refl;
  ask_all_loose_valid = refl;
  sends_to_each_valid = refl;
  unread_valid = refl;
  no_thread = refl;
  other_head = refl;
  swapped = refl;
  nothing_pending = refl;
  stops = refl;
  leaves_a_message = refl;
  box_in_use = refl;
  no_box = refl;
  passes_by = refl;
  sends_twice = refl;
  many_pending = refl;
  loop_sends_again = refl;
  no_owner = refl;
  no_drop = refl;
  owner_unfinished = refl;
  not_quiet = refl;
  mail_left = refl;
  focused = refl;
  may_be_empty = refl;
  mail_changed = refl;
  branches_differ = refl;
  fact_lost = refl;
  too_deep = refl;
  collect_unfolds = refl;
  late_box_unfolds = refl;
  collect_stops = refl;
}
