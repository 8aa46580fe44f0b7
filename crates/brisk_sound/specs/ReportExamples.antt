-- Which reports of small programs hold, and which don't.
use Rattle.std.specs.Prelude.{◌≡◌, false, [], ◌∷◌}
use Rattle.brisk_syntax.specs.declared.program.Program.{Program}
use Rattle.brisk_derivation.specs.declared.fault.SideFault.{SideFault}
use Rattle.brisk_derivation.specs.declared.fault.SideFault.TheVariants as side
use Rattle.brisk_derivation.specs.declared.report.Report.{Report}
use Rattle.brisk_derivation.specs.Reports.{Tried, Fails, StuckFirst, Tries, no_tries, ◌▹◌}
use Rattle.brisk_derivation.specs.Steps.{Branch, While, For, Repeat, Gather, Pick, Steps, no_steps, ◌▷◌}
use Rattle.brisk_sound.specs.Derivations.{fill, pass, known}
use Rattle.brisk_rules.specs.Reports.{Reports, report_holds}
use Rattle.brisk_sound.specs.Samples.{A, B, M, Ws, T, Ping, Ready, ping_pong, two_messages, crossed, maybe_empty_server}
use Rattle.brisk_sound.specs.Protocols.{overtaking, unread, nested_for, one_sided}

-- the report with these steps and tries
abbrev pub report : Steps → Tries → Report
report steps tries = record { steps = steps; tries = tries }

-- the report doesn't hold
abbrev pub Refuted : Program → Report → Type 0
Refuted P R = report_holds P R ≡ false

-- each member has sent twice
abbrev sent_twice : Steps
sent_twice = For Ws [] [] (fill Ws M T 1 ▷ fill Ws M T 2 ▷ no_steps) ▷ no_steps

-- a pick in M's loop, which fails with this test
abbrev picked : SideFault → Tries
picked why = Tried (Pick M [] no_steps) (Fails why) ▹ no_tries

-- M's loop is stuck at the pick
abbrev served : SideFault → Tries
served why = Tried (While M [] no_steps) (StuckFirst (picked why)) ▹ no_tries

-- M's loop, and each member's
abbrev both : Tries → Tries
both of_set = Tried (While M [] no_steps) (StuckFirst (picked side.MayBeEmpty)) ▹ of_set

-- M's outer loop, inside which these were tried
abbrev outer : Tries → Tries
outer inner = Tried (For Ws (M ∷ []) [] no_steps) (StuckFirst inner) ▹ no_tries

-- the set's turn, in which M's loop may not bring it into focus again
abbrev of_set : Tries
of_set = Tried (For Ws [] [] (fill Ws M T 1 ▷ fill Ws M T 2 ▷ no_steps)) (StuckFirst (Tried (Gather M [] no_steps) (Fails side.SetIsFocused) ▹ no_tries)) ▹ no_tries

-- each waits for the other; nothing could be tried
abbrev pub crossed_report : Report
crossed_report = report no_steps no_tries

-- the loop over the members in another is tried inside it, and may not be entered
abbrev pub nested_for_report : Report
nested_for_report = report no_steps (outer (Tried (For Ws (M ∷ []) [] no_steps) (Fails side.SetIsFocused) ▹ no_tries))

-- each member has sent twice; M's loop, taken as a repeat, may find the set empty
abbrev pub overtaking_report : Report
overtaking_report = report sent_twice (Tried (Repeat M [] no_steps) (StuckFirst (picked side.MayBeEmpty)) ▹ no_tries)

-- the set of members may be empty
abbrev pub maybe_empty_server_report : Report
maybe_empty_server_report = report no_steps (both (Tried (For Ws [] [] (known Ws ▷ fill Ws M Ready 1 ▷ no_steps)) (StuckFirst (served side.SetIsFocused)) ▹ no_tries))

-- the two sides of the if differ
abbrev pub one_sided_report : Report
one_sided_report = report no_steps (Tried (Branch A (fill A B T 1 ▷ no_steps) no_steps) (Fails side.BranchesDiffer) ▹ no_tries)

pub record ReportExamples : Type 0 where
  -- each waits for the other; nothing could be tried
  pub crossed_waits : Reports crossed crossed_report
  -- a rule applies at the start, and after the first pass; and a report tells of code that is left
  pub ping_pong_goes : Refuted ping_pong (report no_steps no_tries)
  pub two_messages_go_on : Refuted two_messages (report (pass A B T ▷ no_steps) no_tries)
  pub unread_is_at_its_end : Refuted unread (report (fill A B T 1 ▷ no_steps) no_tries)
  -- no steps: this pass doesn't apply
  pub no_derivation : Refuted crossed (report (pass A B Ping ▷ no_steps) no_tries)
  -- the loop over the members in another is tried inside it, and may not be entered
  pub nested_for_stops : Reports nested_for nested_for_report
  pub without_inner_try : Refuted nested_for (report no_steps (outer no_tries))
  pub with_another_fault : Refuted nested_for (report no_steps (outer (Tried (For Ws (M ∷ []) [] no_steps) (Fails side.TooDeep) ▹ no_tries)))
  pub without_a_try : Refuted nested_for (report no_steps no_tries)
  pub not_for_its_owner : Refuted nested_for (report no_steps (Tried (For Ws [] [] no_steps) (Fails side.SetIsFocused) ▹ no_tries))
  -- a member's second message may be taken in its first turn; M's loop as a repeat may find the set empty
  pub overtaking_stops : Reports overtaking overtaking_report
  -- with a gather in the repeat's place: it fails by the member's second message, unless that may still be sent
  pub by_gather : Reports overtaking (report no_steps (
      Tried (Gather M [] (pass Ws M T ▷ fill Ws M T 1 ▷ no_steps)) (Fails side.MailLeft) ▹ of_set
      ))
  pub member_goes_on : Refuted overtaking (report no_steps (Tried (Gather M [] (pass Ws M T ▷ no_steps)) (Fails side.NotQuiet) ▹ of_set))
  pub set_untold : Refuted overtaking (report no_steps (Tried (Repeat M [] no_steps) (StuckFirst (picked side.MayBeEmpty)) ▹ no_tries))
  pub stops_early : Refuted overtaking (report (For Ws [] [] (fill Ws M T 1 ▷ no_steps) ▷ no_steps) (Tried (Repeat M [] no_steps) (StuckFirst (picked side.MayBeEmpty)) ▹ no_tries))
  -- the set of members may be empty
  pub maybe_empty_server_stops : Reports maybe_empty_server maybe_empty_server_report
  pub stops_inside : Refuted maybe_empty_server (report no_steps (both (
      Tried (For Ws [] [] (known Ws ▷ no_steps)) (StuckFirst (served side.SetIsFocused)) ▹ no_tries
      )))
  pub the_other_fault : Refuted maybe_empty_server (report no_steps (both (
      Tried (For Ws [] [] (known Ws ▷ fill Ws M Ready 1 ▷ no_steps)) (StuckFirst (served side.MayBeEmpty)) ▹ no_tries
      )))
  -- the two sides of the if differ
  pub one_sided_stops : Reports one_sided one_sided_report
  pub side_undone : Refuted one_sided (report no_steps (Tried (Branch A no_steps no_steps) (Fails side.BranchesDiffer) ▹ no_tries))
  pub side_goes_on : Refuted one_sided (report no_steps (Tried (Branch A no_steps no_steps) (StuckFirst no_tries) ▹ no_tries))
  pub another_fault : Refuted one_sided (report no_steps (Tried (Branch A (fill A B T 1 ▷ no_steps) no_steps) (Fails side.MailChanged) ▹ no_tries))
