-- Derivations of the small programs that are valid, and tampered ones with what fails first.
use Rattle.std.specs.Prelude.{◌≡◌, ℕ, zero, suc, List, [], ◌∷◌, Ok, Err}
use Rattle.brisk_values.specs.Names.{Name, member}
use Rattle.brisk_seq.specs.Items.{Fill, nothing, ◌⨟◌}
use Rattle.brisk_syntax.specs.Syntax.{Num}
use Rattle.brisk_basic.specs.declared.rule.RuleFault.TheVariants.{NoThread, WrongHead, BoxInUse, NothingPending, AlreadyPending}
use Rattle.brisk_derivation.specs.declared.fault.SideFault.TheVariants as side
use Rattle.brisk_derivation.specs.declared.steps.BasicStep.TheVariants.{Assign, Fill as FillStep, Pass, Take, Known}
use Rattle.brisk_derivation.specs.declared.steps.Fact.{Fact}
use Rattle.brisk_derivation.specs.Steps.{Step, Basic, Branch, While, For, Repeat, Gather, Pick, Steps, no_steps, ◌▷◌}
use Rattle.brisk_rules.specs.declared.why.Why.{Why}
use Rattle.brisk_rules.specs.declared.why.Why.TheVariants.{Rule, Side}
use Rattle.brisk_rules.specs.Derives.{Failure, Valid, Invalid, sequential}
use Rattle.brisk_seq.specs.Sequential.{BadChoice}
use Rattle.brisk_sound.specs.Examples.{of_one, of_member, taking_from, two_members, all_inputs}
use Rattle.brisk_rules.specs.Unfolding.{unfolded}
use Rattle.brisk_sound.specs.Samples.{A, B, M, Ws, T, x, last, k, t, collect, collect_in_order, two_messages, two_messages_loose, maybe_empty_server}
use Rattle.brisk_sound.specs.Protocols.{G, H, Us, Ask, Reply, s, late_box, late_box_items, ask_all, ask_all_loose, ask_all_items, sends_again, sends_to_each, sends_to_each_items, overtaking, unread, endless_sender, nested_for, one_sided, learnt_again, deep}

-- steps by basic rules
abbrev pub assign : Name → Step
assign t = Basic (Assign t)

abbrev pub fill : Name → Name → Name → ℕ → Step
fill t u c n = Basic (FillStep t u c n)

abbrev pub pass : Name → Name → Name → Step
pass t u c = Basic (Pass t u c)

abbrev pub take : Name → Name → Name → Step
take t u c = Basic (Take t u c)

abbrev pub known : Name → Step
known t = Basic (Known t)

-- a fact to drop
abbrev pub fact : Name → Name → Fact
fact t x = record { at = t; variable = x }

-- this fails first, told at this line
abbrev pub at_line : ℕ → Why → Failure
at_line line why = record { line = line; why = why }

-- the derivation of `late_box`
abbrev pub late_box_steps : Steps
late_box_steps = fill A B T 1 ▷ assign A ▷ pass A B G ▷ take A B T ▷ no_steps

-- the derivation of `ask_all`, with these owners of its `for`, these drops of its gather and these last steps in it
abbrev pub ask_all_by : List Name → List Fact → Steps → Steps
ask_all_by owners drops last_steps = For Ws owners [] (pass H Ws Ask ▷ no_steps) ▷ Gather H drops (pass Ws H Reply ▷ last_steps) ▷ no_steps

-- the derivation of `collect`
abbrev pub collect_steps : Steps
collect_steps = Gather M (fact M x ∷ fact M last ∷ []) (pass Ws M T ▷ assign M ▷ no_steps) ▷ no_steps

-- so many branches one in another
abbrev pub branches : ℕ → Steps
branches zero = no_steps
branches (suc m) = Branch A (branches m) no_steps ▷ no_steps

-- what the definitions give
pub record Derivations : Type 0 where
  -- valid derivations with their programs
  pub late_box_valid : Valid late_box late_box_steps (sequential late_box late_box_items)
  pub ask_all_valid : Valid ask_all (ask_all_by (H ∷ []) (fact H s ∷ fact H x ∷ []) (assign H ▷ no_steps)) (sequential ask_all ask_all_items)
  pub collect_valid : Valid collect collect_steps collect_in_order
  -- on loose channels: what the later turns of a `for` send goes to other members, and a turn that begins with a receive waits
  pub ask_all_loose_valid : Valid ask_all_loose (ask_all_by (H ∷ []) (fact H s ∷ fact H x ∷ []) (assign H ▷ no_steps)) (sequential ask_all_loose ask_all_items)
  pub sends_to_each_valid : Valid sends_to_each (For Us (M ∷ []) [] (For Ws (M ∷ Us ∷ []) (fact Us x ∷ []) (pass Us M G ▷ pass M Us T ▷ no_steps) ▷ no_steps) ▷ no_steps) (sequential sends_to_each sends_to_each_items)
  -- a message that nobody receives may be left
  pub unread_valid : Valid unread (fill A B T 1 ▷ no_steps) (sequential unread (Fill 1 A B (Num 1 ∷ []) ⨟ nothing))
  -- a name that no thread has, another thread's statement, two steps in the wrong order, and a channel without a message
  pub no_thread : Invalid late_box (fill A B T 1 ▷ assign G ▷ pass A B G ▷ take A B T ▷ no_steps) (at_line 3 (Rule NoThread))
  pub other_head : Invalid late_box (fill A B T 1 ▷ assign B ▷ pass A B G ▷ take A B T ▷ no_steps) (at_line 3 (Rule WrongHead))
  pub swapped : Invalid late_box (assign A ▷ fill A B T 1 ▷ pass A B G ▷ take A B T ▷ no_steps) (at_line 2 (Rule WrongHead))
  pub nothing_pending : Invalid late_box (fill A B T 1 ▷ assign A ▷ take A B G ▷ no_steps) (at_line 4 (Rule NothingPending))
  -- a derivation that stops early
  pub stops : Invalid late_box (fill A B T 1 ▷ assign A ▷ no_steps) (at_line 4 (Side (side.Unfinished A)))
  pub leaves_a_message : Invalid late_box (fill A B T 1 ▷ assign A ▷ pass A B G ▷ no_steps) (at_line 5 (Side (side.Unfinished B)))
  -- a box that is filled again while its message pends, a box number out of range, and a pass that would overtake
  pub box_in_use : Invalid two_messages (fill A B T 1 ▷ fill A B T 1 ▷ take A B T ▷ take A B T ▷ no_steps) (at_line 3 (Rule BoxInUse))
  pub no_box : Invalid late_box (fill A B T 1000001 ▷ no_steps) (at_line 2 (Rule BoxInUse))
  pub passes_by : Invalid two_messages (fill A B T 1 ▷ pass A B T ▷ no_steps) (at_line 3 (Rule AlreadyPending))
  -- on a loose channel: a sender that sends again, two messages of which the one is taken, and a loop whose next turn sends again
  pub sends_twice : Invalid two_messages_loose (pass A B T ▷ pass A B T ▷ no_steps) (at_line 2 (Side side.SenderNotQuiet))
  pub many_pending : Invalid two_messages_loose (fill A B T 1 ▷ fill A B T 2 ▷ take A B T ▷ take A B T ▷ no_steps) (at_line 4 (Side side.ManyPending))
  pub loop_sends_again : Invalid sends_again (Repeat A [] (Repeat B [] (pass A B T ▷ no_steps) ▷ no_steps) ▷ no_steps) (at_line 4 (Side side.SenderNotQuiet))
  -- a loop over the members without its owner
  pub no_owner : Invalid ask_all (ask_all_by [] (fact H s ∷ fact H x ∷ []) (assign H ▷ no_steps)) (at_line 3 (Rule WrongHead))
  -- a gather without a drop that it needs, or without a step
  pub no_drop : Invalid ask_all (ask_all_by (H ∷ []) (fact H x ∷ []) (assign H ▷ no_steps)) (at_line 8 (Side side.FactLost))
  pub owner_unfinished : Invalid ask_all (ask_all_by (H ∷ []) (fact H s ∷ fact H x ∷ []) no_steps) (at_line 7 (Side (side.OwnerUnfinished H)))
  -- members that may send again, or did
  pub not_quiet : Invalid overtaking (Gather M (fact M x ∷ []) (pass Ws M T ▷ no_steps) ▷ no_steps) (at_line 4 (Side side.NotQuiet))
  pub mail_left : Invalid overtaking (Gather M (fact M x ∷ []) (pass Ws M T ▷ fill Ws M T 1 ▷ no_steps) ▷ no_steps) (at_line 5 (Side side.MailLeft))
  -- a set that is in focus already, and one that may be empty
  pub focused : Invalid nested_for (For Ws (M ∷ []) [] (For Ws (M ∷ []) [] no_steps ▷ no_steps) ▷ no_steps) (at_line 3 (Side side.SetIsFocused))
  pub may_be_empty : Invalid maybe_empty_server (While M (fact M k ∷ fact Ws t ∷ []) (Pick M [] no_steps ▷ no_steps) ▷ no_steps) (at_line 3 (Side side.MayBeEmpty))
  -- turns that leave a message, sides that end in different states, and a fact that the guard alone gives back
  pub mail_changed : Invalid endless_sender (While A [] (fill A B T 1 ▷ no_steps) ▷ no_steps) (at_line 4 (Side side.MailChanged))
  pub branches_differ : Invalid one_sided (Branch A (fill A B T 1 ▷ no_steps) no_steps ▷ no_steps) (at_line 5 (Side side.BranchesDiffer))
  pub fact_lost : Invalid learnt_again (While A [] (known A ▷ assign A ▷ assign A ▷ no_steps) ▷ no_steps) (at_line 6 (Side side.FactLost))
  -- one rule too many in another
  pub too_deep : Invalid deep (branches 257) (at_line 258 (Side side.TooDeep))
  -- canonical schedules: of `collect` with the second member first, and of `late_box`
  pub collect_unfolds : unfolded collect collect_steps collect_in_order two_members (1 ∷ 0 ∷ []) 0
      ≡ Ok (of_one M ∷ of_member Ws 1 ∷ taking_from M (member Ws 1) ∷ of_one M ∷ of_one M ∷ of_member Ws 0 ∷ taking_from M (member Ws 0) ∷ of_one M ∷ of_one M ∷ [])
  pub late_box_unfolds : unfolded late_box late_box_steps (sequential late_box late_box_items) (all_inputs 7) [] 0
      ≡ Ok (of_one A ∷ of_one A ∷ of_one A ∷ of_one B ∷ of_one B ∷ [])
  -- a choice that was used already stops the sequential program, and so there is none
  pub collect_stops : unfolded collect collect_steps collect_in_order two_members (1 ∷ 1 ∷ []) 0 ≡ Err (BadChoice 2)
