-- The premise of each rule starts as the state before it, where the tests of the close look.
use Rattle.std.proofs.Common.{◌≡◌}
use Rattle.std.specs.Prelude.{Ok, Err}
use Rattle.brisk_syntax.specs.declared.program.Program.{Program}
use Rattle.brisk_state.specs.Symbolic.{Symbolic}
use Rattle.brisk_derivation.specs.Seen.{step_of}
use Rattle.brisk_derivation.specs.declared.steps.Step.{Step}
use Rattle.brisk_derivation.specs.declared.steps.Step.TheVariants.{Basic, Branch, While, For, Repeat, Gather, Pick}
use Rattle.brisk_basic.specs.Outcomes.{and_then}
use Rattle.brisk_rules.specs.Rules.{Outcome, Entered, Parted, enter_branch, enter_while, enter_for, enter_repeat, enter_gather, enter_pick}
use Rattle.brisk_loops.specs.CloseSeen.{drops_in}
use Rattle.brisk_loops.specs.LeaveSeen.{StartsLike}
use Rattle.brisk_loops.specs.Walk.{Premise, First, entry}
use Rattle.brisk_loops.proofs.Leaving.{premise_of, while_like, repeat_like, gather_like, pick_like}
use Rattle.brisk_loops.proofs.Owners.{for_like}

no_premise : (x : Outcome Parted) (r : Entered) → and_then x (λ q. Ok (First q)) ≡ Ok (Premise r) → ⊥
no_premise (Ok q) r e = cc
no_premise (Err why) r e = cc

pub starts_like : (P : Program) (S : Symbolic) (A : Step) (r : Entered) → entry P S (step_of A) ≡ Ok (Premise r) → StartsLike r (drops_in A) S
starts_like P S (Basic b) r e = absurd cc
starts_like P S (Branch t a b) r e = absurd (no_premise (enter_branch S t) r e)
starts_like P S (While t drops a) r e = while_like S t drops r (premise_of (enter_while S t drops) r e)
starts_like P S (For s ts drops a) r e = for_like S s ts drops r (premise_of (enter_for S s ts drops) r e)
starts_like P S (Repeat t drops a) r e = repeat_like S t drops r (premise_of (enter_repeat S t drops) r e)
starts_like P S (Gather t drops a) r e = gather_like S t drops r (premise_of (enter_gather S t drops) r e)
starts_like P S (Pick t drops a) r e = pick_like P S t drops r (premise_of (enter_pick P S t drops) r e)
