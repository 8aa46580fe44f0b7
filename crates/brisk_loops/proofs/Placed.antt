-- What follows a thread's code, rule by rule.
use Rattle.std.proofs.Common.{◌≡◌, ℕ, ◌<◌, Bool, true, false, List, [], ◌∷◌, ◌++◌, reverse, length, get_or, Option, Some, refl, sym, ap, ◌∙◌, arith}
use Rattle.std.specs.Prelude.{zero, suc, None, Ok, Err, if◌then◌else◌}
use Rattle.std.proofs.lemmas.List.{reverse-append}
use Rattle.brisk_values.specs.Names.{Name}
use Rattle.brisk_syntax.specs.declared.program.Program.{Program}
use Rattle.brisk_state.specs.Symbolic.{Symbolic, thread_named}
use Rattle.brisk_basic.specs.Outcomes.{and_then}
use Rattle.brisk_derivation.specs.Seen.{step_of}
use Rattle.brisk_quiet.specs.Sender.{Piece}
use Rattle.brisk_rules.specs.Following.{Follow, is_owner, piece_of}
use Rattle.brisk_rules.specs.Rules.{Outcome, Entered, Parted, code_in}
use Rattle.brisk_loops.specs.CloseSeen.{kind_of}
use Rattle.brisk_loops.specs.LeaveSeen.{Closes}
use Rattle.brisk_loops.specs.PiecesSeen.{in_rule, before}
use Rattle.brisk_loops.specs.Walk.{Inside, Premise, First, Second, entry, follows, follows_inside}
use Rattle.brisk_loops.specs.WalkSeen.{AreEntered, IsEntered, inside_of, opened_by}
use Rattle.brisk_loops.specs.declared.leave.Closing.{Closing}
use Rattle.brisk_loops.specs.declared.rule.Rule.{Rule}
use Rattle.brisk_loops.specs.declared.rule.Side.{Side}
use Rattle.brisk_loops.specs.declared.rule.Side.TheVariants as side
use Rattle.brisk_loops.proofs.Enters.{one_opened}

-- a rule puts its piece before what follows
puts : (S : Symbolic) (i : Inside) (F : Follow) (u : Name) → follows_inside S i F u ≡ before (in_rule S u i) (F u)
puts S (Premise r) F u = by (is_owner r.owners u)
  where
    by : (b : Bool) → (if b then piece_of r.kind (code_in (thread_named S.threads u)) ∷ F u else F u) ≡ before (if b then Some (piece_of r.kind (code_in (thread_named S.threads u))) else None) (F u)
    by true = refl
    by false = refl
puts S (First r) F u = refl
puts S (Second r E X) F u = refl

abbrev pub place_of : Program → Rule → Inside
place_of P r = inside_of (entry P r.state (step_of r.step)) r.side r.state

-- the rules before this one, and this one
pub one_rule : (P : Program) (rs : List Rule) (r : Rule) (u : Name) → follows (opened_by P (rs ++ r ∷ [])) u ≡ before (in_rule r.state u (place_of P r)) (follows (opened_by P rs) u)
one_rule P rs r u = ap (λ os. follows os u) (one_opened P rs r) ∙ puts r.state (place_of P r) (follows (opened_by P rs)) u

pub entered_at : (P : Program) (rs : List Rule) (k : ℕ) (d : Rule) → k < length rs → AreEntered P rs → IsEntered (entry P (get_or rs k d).state (step_of (get_or rs k d).step)) (get_or rs k d).side
entered_at P [] k d lt h = absurd (omega arith)
entered_at P (r ∷ rs) zero d lt h = h.0
entered_at P (r ∷ rs) (suc k) d lt h = entered_at P rs k d (omega arith) h.1

pub one_piece : (pieces pieces' : List Piece) (p : Piece) (o : Option Piece) (more : List Piece) → pieces' ≡ pieces ++ p ∷ [] → Some p ≡ o → reverse pieces ≡ more → reverse pieces' ≡ before o more
one_piece pieces pieces' p o more next is h = ap reverse next ∙ reverse-append pieces (p ∷ []) ∙ ap (λ z. p ∷ z) h ∙ ap (λ z. before z more) is

pub no_piece : (pieces : List Piece) (o : Option Piece) (more : List Piece) → None ≡ o → reverse pieces ≡ more → reverse pieces ≡ before o more
no_piece pieces o more is h = h ∙ ap (λ z. before z more) is

-- a branch puts none
pub none_of_branch : (x : Outcome Parted) (s : Side) (S : Symbolic) (u : Name) → IsEntered (and_then x (λ r. Ok (First r))) s → None ≡ in_rule S u (inside_of (and_then x (λ r. Ok (First r))) s S)
none_of_branch (Ok r) side.First S u h = refl
none_of_branch (Ok r) (side.Second F Y) S u h = refl
none_of_branch (Err why) s S u h = absurd h

-- where a walk stands in the premise of a rule
pub in_its_premise : (x : Outcome Inside) (s : Side) (S : Symbolic) (r : Entered) → x ≡ Ok (Premise r) → inside_of x s S ≡ Premise r
in_its_premise x s S r h = ap (λ z. inside_of z s S) h

-- a rule that is seen as it closes puts its piece for its owners alone
pub none_of_others : (S : Symbolic) (u : Name) (r : Entered) (k : Closing) (i : Inside) → i ≡ Premise r → Closes k r → is_owner k.owners.items u ≡ false → None ≡ in_rule S u i
none_of_others S u r k i at is other =
    ap (λ b. if b then Some (piece_of r.kind (code_in (thread_named S.threads u))) else None) (sym other ∙ ap (λ os. is_owner os u) is.0) ∙ ap (in_rule S u) (sym at)

pub its_piece : (S : Symbolic) (u : Name) (r : Entered) (k : Closing) (i : Inside) (p : Piece) → i ≡ Premise r → Closes k r → is_owner k.owners.items u ≡ true → p ≡ piece_of (kind_of k.kind) (code_in (thread_named S.threads u)) → Some p ≡ in_rule S u i
its_piece S u r k i p at is own e =
    ap Some (e ∙ ap (λ z. piece_of z (code_in (thread_named S.threads u))) is.1)
    ∙ ap (λ b. if b then Some (piece_of r.kind (code_in (thread_named S.threads u))) else None) (sym own ∙ ap (λ os. is_owner os u) is.0) ∙ ap (in_rule S u) (sym at)
