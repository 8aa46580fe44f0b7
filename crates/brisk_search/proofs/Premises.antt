-- The premise of a rule among the rules that a walk has entered.
use Rattle.std.proofs.Common.{◌≡◌, ℕ, ◌<◌, Bool, true, false, Some, List, [], ◌∷◌, length, nat_eq, refl, sym, ap, ◌∙◌, subst, arith}
use Rattle.std.specs.Prelude.{Ok, if◌then◌else◌}
use Rattle.std.specs.List.{list_any}
use Rattle.std.proofs.lemmas.Bool.{eqb-true, eqb-false}
use Rattle.brisk_values.specs.Names.{Name, same_name}
use Rattle.brisk_values.proofs.Changes.{exact_name, neither}
use Rattle.brisk_syntax.specs.declared.program.Program.{Program}
use Rattle.brisk_syntax.specs.Syntax.{Code}
use Rattle.brisk_async.specs.Laws.{AnyReceive}
use Rattle.brisk_state.specs.declared.thread.Mode.{Mode}
use Rattle.brisk_state.specs.declared.thread.Mode.TheVariants.{At}
use Rattle.brisk_state.specs.declared.thread.Thread.{Thread}
use Rattle.brisk_state.specs.Symbolic.{Symbolic, thread_named, with_code, with_mode}
use Rattle.brisk_derivation.specs.declared.fault.SideFault.TheVariants.{MayBeEmpty}
use Rattle.brisk_derivation.specs.declared.steps.Fact.{Fact}
use Rattle.brisk_loops.specs.LeaveSeen.{StartsLike}
use Rattle.brisk_loops.specs.Walk.{Inside, Premise as in_premise, Open, premise_at, premise_in, rule_at}
use Rattle.brisk_loops.proofs.Leaving.{while_like, repeat_like, gather_like, pick_like}
use Rattle.brisk_loops.proofs.Owners.{for_like}
use Rattle.brisk_rules.specs.declared.why.Why.TheVariants.{Side}
use Rattle.brisk_rules.specs.Following.{Follow}
use Rattle.brisk_rules.specs.Heads.{Loop, while_of, repeat_of, gather_of, any_of, from_focus}
use Rattle.brisk_rules.specs.Rules.{Outcome, Entered, Owner, Kind as RuleKind, at_bodies, can_focus, code_in, enter_for, enter_gather, enter_pick, enter_repeat, enter_while, entered_alone, entered_any, is_nonempty, loops_of, mode_of, not_focused, with_rests, without_drops}
use Rattle.brisk_rules.specs.Rules as rules
use Rattle.brisk_rules.proofs.Fulfilled.{and_then_ok, at_head_ok, same_ok, when_ok}
use Rattle.brisk_search.specs.declared.closing.Premise.{Premise}
use Rattle.brisk_search.specs.declared.compound.Kind.{Kind}
use Rattle.brisk_search.specs.declared.compound.Kind.TheVariants as kind
use Rattle.brisk_search.specs.declared.drive.Drive.{Drive as Asked}
use Rattle.brisk_search.specs.declared.drive.Drive.TheVariants as asked
use Rattle.brisk_search.specs.Drives.{premise_of}
use Rattle.brisk_search.specs.Views.{Fits, IsPremiseOf, StandsLike, drive_seen, or_nothing, rule_by}
use Rattle.brisk_search.proofs.Starts.{focused_more, unfocused_more}

-- ---- rules by how many stand around them

at_less : (os : List Open) (k : ℕ) (x : Open) → rule_at os k ≡ Some x → k < length os
at_less [] k x e = absurd cc
at_less (o ∷ os) k x e = by (at_less os k x) (nat_eq (length os) k) refl e
  where
    by : (rule_at os k ≡ Some x → k < length os) → (b : Bool) → nat_eq (length os) k ≡ b → (if b then Some o else rule_at os k) ≡ Some x → k < length (o ∷ os)
    by more true f g = let same = eqb-true (length os) k f in omega (arith, same)
    by more false f g = let less = more g in omega (arith, less)

not_same : (n k : ℕ) → k < n → nat_eq n k ≡ false
not_same n k h = by (nat_eq n k) refl
  where
    by : (b : Bool) → nat_eq n k ≡ b → b ≡ false
    by true e = let same = eqb-true n k e in absurd (omega (arith, same, h))
    by false e = refl

-- one more rule stands innermost
pub deeper_at : (o : Open) (os : List Open) (k : ℕ) (x : Open) → rule_at os k ≡ Some x → rule_at (o ∷ os) k ≡ Some x
deeper_at o os k x e = ap (λ b. if b then Some o else rule_at os k) (not_same (length os) k (at_less os k x e)) ∙ e

same_itself : (n : ℕ) → nat_eq n n ≡ true
same_itself n = by (nat_eq n n) refl
  where
    by : (b : Bool) → nat_eq n n ≡ b → b ≡ true
    by true e = refl
    by false e = absurd (eqb-false n n e refl)

pub innermost_at : (o : Open) (os : List Open) → rule_at (o ∷ os) (length os) ≡ Some o
innermost_at o os = ap (λ b. if b then Some o else rule_at os (length os)) (same_itself (length os))

-- ---- drives in rules

pub fits_deeper : (a : Asked) (o : Open) (os : List Open) → Fits a os → Fits a (o ∷ os)
fits_deeper asked.Top o os h = tt
fits_deeper (asked.Side t rest) o os h = tt
fits_deeper (asked.Premise p) o os (r, (x, at, inside, closes, starts, stands)) = (r, (x, deeper_at o os p.around x at, inside, closes, starts, stands))

pub seen_deeper : (a : Asked) (o : Open) (os : List Open) → Fits a os → drive_seen (o ∷ os) a ≡ drive_seen os a
seen_deeper asked.Top o os h = refl
seen_deeper (asked.Side t rest) o os h = refl
seen_deeper (asked.Premise p) o os (r, (x, at, inside, closes, starts, stands)) = ap (λ z. premise_of (or_nothing (premise_in z))) (deeper_at o os p.around x at ∙ sym at)

-- the rule of a premise that fits
pub premise_is : (p : Premise) (os : List Open) (r : Entered) → IsPremiseOf r p os → premise_at os p.around ≡ Some r
premise_is p os r (o, at, inside, closes, starts, stands) = ap premise_in at ∙ ap (λ (i : Inside). premise_in (Some (record o { inside = i }))) inside

pub premise_seen : (p : Premise) (os : List Open) (r : Entered) → IsPremiseOf r p os → drive_seen os (asked.Premise p) ≡ premise_of r
premise_seen p os r h = ap (λ z. premise_of (or_nothing z)) (premise_is p os r h)

-- in a branch, where the walk passes to the other side
pub fits_across : (a : Asked) (o q : Open) (os : List Open) → ((r : Entered) → o.inside ≡ in_premise r → ⊥) → Fits a (o ∷ os) → Fits a (q ∷ os) × (drive_seen (q ∷ os) a ≡ drive_seen (o ∷ os) a)
fits_across asked.Top o q os h f = (tt, refl)
fits_across (asked.Side t rest) o q os h f = (tt, refl)
fits_across (asked.Premise p) o q os h (r, (x, at, inside, closes, starts, stands)) =
    let e = outer (nat_eq (length os) p.around) refl at in
    let g = deeper_at q os p.around x e in
    ((r, (x, g, inside, closes, starts, stands)), ap (λ z. premise_of (or_nothing (premise_in z))) (g ∙ sym at))
  where
    some : (a b : Open) → Some a ≡ Some b → a ≡ b
    some a b e = cc

    outer : (b : Bool) → nat_eq (length os) p.around ≡ b → (if b then Some o else rule_at os p.around) ≡ Some x → rule_at os p.around ≡ Some x
    outer true f e = absurd (h r (ap (λ (z : Open). z.inside) (some o x e) ∙ inside))
    outer false f e = e

-- ---- how premises start

module _ (u : Name) where
  code_elsewhere : (t : Name) (c : Code) → same_name u t ≡ false → (ts : List Thread) → code_in (thread_named (with_code t c ts) u) ≡ code_in (thread_named ts u)
  code_elsewhere t c e [] = refl
  code_elsewhere t c e (x ∷ ts) = by (code_elsewhere t c e ts) (same_name t x.name) (same_name u x.name) refl refl
    where
      by : code_in (thread_named (with_code t c ts) u) ≡ code_in (thread_named ts u) → (a b : Bool) → same_name t x.name ≡ a → same_name u x.name ≡ b →
          code_in (thread_named ((if a then record x { code = c } else x) ∷ with_code t c ts) u) ≡ code_in (if b then Some x else thread_named ts u)
      by more true true f g = absurd (let k = sym e ∙ ap (same_name u) (exact_name t x.name f) ∙ g in cc)
      by more true false f g = ap (λ b. code_in (if b then Some (record x { code = c }) else thread_named (with_code t c ts) u)) g ∙ more
      by more false true f g = ap (λ b. code_in (if b then Some x else thread_named (with_code t c ts) u)) g
      by more false false f g = ap (λ b. code_in (if b then Some x else thread_named (with_code t c ts) u)) g ∙ more

  mode_anywhere : (s : Name) (m : Mode) (ts : List Thread) → code_in (thread_named (with_mode s m ts) u) ≡ code_in (thread_named ts u)
  mode_anywhere s m [] = refl
  mode_anywhere s m (x ∷ ts) = by (mode_anywhere s m ts) (same_name s x.name) (same_name u x.name) refl
    where
      by : code_in (thread_named (with_mode s m ts) u) ≡ code_in (thread_named ts u) → (a b : Bool) → same_name u x.name ≡ b → code_in (thread_named ((if a then record x { mode = m } else x) ∷ with_mode s m ts) u) ≡ code_in (if b then Some x else thread_named ts u)
      by more true true g = ap (λ b. code_in (if b then Some (record x { mode = m }) else thread_named (with_mode s m ts) u)) g
      by more true false g = ap (λ b. code_in (if b then Some (record x { mode = m }) else thread_named (with_mode s m ts) u)) g ∙ more
      by more false true g = ap (λ b. code_in (if b then Some x else thread_named (with_mode s m ts) u)) g
      by more false false g = ap (λ b. code_in (if b then Some x else thread_named (with_mode s m ts) u)) g ∙ more

  bodies_elsewhere : (ts : List Name) (ls : List Loop) → list_any (λ o. same_name u o.name) (with_rests ts ls) ≡ false → (threads : List Thread) → code_in (thread_named (at_bodies ts ls threads) u) ≡ code_in (thread_named threads u)
  bodies_elsewhere [] ls h threads = refl
  bodies_elsewhere (t ∷ ts) [] h threads = refl
  bodies_elsewhere (t ∷ ts) (l ∷ ls) h threads =
      let e = neither (same_name u t) (list_any (λ o. same_name u o.name) (with_rests ts ls)) h in
      bodies_elsewhere ts ls e.1 (with_code t l.body threads) ∙ code_elsewhere t l.body e.0 threads

alone_stands : (S : Symbolic) (t : Name) (body rest : Code) (drops : List Fact) (k : RuleKind) → StandsLike (entered_alone S t body rest (without_drops drops S.facts) k) S
alone_stands S t body rest drops k u h = code_elsewhere u t body (neither (same_name u t) false h).0 S.threads

any_stands : (S : Symbolic) (t : Name) (a : AnyReceive) (drops : List Fact) (k : RuleKind) → StandsLike (entered_any S t a drops k) S
any_stands S t a drops k u h = code_elsewhere u t (from_focus a) (neither (same_name u t) false h).0 (with_mode a.set At S.threads) ∙ mode_anywhere u a.set At S.threads

while_stands : (S : Symbolic) (t : Name) (drops : List Fact) (r : Entered) → enter_while S t drops ≡ Ok r → StandsLike r S
while_stands S t drops r e = let h = at_head_ok S t while_of _ r e in subst (λ (z : Entered). StandsLike z S) (same_ok _ r h.4) (alone_stands S t h.0.body h.0.rest drops (rules.While t h.0.guard))

repeat_stands : (S : Symbolic) (t : Name) (drops : List Fact) (r : Entered) → enter_repeat S t drops ≡ Ok r → StandsLike r S
repeat_stands S t drops r e = let h = at_head_ok S t repeat_of _ r e in subst (λ (z : Entered). StandsLike z S) (same_ok _ r h.4) (alone_stands S t h.0.body h.0.rest drops (rules.Repeat h.0.set))

gather_stands : (S : Symbolic) (t : Name) (drops : List Fact) (r : Entered) → enter_gather S t drops ≡ Ok r → StandsLike r S
gather_stands S t drops r e =
    let h = at_head_ok S t gather_of _ r e in
    subst (λ (z : Entered). StandsLike z S) (same_ok _ r (unfocused_more (mode_of (thread_named S.threads h.0.set)) _ r h.4)) (any_stands S t h.0 drops (rules.Gather t h.0.set h.0.channel))

pick_stands : (P : Program) (S : Symbolic) (t : Name) (drops : List Fact) (r : Entered) → enter_pick P S t drops ≡ Ok r → StandsLike r S
pick_stands P S t drops r e =
    let h = at_head_ok S t any_of _ r e in
    subst (λ (z : Entered). StandsLike z S) (same_ok _ r (when_ok (is_nonempty P h.0.set) (Side MayBeEmpty) _ r (unfocused_more (mode_of (thread_named S.threads h.0.set)) _ r h.4)).1) (any_stands S t h.0 drops (rules.Pick h.0.set))

for_stands : (S : Symbolic) (s : Name) (ts : List Name) (drops : List Fact) (r : Entered) → enter_for S s ts drops ≡ Ok r → StandsLike r S
for_stands S s ts drops r e =
    let h = and_then_ok (loops_of S s [] ts) _ r (focused_more (mode_of (thread_named S.threads s)) _ r e) in
    subst (λ (z : Entered). StandsLike z S) (same_ok _ r h.2) (λ u f. bodies_elsewhere u ts h.0 f (with_mode s At S.threads) ∙ mode_anywhere u s At S.threads)

-- each rule starts as its tests see it
pub starts_so : (P : Program) (F : Follow) (S : Symbolic) (t : Name) (ts : List Name) (k : Kind) (drops : List Fact) (r : Entered) → (rule_by P F S t ts k).enter drops ≡ Ok r → StartsLike r drops S × StandsLike r S
starts_so P F S t ts kind.While drops r e = (while_like S t drops r e, while_stands S t drops r e)
starts_so P F S t ts (kind.For s) drops r e = (for_like S s ts drops r e, for_stands S s ts drops r e)
starts_so P F S t ts kind.Repeat drops r e = (repeat_like S t drops r e, repeat_stands S t drops r e)
starts_so P F S t ts kind.Gather drops r e = (gather_like S t drops r e, gather_stands S t drops r e)
starts_so P F S t ts kind.Pick drops r e = (pick_like P S t drops r e, pick_stands P S t drops r e)
