-- Who goes on in a premise whose owners are at their end, and where code stands, as the search looks it up.
use Rattle.std.proofs.Common.{◌≡◌, ℕ, suc, ◌+◌, ◌-◌, ◌<◌, Bool, true, false, Option, Some, None, List, [], ◌∷◌, ◌++◌, length, map, refl, sym, ap, ◌∙◌, subst, arith}
use Rattle.std.specs.Prelude.{◌&&◌, ◌||◌, filter, reverse, if◌then◌else◌, Ok, Err}
use Rattle.std.specs.List.{list_any}
use Rattle.std.specs.Option.{option_eq}
use Rattle.std.proofs.lemmas.List.{reverse-append}
use Rattle.std.proofs.lemmas.List.Folds.{list_any-append}
use Rattle.std.proofs.lemmas.Option.{same_Some}
use Rattle.std.proofs.Math.Bool.{or-false}
use Rattle.brisk_values.specs.Names.{Name, same_name}
use Rattle.brisk_values.proofs.Changes.{name_laws}
use Rattle.brisk_syntax.specs.Segments.{head_of}
use Rattle.brisk_syntax.specs.declared.tree.Who.{Who}
use Rattle.brisk_syntax.specs.Syntax.{Recv, Code, done, ◌⨾◌}
use Rattle.brisk_syntax.specs.Typing.{is_among}
use Rattle.brisk_state.specs.Pending.{has_new_for}
use Rattle.brisk_state.specs.declared.thread.Thread.{Thread}
use Rattle.brisk_state.specs.Focus.{code_of}
use Rattle.brisk_state.specs.Symbolic.{Symbolic, code_at, thread_named}
use Rattle.brisk_basic.specs.Basic.{Applied}
use Rattle.brisk_derivation.specs.declared.steps.BasicStep.TheVariants as basic
use Rattle.brisk_loops.specs.LeaveSeen.{Closes}
use Rattle.brisk_loops.specs.Walk.{Open}
use Rattle.brisk_loops.specs.WalkSeen.{fault_by}
use Rattle.brisk_rules.specs.declared.why.Why.{Why}
use Rattle.brisk_rules.specs.Derives.{apply_quietly, rule_of}
use Rattle.brisk_rules.specs.Rules.{Outcome, Entered, Owner, code_in, looks}
use Rattle.brisk_rules.specs.Standing.{fault_aside, focus_of, has_code, has_new_message, is_candidate, is_moved, is_not_quiet, owners_of, stands_at, thread_of}
use Rattle.brisk_search.specs.declared.closing.Premise.{Premise}
use Rattle.brisk_search.specs.declared.standing.Next.{Next}
use Rattle.brisk_search.specs.declared.standing.Next.TheVariants as next
use Rattle.brisk_search.specs.Advance.{Around, actor, at_code, passed_on, unless_taken, waits_for}
use Rattle.brisk_search.specs.Drives.{candidates_of, in_turn, must_end, others, premise_of}
use Rattle.brisk_search.specs.Views.{IsBefore, IsPremiseOf, StandsLike, focus_names, next_by, next_in, passes_to}

-- a rule whose premise this is starts like the state before
pub before_it : (r : Entered) (p : Premise) (os : List Open) (S : Symbolic) → IsPremiseOf r p os → IsBefore S p os → Closes p.closing r × (r.start.pending ≡ S.pending) × StandsLike r S
before_it r p os S (o, at, inside, closes, starts, stands) (b, there, is) =
    let same : o.state ≡ S = ap (λ (x : Open). x.state) (same_Some o b (sym at ∙ there)) ∙ is in
    (closes, starts.1 ∙ ap (λ (T : Symbolic). T.pending) same, subst (StandsLike r) same stands)

-- the messages that are new since the premise's start are those that are new since the state before
pub new_since : (r : Entered) (S E : Symbolic) (u : Name) → r.start.pending ≡ S.pending → has_new_message r E u ≡ has_new_for S.pending E.pending u
new_since r S E u e = ap (λ before. has_new_for before E.pending u) e

-- who has no new message and hasn't moved goes on where it is in focus and may send
pub goes_by_focus : (r : Entered) (E : Symbolic) (u : Name) → has_new_message r E u ≡ false → is_moved r E u ≡ false → is_candidate r E u ≡ (is_among (focus_of (looks r.kind)) u && is_not_quiet (fault_aside r E))
goes_by_focus r E u new moved = (λ i. new i || is_moved r E u || is_among (focus_of (looks r.kind)) u && is_not_quiet (fault_aside r E)) ∙ (λ i. moved i || is_among (focus_of (looks r.kind)) u && is_not_quiet (fault_aside r E))

pub among_focus : (o : Option Name) (u : Name) → option_eq same_name o (Some u) ≡ is_among (focus_names o) u
among_focus None u = refl
among_focus (Some s) u = name_laws.symm s u ∙ sym (or-false (same_name u s))

pub owners_pass : (p : Name → Bool) (owners : List Owner) → list_any (λ o. p o.name) owners ≡ list_any p (map (λ o. o.name) owners)
owners_pass p [] = refl
owners_pass p (o ∷ os) = ap (λ b. p o.name || b) (owners_pass p os)

-- the threads whose code must come to its end are the owners, where there are any
pub must_end_owners : (p : Name → Bool) (r : Entered) (owners : List Owner) → r.owners ≡ owners → (length owners ≡ 0 → ⊥) → list_any (λ o. p o.name) owners ≡ list_any p (must_end r)
must_end_owners p r [] e h = absurd (h refl)
must_end_owners p r (o ∷ os) e h = owners_pass p (o ∷ os) ∙ (λ i. list_any p (must_end record r { owners = sym e i }))

-- who comes in turn in a premise with owners: all others where an owner has code, and else those that go on
pub all_in_turn : (r : Entered) (S : Symbolic) (names : List Name) → names ≡ owners_of r → list_any (has_code S) (owners_of r) ≡ true → names ++ others names S ≡ in_turn (premise_of r) S
all_in_turn r S names e h = ap (λ ns. ns ++ others ns S) e ∙ ap (λ b. owners_of r ++ (if b then others (owners_of r) S else candidates_of r (owners_of r) S)) (sym h)

pub some_in_turn : (r : Entered) (S : Symbolic) (names : List Name) → names ≡ owners_of r → (length r.owners ≡ 0 → ⊥) → list_any (has_code S) (owners_of r) ≡ false →
    names ++ filter (is_candidate r S) (others names S) ≡ in_turn (premise_of r) S
some_in_turn r S names e h none =
    ap (λ ns. ns ++ filter (is_candidate r S) (others ns S)) e ∙ ap (λ ns. owners_of r ++ ns) (by r.owners h)
    ∙ ap (λ b. owners_of r ++ (if b then others (owners_of r) S else candidates_of r (owners_of r) S)) (sym none)
  where
    by : (os : List Owner) → (length os ≡ 0 → ⊥) → filter (is_candidate r S) (others (map (λ o. o.name) os) S) ≡ candidates_of r (map (λ o. o.name) os) S
    by [] f = absurd (f refl)
    by (o ∷ os) f = refl

-- the thread's code, as it is looked up
pub code_told_in : (S : Symbolic) (t : Name) (c : Code) → code_of (thread_named S.threads t) ≡ Some c → c ≡ stands_at S t
code_told_in S t c e = by (thread_named S.threads t) e
  where
    by : (o : Option Thread) → code_of o ≡ Some c → c ≡ code_in o
    by None f = absurd cc
    by (Some u) f = sym (same_Some u.code c f)

-- ---- turns that are passed on

-- a receive that can't be taken passes the turn to its sender
pub passes_on : (A : Around) (S : Symbolic) (t : Name) (code : Code) (c : Name) (xs : List Name) (u : Who) (why : Why) → code_at S t ≡ Some code → head_of code ≡ Some (Recv c xs u) →
    fault_by (apply_quietly A.program A.follows S (rule_of (basic.Take (thread_of u) t c))) ≡ Some why → next.Sender (thread_of u) ≡ next_in A S t
passes_on A S t done c xs u why at e f = absurd cc
passes_on A S t (x ⨾ rest) c xs u why at e f =
    sym (by (apply_quietly A.program A.follows S (rule_of (basic.Take (thread_of u) t c))) f) ∙ ap (λ y. passes_to (waits_for A S t (y ⨾ rest))) (sym (same_Some x (Recv c xs u) e)) ∙ ap (next_by A S t) (sym at)
  where
    by : (o : Outcome Applied) → fault_by o ≡ Some why → passes_to (unless_taken (thread_of u) o) ≡ next.Sender (thread_of u)
    by (Ok r) g = absurd cc
    by (Err other) g = refl

-- who acts, by whom the turn passes to
abbrev pub acts_by_next : Around → ℕ → Symbolic → List Name → Name → Next → Option Name
acts_by_next A n S waiting t next.Nobody = None
acts_by_next A n S waiting t next.Itself = Some t
acts_by_next A n S waiting t (next.Sender u) = if is_among waiting u then None else actor A n S (t ∷ waiting) u

pub actor_by : (A : Around) (n : ℕ) (S : Symbolic) (waiting : List Name) (t : Name) → actor A (suc n) S waiting t ≡ acts_by_next A n S waiting t (next_in A S t)
actor_by A n S waiting t = by (code_at S t)
  where
    waited : (o : Option Name) → passed_on (actor A n S (t ∷ waiting)) waiting t o ≡ acts_by_next A n S waiting t (passes_to o)
    waited None = refl
    waited (Some u) = refl

    by : (o : Option Code) → at_code o (λ code. passed_on (actor A n S (t ∷ waiting)) waiting t (waits_for A S t code)) ≡ acts_by_next A n S waiting t (next_by A S t o)
    by None = refl
    by (Some done) = refl
    by (Some (s ⨾ c)) = waited (waits_for A S t (s ⨾ c))

pub one_actor : (A : Around) (n k : ℕ) (S : Symbolic) (waiting : List Name) (t : Name) (next : Next) → k < n → next_in A S t ≡ next → actor A (n - k) S waiting t ≡ acts_by_next A (n - (k + 1)) S waiting t next
one_actor A n k S waiting t next h e =
    let one : n - k ≡ suc (n - (k + 1)) = omega (arith, h) in
    ap (λ m. actor A m S waiting t) one ∙ actor_by A (n - (k + 1)) S waiting t ∙ ap (acts_by_next A (n - (k + 1)) S waiting t) e

-- the turn is passed on to a sender that doesn't wait
pub sender_acts : (A : Around) (n : ℕ) (S : Symbolic) (waiting : List Name) (t u : Name) → is_among waiting u ≡ false → actor A n S (t ∷ waiting) u ≡ acts_by_next A n S waiting t (next.Sender u)
sender_acts A n S waiting t u e = ap (λ b. if b then None else actor A n S (t ∷ waiting) u) (sym e)

pub sender_waits : (A : Around) (n : ℕ) (S : Symbolic) (waiting : List Name) (t u : Name) → is_among waiting u ≡ true → acts_by_next A n S waiting t (next.Sender u) ≡ None
sender_waits A n S waiting t u e = ap (λ b. if b then None else actor A n S (t ∷ waiting) u) e

either_way : (a b : Bool) → (a || b) ≡ (b || a)
either_way true true = refl
either_way true false = refl
either_way false true = refl
either_way false false = refl

pub any_reverse : {A : Type 0} (p : A → Bool) (xs : List A) → list_any p (reverse xs) ≡ list_any p xs
any_reverse p [] = refl
any_reverse p (x ∷ xs) =
    ap (list_any p) (reverse-append (x ∷ []) xs) ∙ list_any-append p (reverse xs) (x ∷ []) ∙ (λ i. any_reverse p xs i || or-false (p x) i) ∙ either_way (list_any p xs) (p x)
