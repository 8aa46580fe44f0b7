-- Steps that move one thread alone.
use Rattle.std.proofs.Common.{◌≡◌, ℕ, ◌+◌, true, Option, Some, None, refl, sym, ap, ◌∙◌, subst}
use Rattle.std.specs.Prelude.{if◌then◌else◌, ◌&&◌, nat_lt, Ok}
use Rattle.brisk_values.specs.declared.value.Value.{Value}
use Rattle.brisk_values.specs.Names.{Name, same_name}
use Rattle.brisk_values.proofs.Changes.{both_true, exact_name}
use Rattle.brisk_syntax.specs.declared.program.Program.{Program}
use Rattle.brisk_syntax.specs.Stores.{is_true}
use Rattle.brisk_syntax.specs.Syntax.{Assign, If, IfElse, While, Code, done, ◌⨾◌, ◌then◌}
use Rattle.brisk_syntax.specs.Typing.{are_distinct}
use Rattle.brisk_facts.specs.Facts.{common}
use Rattle.brisk_facts.specs.Learning.{folded}
use Rattle.brisk_state.specs.Symbolic.{Symbolic, code_at, with_code, same_but_facts}
use Rattle.brisk_basic.specs.declared.rule.Basic.TheVariants as rule
use Rattle.brisk_basic.specs.Basic.{Applied, assign, decided, known}
use Rattle.brisk_derivation.specs.declared.fault.SideFault.TheVariants.{TooDeep, BranchesDiffer}
use Rattle.brisk_derivation.specs.declared.steps.BasicStep.TheVariants as basic
use Rattle.brisk_derivation.specs.Steps.{Step, Basic, Branch, Steps, no_steps, ◌▷◌}
use Rattle.brisk_rules.specs.declared.why.Why.TheVariants.{Side}
use Rattle.brisk_rules.specs.Derives.{Derived, told_at, nested, apply_quietly, derive, derive_all}
use Rattle.brisk_rules.specs.Following.{Follow}
use Rattle.brisk_rules.specs.Heads.{fork_of}
use Rattle.brisk_rules.specs.Rules.{Parted, enter_branch, join}
use Rattle.brisk_sound.proofs.Applied.{at_code}
use Rattle.brisk_rules.proofs.Fulfilled.{and_then_ok, told_ok, same_ok, when_ok, at_head_ok}
use Rattle.brisk_sound.proofs.Strict.{quietly_ok}
use Rattle.brisk_rules.proofs.Threads.{names, names_with_code}
use Rattle.brisk_straight.specs.Local.{AreApart, Moves, moves_alone, all_move_alone, AloneIsAlone, AloneSidesJoin}
use Rattle.brisk_straight.proofs.Local.{code_twice, joins_same}
use Rattle.brisk_straight.proofs.Places.{own_code}

-- E is S but for the place of t and the facts
pub record Alone (t : Name) (S E : Symbolic) : Type 0 where
  pub threads : (k : Code) → with_code t k E.threads ≡ with_code t k S.threads
  pub pending : E.pending ≡ S.pending

alone_then : (t : Name) (S E F : Symbolic) → Alone t S E → Alone t E F → Alone t S F
alone_then t S E F a b = record { threads = λ k. b.threads k ∙ a.threads k; pending = b.pending ∙ a.pending }

alone_stays : (t : Name) (S : Symbolic) → Alone t S S
alone_stays t S = record { threads = λ k. refl; pending = refl }

moved_alone : (t : Name) (S E : Symbolic) (c : Code) → Moves S t c E → Alone t S E
moved_alone t S E c m = record { threads = λ k. ap (with_code t k) m.threads ∙ code_twice t c k S.threads; pending = m.pending }

-- where t stands tells the rest
pub alone_moves : (t : Name) (S E : Symbolic) (k : Code) → AreApart S → Alone t S E → code_at E t ≡ Some k → Moves S t k E
alone_moves t S E k apart a here =
    let same : names E.threads ≡ names S.threads = sym (names_with_code t done E.threads) ∙ ap names (a.threads done) ∙ names_with_code t done S.threads in
    record { threads = sym (own_code t k E.threads (ap are_distinct same ∙ apart) here) ∙ a.threads k; pending = a.pending }

assign_alone : (S : Symbolic) (t : Name) (c : Code) (r : Applied) → assign S t c ≡ Ok r → Alone t S r.next
assign_alone S t (Assign x e ⨾ rest) r g = subst (λ (z : Applied). Alone t S z.next) (same_ok _ r g) record { threads = λ k. code_twice t rest k S.threads; pending = refl }
assign_alone S t c r g = cc

decided_alone : (S : Symbolic) (t : Name) (o : Option Value) (so otherwise : Code) (r : Applied) → decided S t o so otherwise ≡ Ok r → Alone t S r.next
decided_alone S t None so otherwise r g = cc
decided_alone S t (Some v) so otherwise r g =
    subst (λ (z : Applied). Alone t S z.next) (same_ok _ r g) record { threads = λ k. code_twice t (if is_true v then so else otherwise) k S.threads; pending = refl }

known_alone : (S : Symbolic) (t : Name) (c : Code) (r : Applied) → known S t c ≡ Ok r → Alone t S r.next
known_alone S t (If e a ⨾ rest) r g = decided_alone S t (folded S.facts t e) (a then rest) rest r g
known_alone S t (IfElse e a b ⨾ rest) r g = decided_alone S t (folded S.facts t e) (a then rest) (b then rest) r g
known_alone S t (While e b ⨾ rest) r g = decided_alone S t (folded S.facts t e) (b then (While e b ⨾ rest)) rest r g
known_alone S t c r g = cc

-- the sides of a branch that was entered
pub record Sides (t : Name) (S : Symbolic) (r : Parted) : Type 0 where
  pub first : Alone t S r.first
  pub second : Alone t S r.second

pub sides_alone : (t : Name) (S : Symbolic) (r : Parted) → enter_branch S t ≡ Ok r → Sides t S r
sides_alone t S r e =
    let h = at_head_ok S t fork_of _ r e in
    subst (Sides t S) (same_ok _ r h.4) record {
      first = record { threads = λ k. code_twice t h.0.first k S.threads; pending = refl };
      second = record { threads = λ k. code_twice t h.0.second k S.threads; pending = refl };
    }

joined_alone : (t : Name) (S E F G : Symbolic) → Alone t S E → join E F ≡ Ok G → Alone t S G
joined_alone t S E F G a e =
    let w = when_ok (same_but_facts E F) (Side BranchesDiffer) _ G e in
    let is : record E { facts = common E.facts F.facts } ≡ G = same_ok _ G w.1 in
    subst (Alone t S) is record { threads = a.threads; pending = a.pending }

module _ (P : Program) (F : Follow) (t : Name) where
  mutual
    pub step_alone : (deep line : ℕ) (A : Step) (S : Symbolic) (d : Derived) → moves_alone t A ≡ true → derive P deep F A line S ≡ Ok d → Alone t S d.state
    step_alone deep line (Basic (basic.Assign u)) S d its e =
        let a = and_then_ok (told_at line (apply_quietly P F S (rule.Assign u))) _ d e in
        let r = quietly_ok P F S (rule.Assign u) a.0 (told_ok (λ why. record { line = line; why = why }) (apply_quietly P F S (rule.Assign u)) a.0 a.1) in
        let x = at_code (code_at S u) (assign S u) a.0 r in
        subst (λ (z : Derived). Alone t S z.state) (same_ok _ d a.2) (subst (λ (z : Name). Alone z S a.0.next) (sym (exact_name t u its)) (assign_alone S u x.0 a.0 x.2))
    step_alone deep line (Basic (basic.Known u)) S d its e =
        let a = and_then_ok (told_at line (apply_quietly P F S (rule.Known u))) _ d e in
        let r = quietly_ok P F S (rule.Known u) a.0 (told_ok (λ why. record { line = line; why = why }) (apply_quietly P F S (rule.Known u)) a.0 a.1) in
        let x = at_code (code_at S u) (known S u) a.0 r in
        subst (λ (z : Derived). Alone t S z.state) (same_ok _ d a.2) (subst (λ (z : Name). Alone z S a.0.next) (sym (exact_name t u its)) (known_alone S u x.0 a.0 x.2))
    step_alone deep line (Branch u A B) S d its e =
        let k = both_true (same_name t u && all_move_alone t A) (all_move_alone t B) its in
        let l = both_true (same_name t u) (all_move_alone t A) k.0 in
        let a = and_then_ok (told_at line (nested deep (enter_branch S u))) _ d e in
        let r = when_ok (nat_lt deep 256) (Side TooDeep) (enter_branch S u) a.0 (told_ok (λ why. record { line = line; why = why }) (nested deep (enter_branch S u)) a.0 a.1) in
        let b = and_then_ok (derive_all P (deep + 1) F A (line + 1) a.0.first) _ d a.2 in
        let c = and_then_ok (derive_all P (deep + 1) F B (b.0.line + 1) a.0.second) _ d b.2 in
        let j = and_then_ok (told_at c.0.line (join b.0.state c.0.state)) _ d c.2 in
        let joins = told_ok (λ why. record { line = c.0.line; why = why }) (join b.0.state c.0.state) j.0 j.1 in
        let s = sides_alone t S a.0 (ap (enter_branch S) (exact_name t u l.0) ∙ r.1) in
        let one = alone_then t S a.0.first b.0.state s.first (steps_alone (deep + 1) (line + 1) A a.0.first b.0 l.1 b.1) in
        subst (λ (z : Derived). Alone t S z.state) (same_ok _ d j.2) (joined_alone t S b.0.state c.0.state j.0 one joins)
    step_alone deep line A S d its e = cc

    pub steps_alone : (deep line : ℕ) (D : Steps) (S : Symbolic) (d : Derived) → all_move_alone t D ≡ true → derive_all P deep F D line S ≡ Ok d → Alone t S d.state
    steps_alone deep line no_steps S d its e = subst (λ (z : Derived). Alone t S z.state) (same_ok _ d e) (alone_stays t S)
    steps_alone deep line (A ▷ rest) S d its e =
        let k = both_true (moves_alone t A) (all_move_alone t rest) its in
        let a = and_then_ok (derive P deep F A line S) _ d e in
        let b = and_then_ok (derive_all P deep F rest a.0.line a.0.state) _ d a.2 in
        subst (λ (z : Derived). Alone t S z.state) (same_ok _ d b.2)
        (alone_then t S a.0.state b.0.state (step_alone deep line A S a.0 k.0 a.1) (steps_alone deep a.0.line rest a.0.state b.0 k.1 b.1))

pub alone_is_alone : AloneIsAlone
alone_is_alone P F deep line S t D d rest apart its e here = alone_moves t S d.state rest apart (steps_alone P F t deep line D S d its e) here

pub alone_sides_join : AloneSidesJoin
alone_sides_join P F deep line other_line S t r A B d e rest apart enters its its' first second here here' =
    let s = sides_alone t S r enters in
    let one = alone_moves t S d.state rest apart (alone_then t S r.first d.state s.first (steps_alone P F t deep line A r.first d its first)) here in
    let two = alone_moves t S e.state rest apart (alone_then t S r.second e.state s.second (steps_alone P F t deep other_line B r.second e its' second)) here' in
    (record d.state { facts = common d.state.facts e.state.facts }, joins_same d.state e.state (one.threads ∙ sym two.threads) (one.pending ∙ sym two.pending), record { threads = one.threads; pending = one.pending })
