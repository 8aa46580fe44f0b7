-- Derivations as a relation: each step with what its tests say of readings.
use Rattle.std.proofs.Common.{◌≡◌, true, false, List, Some, None}
use Rattle.brisk_values.specs.Functions.{changed}
use Rattle.brisk_values.specs.Names.{Name, same_name}
use Rattle.brisk_syntax.specs.declared.program.Program.{Program}
use Rattle.brisk_syntax.specs.Syntax.{Expression, Statement, Code, ◌⨾◌, ◌then◌}
use Rattle.brisk_syntax.specs.Syntax as syntax
use Rattle.brisk_async.specs.Laws.{AnyReceive}
use Rattle.brisk_seq.specs.Items.{Items, nothing, ◌⨟◌, ◌followed_by◌}
use Rattle.brisk_seq.specs.Items as item
use Rattle.brisk_state.specs.Symbolic.{Symbolic}
use Rattle.brisk_basic.specs.Basic.{Applied}
use Rattle.brisk_derivation.specs.declared.steps.BasicStep.{BasicStep}
use Rattle.brisk_derivation.specs.declared.steps.Fact.{Fact}
use Rattle.brisk_derivation.specs.Steps.{Step, Steps, no_steps, ◌▷◌}
use Rattle.brisk_derivation.specs.Steps as step
use Rattle.brisk_rules.specs.Derives.{items_in, rule_of}
use Rattle.brisk_rules.specs.Following.{Follow, loose_fault}
use Rattle.brisk_rules.specs.Rules.{is_nonempty}
use Rattle.brisk_sound.proofs.After.{at_guard}
use Rattle.brisk_sound.proofs.Applied.{Applies}
use Rattle.brisk_sound.proofs.Control.{Weaker, sides}
use Rattle.brisk_sound.proofs.Covers.{Puts, one_owner, whole, marked, rest_piece}
use Rattle.brisk_sound.proofs.For.{Loop, Entry, Exit, owners, for_start, after_for}
use Rattle.brisk_sound.proofs.Gather.{Gathers, Gathered, gather_start}
use Rattle.brisk_sound.proofs.Kept.{Tidy}
use Rattle.brisk_sound.proofs.Loops.{Restored}
use Rattle.brisk_sound.proofs.Middle.{set_at}
use Rattle.brisk_sound.proofs.Pick.{MayPick, Picked, pick_start, after_pick}
use Rattle.brisk_sound.proofs.Quiet.{IsQuiet}
use Rattle.brisk_rules.proofs.Readings.{Reading, reading, is_active}

-- an if of the thread t: where its sides start, and their ends
pub record Branches (S start start' E F S' : Symbolic) (t : Name) (guard : Expression) : Type 0 where
  pub statement : Statement
  pub first : Code
  pub second : Code
  pub rest : Code
  pub active : is_active ((reading S).mode t) ≡ true
  pub is : (reading S).code t ≡ statement ⨾ rest
  pub two : sides statement ≡ Some (guard, first, second)
  pub begins : reading start ≡ at_guard (reading S) t guard true (first then rest)
  pub begins_second : reading start' ≡ at_guard (reading S) t guard false (second then rest)
  pub ends : Weaker (reading E) (reading S')
  pub ends_second : Weaker (reading F) (reading S')

-- The other rules start from the state without the facts that are dropped, the base.

-- a while of the thread t
pub record Whiles (S start E S' : Symbolic) (t : Name) (guard : Expression) : Type 0 where
  pub base : Reading
  pub weaker : Weaker (reading S) base
  pub body : Code
  pub rest : Code
  pub active : is_active (base.mode t) ≡ true
  pub is : base.code t ≡ syntax.While guard body ⨾ rest
  pub begins : reading start ≡ at_guard base t guard true body
  pub restored : Restored base (reading E) t
  pub next : reading S' ≡ at_guard base t guard false rest

-- a repeat of the thread t over the set s
pub record Repeats (S start E S' : Symbolic) (t s : Name) : Type 0 where
  pub base : Reading
  pub weaker : Weaker (reading S) base
  pub body : Code
  pub rest : Code
  pub active : is_active (base.mode t) ≡ true
  pub is : base.code t ≡ syntax.Repeat s 0 body ⨾ rest
  pub begins : reading start ≡ record base { code = changed same_name base.code t body }
  pub restored : Restored base (reading E) t
  pub next : reading S' ≡ record base { code = changed same_name base.code t rest }

-- a `for` over the set s by the owners ts
pub record Fors (S start E S' : Symbolic) (s : Name) (ts : List Name) : Type 0 where
  pub base : Reading
  pub weaker : Weaker (reading S) base
  pub loops : Name → Loop
  pub entry : Entry base s ts loops
  pub begins : reading start ≡ for_start base s ts loops
  pub exit : Exit base s ts loops (reading E)
  pub next : reading S' ≡ after_for base s ts loops (reading E)

-- a gather of the thread t
pub record Gatherings (S start E S' : Symbolic) (t : Name) (a : AnyReceive) : Type 0 where
  pub base : Reading
  pub weaker : Weaker (reading S) base
  pub entry : Gathers base t a
  pub begins : reading start ≡ gather_start base t a
  pub exit : Gathered base t a (reading E)
  pub quiet : IsQuiet base t a (reading E)
  pub next : reading S' ≡ set_at base a.set (reading E) (changed same_name base.code t a.rest)

-- a pick of the thread t
pub record Pickings (S start E S' : Symbolic) (t : Name) (a : AnyReceive) : Type 0 where
  pub base : Reading
  pub weaker : Weaker (reading S) base
  pub entry : MayPick base t a
  pub begins : reading start ≡ pick_start base t a
  pub exit : Picked base t a (reading E)
  pub next : reading S' ≡ after_pick base t a (reading E)

module _ (P : Program) where
  mutual
    -- a step leads from a state to another and gives these items, where this follows
    pub data Takes_step : Follow → Step → Symbolic → Items → Symbolic → Type 0 where
      by_rule : (F : Follow) (b : BasicStep) (S : Symbolic) (r : Applied) → Applies S r (rule_of b) → loose_fault P F S (rule_of b) ≡ None → Takes_step F (step.Basic b) S (items_in r.statement) r.next
      by_branch : (F : Follow) (t : Name) (A B : Steps) (S start start' E G S' : Symbolic) (X Y : Items) (guard : Expression) → Branches S start start' E G S' t guard →
          Takes_steps F A start X E → Takes_steps F B start' Y G → Takes_step F (step.Branch t A B) S (item.If t guard X Y ⨟ nothing) S'
      by_while : (F F' : Follow) (t : Name) (drops : List Fact) (A : Steps) (S start E S' : Symbolic) (X : Items) (guard : Expression) → Whiles S start E S' t guard →
          Takes_steps F' A start X E → Puts (reading S).code (one_owner t) whole F F' → Takes_step F (step.While t drops A) S (item.While t guard X ⨟ nothing) S'
      by_repeat : (F F' : Follow) (t : Name) (drops : List Fact) (A : Steps) (S start E S' : Symbolic) (X : Items) (s : Name) → Repeats S start E S' t s →
          Takes_steps F' A start X E → Puts (reading S).code (one_owner t) whole F F' → Takes_step F (step.Repeat t drops A) S (item.Repeat s X ⨟ nothing) S'
      by_for : (F F' : Follow) (s : Name) (ts : List Name) (drops : List Fact) (A : Steps) (S start E S' : Symbolic) (X : Items) → Fors S start E S' s ts →
          Takes_steps F' A start X E → Puts (reading S).code (owners ts) (marked s) F F' → Takes_step F (step.For s ts drops A) S (item.For s X ⨟ nothing) S'
      by_gather : (F F' : Follow) (t : Name) (drops : List Fact) (A : Steps) (S start E S' : Symbolic) (X : Items) (a : AnyReceive) → Gatherings S start E S' t a →
          Takes_steps F' A start X E → Puts (reading S).code (one_owner t) whole F F' → Takes_step F (step.Gather t drops A) S (item.ForAny a.set X ⨟ nothing) S'
      by_pick : (F F' : Follow) (t : Name) (drops : List Fact) (A : Steps) (S start E S' : Symbolic) (X : Items) (a : AnyReceive) → is_nonempty P a.set ≡ true → Pickings S start E S' t a →
          Takes_steps F' A start X E → Puts (reading S).code (one_owner t) rest_piece F F' → Takes_step F (step.Pick t drops A) S (item.Pick a.set X ⨟ nothing) S'

    -- Steps lead from a state to another, one after the other, and give these items. Each begins in a tidy state.
    pub data Takes_steps : Follow → Steps → Symbolic → Items → Symbolic → Type 0 where
      ended : (F : Follow) (S : Symbolic) → Takes_steps F no_steps S nothing S
      next : (F : Follow) (A : Step) (B : Steps) (S S' S'' : Symbolic) (X Y : Items) → Tidy P (reading S) → (reading S').mode ≡ (reading S).mode → Takes_step F A S X S' → Takes_steps F B S' Y S'' →
          Takes_steps F (A ▷ B) S (X followed_by Y) S''
