-- What a derivation that doesn't fail is: the relation, with the names of threads and what steps keep.
use Rattle.std.proofs.Common.{◌≡◌, ℕ, ◌+◌, ◌∷◌, Option, Some, None, refl, sym, ap, ◌∙◌, subst}
use Rattle.std.specs.Prelude.{Ok, nat_lt, if◌then◌else◌}
use Rattle.brisk_syntax.specs.declared.program.Program.{Program}
use Rattle.brisk_seq.specs.Items.{Item, Items, nothing, ◌⨟◌, ◌followed_by◌}
use Rattle.brisk_seq.specs.Items as item
use Rattle.brisk_state.specs.Symbolic.{Symbolic, thread_named}
use Rattle.brisk_rules.specs.Following.{Follow, loose_fault, follows_in}
use Rattle.brisk_basic.specs.Basic.{Applied, apply}
use Rattle.brisk_derivation.specs.declared.fault.SideFault.{SideFault}
use Rattle.brisk_basic.specs.Outcomes.{told_as}
use Rattle.brisk_derivation.specs.declared.fault.SideFault.TheVariants.{TooDeep}
use Rattle.brisk_derivation.specs.Steps.{Step, Basic, Branch, While, For, Repeat, Gather, Pick, Steps, no_steps, ◌▷◌}
use Rattle.brisk_rules.specs.declared.why.Why.TheVariants.{Rule, Side}
use Rattle.brisk_rules.specs.Derives.{Derived, told_at, apply_quietly, Premise, nested, rule_of, by_loop, by_branch, derive, derive_all}
use Rattle.brisk_rules.specs.Rules.{Outcome, fault_or, code_in, Entered, around, Parted, around_sides, close, join, enter_while, enter_for, enter_repeat, enter_gather, enter_pick, enter_branch}
use Rattle.brisk_sound.proofs.Applied.{applies, named_applied}
use Rattle.brisk_sound.proofs.Closing.{closed}
use Rattle.brisk_sound.proofs.Derives.{Takes_step, by_rule, by_while, by_repeat, by_for, by_gather, by_pick, Takes_steps, ended, next}
use Rattle.brisk_sound.proofs.Derives as relation
use Rattle.brisk_sound.proofs.Entered.{while_opens, repeat_opens, branch_parts}
use Rattle.brisk_rules.proofs.Fulfilled.{and_then_ok, told_ok, same_ok, when_ok}
use Rattle.brisk_sound.proofs.Kept.{Kept, kept_then, kept_applied, kept_weaker, Tidy, tidy_kept}
use Rattle.brisk_sound.proofs.Opened.{for_opens}
use Rattle.brisk_rules.proofs.Readings.{reading}
use Rattle.brisk_sound.proofs.Received.{gather_opens, pick_opens}
use Rattle.brisk_rules.proofs.Threads.{names}

-- a fault that there isn't, and what is given
pub no_fault : (o : Option SideFault) (a b : Applied) → fault_or o a ≡ Ok b → (o ≡ None) × (a ≡ b)
no_fault None a b e = (refl, same_ok a b e)
no_fault (Some fault) a b e = cc

-- a rule with one premise that didn't fail
record Looped (deep line : ℕ) (entry : Outcome Entered) (premise : Entered → Premise) (d : Derived) : Type 0 where
  rule : Entered
  inner : Derived
  state : Symbolic
  enters : entry ≡ Ok rule
  derives : premise rule (line + 1) rule.start ≡ Ok inner
  closes : close rule inner.state ≡ Ok state
  is : record { items = around rule.kind inner.items ⨟ nothing; state = state; line = inner.line + 1 } ≡ d

looped : (deep line : ℕ) (entry : Outcome Entered) (premise : Entered → Premise) (d : Derived) → by_loop deep line entry premise ≡ Ok d → Looped deep line entry premise d
looped deep line entry premise d e =
    let a = and_then_ok (told_at line (nested deep entry)) _ d e in
    let r = when_ok (nat_lt deep 256) (Side TooDeep) entry a.0 (told_ok (λ why. record { line = line; why = why }) (nested deep entry) a.0 a.1) in
    let b = and_then_ok (premise a.0 (line + 1) a.0.start) _ d a.2 in
    let c = and_then_ok (told_at b.0.line (close a.0 b.0.state)) _ d b.2 in
    record { rule = a.0; inner = b.0; state = c.0; enters = r.1; derives = b.1; closes = told_ok (λ why. record { line = b.0.line; why = why }) (close a.0 b.0.state) c.0 c.1; is = same_ok _ d c.2 }

-- a branch that didn't fail
record Branched (deep line : ℕ) (entry : Outcome Parted) (one two : Premise) (d : Derived) : Type 0 where
  rule : Parted
  first : Derived
  second : Derived
  state : Symbolic
  enters : entry ≡ Ok rule
  derives : one (line + 1) rule.first ≡ Ok first
  derives_second : two (first.line + 1) rule.second ≡ Ok second
  joins : join first.state second.state ≡ Ok state
  is : record { items = around_sides rule first.items second.items ⨟ nothing; state = state; line = second.line + 1 } ≡ d

branched : (deep line : ℕ) (entry : Outcome Parted) (one two : Premise) (d : Derived) → by_branch deep line entry one two ≡ Ok d → Branched deep line entry one two d
branched deep line entry one two d e =
    let a = and_then_ok (told_at line (nested deep entry)) _ d e in
    let r = when_ok (nat_lt deep 256) (Side TooDeep) entry a.0 (told_ok (λ why. record { line = line; why = why }) (nested deep entry) a.0 a.1) in
    let b = and_then_ok (one (line + 1) a.0.first) _ d a.2 in
    let c = and_then_ok (two (b.0.line + 1) a.0.second) _ d b.2 in
    let j = and_then_ok (told_at c.0.line (join b.0.state c.0.state)) _ d c.2 in
    record { rule = a.0; first = b.0; second = c.0; state = j.0; enters = r.1; derives = b.1; derives_second = c.1; joins = told_ok (λ why. record { line = c.0.line; why = why }) (join b.0.state c.0.state) j.0 j.1; is = same_ok _ d j.2 }

-- what steps come to: the relation, the same names, and what is kept
pub record Comes (P : Program) (S : Symbolic) (R : Symbolic → Items → Symbolic → Type 0) (d : Derived) : Type 0 where
  pub takes : R S d.items d.state
  pub named : names d.state.threads ≡ names S.threads
  pub kept : Kept P (reading S) (reading d.state)

-- a rule with one premise comes to what it gives
loop_comes : (P : Program) (F : Follow) (S : Symbolic) (A : Step) (q : Item) (X : Item) (S' : Symbolic) (line : ℕ) (d : Derived) → q ≡ X → record { items = q ⨟ nothing; state = S'; line = line } ≡ d →
    Takes_step P F A S (X ⨟ nothing) S' → names S'.threads ≡ names S.threads → Kept P (reading S) (reading S') → Comes P S (Takes_step P F A) d
loop_comes P F S A q X S' line d gives is takes named kept =
    subst (Comes P S (Takes_step P F A)) is record { takes = subst (λ (z : Item). Takes_step P F A S (z ⨟ nothing) S') (sym gives) takes; named = named; kept = kept }

mutual
  pub step_comes : (P : Program) (deep : ℕ) (F : Follow) (A : Step) (line : ℕ) (S : Symbolic) (d : Derived) → Tidy P (reading S) → derive P deep F A line S ≡ Ok d → Comes P S (Takes_step P F A) d
  step_comes P deep F (Basic b) line S d tidy e =
      let a = and_then_ok (told_at line (apply_quietly P F S (rule_of b))) _ d e in
      let o = and_then_ok (told_as Rule (apply S (rule_of b))) (fault_or (loose_fault P F S (rule_of b))) a.0 (told_ok (λ why. record { line = line; why = why }) (apply_quietly P F S (rule_of b)) a.0 a.1) in
      let q = no_fault (loose_fault P F S (rule_of b)) o.0 a.0 o.2 in
      let r = applies S (rule_of b) a.0 (told_ok Rule (apply S (rule_of b)) a.0 (o.1 ∙ ap Ok q.1)) in
      subst (Comes P S (Takes_step P F (Basic b))) (same_ok _ d a.2) record { takes = by_rule F b S a.0 r q.0; named = named_applied S a.0 (rule_of b) r; kept = kept_applied P S a.0 (rule_of b) r }
  step_comes P deep F (Branch t a b) line S d tidy e =
      let x = branched deep line (enter_branch S t) (derive_all P (deep + 1) F a) (derive_all P (deep + 1) F b) d e in
      let o = branch_parts P S t x.rule x.enters in
      let y = steps_come P (deep + 1) F a (line + 1) x.rule.first x.first (o.1.tidy tidy) x.derives in
      let z = steps_come P (deep + 1) F b (x.first.line + 1) x.rule.second x.second (o.1.tidy_second tidy) x.derives_second in
      let c = o.1.joins x.first.state x.second.state x.state y.named y.kept x.joins in
      loop_comes P F S (Branch t a b) (around_sides x.rule x.first.items x.second.items) (item.If t o.0 x.first.items x.second.items) x.state (x.second.line + 1) d (o.1.gives x.first.items x.second.items) x.is
      (relation.by_branch F t a b S x.rule.first x.rule.second x.first.state x.second.state x.state x.first.items x.second.items o.0 c.0 y.takes z.takes) c.1 c.2
  step_comes P deep F (While t drops a) line S d tidy e =
      let x = looped deep line (enter_while S t drops) (λ r. derive_all P (deep + 1) (follows_in S r F) a) d e in
      let o = while_opens P S t drops x.rule x.enters in
      let y = steps_come P (deep + 1) (follows_in S x.rule F) a (line + 1) x.rule.start x.inner (o.1.tidy tidy) x.derives in
      let c = o.1.closes x.inner.state x.state tidy y.named y.kept (closed x.rule x.inner.state x.state x.closes) in
      loop_comes P F S (While t drops a) (around x.rule.kind x.inner.items) (item.While t o.0 x.inner.items) x.state (x.inner.line + 1) d (o.1.gives x.inner.items) x.is
      (by_while F (follows_in S x.rule F) t drops a S x.rule.start x.inner.state x.state x.inner.items o.0 c.0 y.takes (λ u i. if o.1.owns u i then o.1.pieces (code_in (thread_named S.threads u)) i ∷ F u else F u)) c.1 c.2
  step_comes P deep F (For s ts drops a) line S d tidy e =
      let x = looped deep line (enter_for S s ts drops) (λ r. derive_all P (deep + 1) (follows_in S r F) a) d e in
      let o = for_opens P S s ts drops x.rule x.enters in
      let y = steps_come P (deep + 1) (follows_in S x.rule F) a (line + 1) x.rule.start x.inner (o.tidy tidy) x.derives in
      let c = o.closes x.inner.state x.state tidy y.named y.kept (closed x.rule x.inner.state x.state x.closes) in
      loop_comes P F S (For s ts drops a) (around x.rule.kind x.inner.items) (item.For s x.inner.items) x.state (x.inner.line + 1) d (o.gives x.inner.items) x.is
      (by_for F (follows_in S x.rule F) s ts drops a S x.rule.start x.inner.state x.state x.inner.items c.0 y.takes (λ u i. if o.owns u i then o.pieces (code_in (thread_named S.threads u)) i ∷ F u else F u)) c.1 c.2
  step_comes P deep F (Repeat t drops a) line S d tidy e =
      let x = looped deep line (enter_repeat S t drops) (λ r. derive_all P (deep + 1) (follows_in S r F) a) d e in
      let o = repeat_opens P S t drops x.rule x.enters in
      let y = steps_come P (deep + 1) (follows_in S x.rule F) a (line + 1) x.rule.start x.inner (o.1.tidy tidy) x.derives in
      let c = o.1.closes x.inner.state x.state tidy y.named y.kept (closed x.rule x.inner.state x.state x.closes) in
      loop_comes P F S (Repeat t drops a) (around x.rule.kind x.inner.items) (item.Repeat o.0 x.inner.items) x.state (x.inner.line + 1) d (o.1.gives x.inner.items) x.is
      (by_repeat F (follows_in S x.rule F) t drops a S x.rule.start x.inner.state x.state x.inner.items o.0 c.0 y.takes (λ u i. if o.1.owns u i then o.1.pieces (code_in (thread_named S.threads u)) i ∷ F u else F u)) c.1 c.2
  step_comes P deep F (Gather t drops a) line S d tidy e =
      let x = looped deep line (enter_gather S t drops) (λ r. derive_all P (deep + 1) (follows_in S r F) a) d e in
      let o = gather_opens P S t drops x.rule x.enters in
      let y = steps_come P (deep + 1) (follows_in S x.rule F) a (line + 1) x.rule.start x.inner (o.1.tidy tidy) x.derives in
      let c = o.1.closes x.inner.state x.state tidy y.named y.kept (closed x.rule x.inner.state x.state x.closes) in
      loop_comes P F S (Gather t drops a) (around x.rule.kind x.inner.items) (item.ForAny o.0.set x.inner.items) x.state (x.inner.line + 1) d (o.1.gives x.inner.items) x.is
      (by_gather F (follows_in S x.rule F) t drops a S x.rule.start x.inner.state x.state x.inner.items o.0 c.0 y.takes (λ u i. if o.1.owns u i then o.1.pieces (code_in (thread_named S.threads u)) i ∷ F u else F u)) c.1 c.2
  step_comes P deep F (Pick t drops a) line S d tidy e =
      let x = looped deep line (enter_pick P S t drops) (λ r. derive_all P (deep + 1) (follows_in S r F) a) d e in
      let o = pick_opens P S t drops x.rule x.enters in
      let y = steps_come P (deep + 1) (follows_in S x.rule F) a (line + 1) x.rule.start x.inner (o.2.tidy tidy) x.derives in
      let c = o.2.closes x.inner.state x.state tidy y.named y.kept (closed x.rule x.inner.state x.state x.closes) in
      loop_comes P F S (Pick t drops a) (around x.rule.kind x.inner.items) (item.Pick o.0.set x.inner.items) x.state (x.inner.line + 1) d (o.2.gives x.inner.items) x.is
      (by_pick F (follows_in S x.rule F) t drops a S x.rule.start x.inner.state x.state x.inner.items o.0 o.1 c.0 y.takes (λ u i. if o.2.owns u i then o.2.pieces (code_in (thread_named S.threads u)) i ∷ F u else F u)) c.1 c.2

  pub steps_come : (P : Program) (deep : ℕ) (F : Follow) (D : Steps) (line : ℕ) (S : Symbolic) (d : Derived) → Tidy P (reading S) → derive_all P deep F D line S ≡ Ok d → Comes P S (Takes_steps P F D) d
  steps_come P deep F no_steps line S d tidy e =
      subst (Comes P S (Takes_steps P F no_steps)) (same_ok _ d e)
      record { takes = ended F S; named = refl; kept = kept_weaker P (reading S) (reading S) record { mode = refl; code = refl; pending = refl; facts = λ u x v h. h } }
  steps_come P deep F (A ▷ rest) line S d tidy e =
      let a = and_then_ok (derive P deep F A line S) _ d e in
      let b = and_then_ok (derive_all P deep F rest a.0.line a.0.state) _ d a.2 in
      let x = step_comes P deep F A line S a.0 tidy a.1 in
      let y = steps_come P deep F rest a.0.line a.0.state b.0 (tidy_kept P (reading S) (reading a.0.state) x.kept tidy) b.1 in
      subst (Comes P S (Takes_steps P F (A ▷ rest))) (same_ok _ d b.2) record {
        takes = next F A rest S a.0.state b.0.state a.0.items b.0.items tidy x.kept.mode x.takes y.takes;
        named = y.named ∙ x.named;
        kept = kept_then P (reading S) (reading a.0.state) (reading b.0.state) x.kept y.kept;
      }
