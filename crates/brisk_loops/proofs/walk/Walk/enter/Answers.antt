use Rattle.std.proofs.Common.{subst, sym, refl, ap, ◌∙◌, ◌++◌, ◌∷◌, []}
use Rattle.std.proofs.lemmas.Result.{err_from_is_err_and}
use Rattle.brisk_derivation.specs.Seen.{step_of}
use Rattle.brisk_derivation.specs.Steps.{Step}
use Rattle.brisk_state.specs.Symbolic.{Symbolic}
use Rattle.brisk_seq.specs.Seen.{items_of}
use Rattle.brisk_loops.specs.declared.rule.Rule.{Rule}
use Rattle.brisk_loops.specs.declared.rule.Side.TheVariants as side
use Rattle.brisk_loops.specs.Walk.{alone, entry, enter as entered_by}
use Rattle.brisk_loops.specs.WalkSeen.{AreEntered, IsEntered, Fails}
use Rattle.brisk_loops.proofs.Enters.{enter_fails, enter_gives, entered_more, is_entered}
use Rattle.brisk_loops.proofs.Taking.{handed_on}
use Rattle.brisk_loops.proofs.walk.Walk.enter.Goals as goal

pub returns-in_err-start-clause-cause : goal.returns-in_err-start-clause-cause
returns-in_err-start-clause-cause c =
    let p = err_from_is_err_and c.from_residual.result c.from_residual.ensures.1 in
    handed_on c.from_residual.result p.0 (λ f. Fails (entered_by c.args.self.now (step_of c.args.step.now)) f) p.1
    (rw p.2 (enter_fails c.self.inside.program c.self.inside.state c.self.inside.items c.self.inside.rules.items c.self.inside.applied c.self.inside.counted (step_of c.args.step.now) c.args.self.now c.self.view_is c.len-deep.result (c.len-deep.ensures ∙ c.self.inside.rules.ok.0) c.in_err-start.field-0.0 c.in_err-start.ensures.cause))

pub returns-clause-ok : goal.returns-clause-ok
returns-clause-ok c =
    let r : Rule = record { step = c.in_ok-step.step; side = side.First; state = c.replace-state.result; items = c.replace-items.result; counted = c.self.inside.counted } in
    enter_gives c.self.inside.program c.self.inside.state c.self.inside.items c.self.inside.rules.items c.self.inside.applied c.self.inside.counted (step_of c.args.step.now) c.args.self.now c.self.view_is c.len-deep.result (c.len-deep.ensures ∙ c.self.inside.rules.ok.0)
    c.replace-state.new.dest c.replace-items.new.dest r c.push_reserved.new.self.items c.saturating_add-self-inside.result (rw c.replace-state.ensures.after c.in_ok-start.ensures.ok) (c.replace-items.ensures.after ∙ ap items_of c.new.ensures.items) c.in_ok-step.ensures refl
    c.replace-state.ensures.value c.replace-items.ensures.value refl (c.push_reserved.ensures.items ∙ ap (λ xs. xs ++ r ∷ []) c.reserve.ensures.items) c.self.ranges.1.1.1.1.1.0.1 c.saturating_add-self-inside.ensures

pub invariant_of-self-2 : goal.invariant_of-self-2
invariant_of-self-2 c =
    let r : Rule = record { step = c.in_ok-step.step; side = side.First; state = c.replace-state.result; items = c.replace-items.result; counted = c.self.inside.counted } in
    let i = c.in_ok-start.ensures.ok in (
      subst (AreEntered c.self.inside.program) (sym (c.push_reserved.ensures.items ∙ ap (λ xs. xs ++ r ∷ []) c.reserve.ensures.items))
          (entered_more c.self.inside.program c.self.inside.rules.items r c.self.invariant.0
          (subst (λ (s : Step). IsEntered (entry c.self.inside.program c.replace-state.result s) side.First) (sym c.in_ok-step.ensures)
          (subst (λ (S : Symbolic). IsEntered (entry c.self.inside.program S (alone (step_of c.args.step.now))) side.First) (sym c.replace-state.ensures.value)
          (is_entered c.self.inside.program c.self.inside.state (step_of c.args.step.now) c.len-deep.result i.0 i.1)))),
      c.self.invariant.1,
    )
