use Rattle.std.proofs.Common.{◌∷◌, ◌+◌, ◌∙◌, List, Vec, Global, drop, ap, sym, subst, refl}
use Rattle.brisk_values.specs.declared.instance.Input.{Input as Given}
use Rattle.brisk_syntax.specs.declared.program.Decl.{Decl}
use Rattle.brisk_instance.specs.Ordered.{slots_at}
use Rattle.brisk_schedule.specs.declared.fault.ScheduleFault.TheVariants.{NoMemory}
use Rattle.brisk_schedule.specs.Texts.{input_line}
use Rattle.brisk_schedule.specs.Reading.{TellsValue}
use Rattle.brisk_schedule.specs.Taking.{Lacks, Left, TakesLine}
use Rattle.brisk_schedule.proofs.Goes.{InputsGo, input_more, inputs_end, lacks_memory, next_left, none_left}
use Rattle.brisk_schedule.proofs.Takes.{passed_on}
use Rattle.brisk_schedule.proofs.instance.read_process.Goals as goal
use Rattle.brisk_schedule.proofs.instance.read_process.Goals.{in-Input+in_ok-value+in_ok-push, in_default}

pub loop-decl-preserved : goal.loop-decl-preserved
loop-decl-preserved c =
    let p = c.args.process.now in
    let all = slots_at p c.args.decls.now in
    let items = c.deref-decl-items.result.now in
    let d = c.decl-item.result in
    let here = next_left (λ (xs : List Decl). InputsGo c.args.enums.now c.args.sizes.now all (slots_at p xs) c.args.lines.now c.loop-decl.lines c.args.inputs.now.items c.loop-decl.inputs.items) items c.loop-decl.decl-index d c.loop-decl-test.true c.decl-item.is c.loop-decl.invariant in
    let later = drop (c.loop-decl.decl-index + 1) items in
    elim c.match-decl.branch [
      | in-Input+in_ok-value+in_ok-push w ↦
          let e : Given = record { process = p; variable = w.in-Input.variable; value = w.in_ok-value.value } in
          input_more c.args.enums.now c.args.sizes.now all (record { process = p; variable = w.in-Input.variable; kind = w.in-Input.kind }) (slots_at p later) e
          c.args.lines.now c.loop-decl.lines c.match-decl.lines c.args.inputs.now.items c.loop-decl.inputs.items c.match-decl.inputs.items
          (subst (λ (x : Decl). InputsGo c.args.enums.now c.args.sizes.now all (slots_at p (x ∷ later)) c.args.lines.now c.loop-decl.lines c.args.inputs.now.items c.loop-decl.inputs.items) w.in-Input.is here)
          (record { process = refl; variable = refl; kind = w.in_ok-value.ensures.kind })
          (subst (λ (s : Left). TakesLine c.loop-decl.lines (input_line c.args.sizes.now e) s) (sym w.lines-is) w.in_ok-value.ensures.line)
          (ap (λ (v : Vec Given Global). v.items) w.inputs-is ∙ w.in_ok-push.ensures.items)
      | in_default w ↦
          subst (λ (s : Left). InputsGo c.args.enums.now c.args.sizes.now all (slots_at p later) c.args.lines.now s c.args.inputs.now.items c.match-decl.inputs.items) (sym w.lines-is)
          (subst (λ (v : Vec Given Global). InputsGo c.args.enums.now c.args.sizes.now all (slots_at p later) c.args.lines.now c.loop-decl.lines c.args.inputs.now.items v.items) (sym w.inputs-is)
          (subst (λ (x : Decl). InputsGo c.args.enums.now c.args.sizes.now all (slots_at p (x ∷ later)) c.args.lines.now c.loop-decl.lines c.args.inputs.now.items c.loop-decl.inputs.items) w.in_default.is here))
    ]

pub returns-in_err-push-clause-err : goal.returns-in_err-push-clause-err
returns-in_err-push-clause-err c =
    let tells = TellsValue c.args.enums.now c.args.sizes.now in
    let all = slots_at c.args.process.now c.args.decls.now in
    passed_on (Lacks tells c.args.lines.now all) c.from_residual-in_err-push.result NoMemory c.from_residual-in_err-push.ensures.1 (lacks_memory tells c.args.lines.now all)

pub returns-clause-ok : goal.returns-clause-ok
returns-clause-ok c =
    let p = c.args.process.now in
    let all = slots_at p c.args.decls.now in
    inputs_end c.args.enums.now c.args.sizes.now all c.args.lines.now c.loop-decl.lines c.args.inputs.now.items c.loop-decl.inputs.items
    (none_left (λ (xs : List Decl). InputsGo c.args.enums.now c.args.sizes.now all (slots_at p xs) c.args.lines.now c.loop-decl.lines c.args.inputs.now.items c.loop-decl.inputs.items) c.deref-decl-items.result.now c.loop-decl.decl-index c.loop-decl-test.false c.loop-decl.invariant)
