use Rattle.std.proofs.Common.{◌≡◌, ap, sym, ◌∙◌}
use Rattle.std.specs.Prelude.{is_some}
use Rattle.std.specs.FinMap.{get}
use Rattle.brisk_seq.specs.declared.boxes.Cell.{Cell}
use Rattle.brisk_seq.specs.Cells.{with_full}
use Rattle.brisk_seq.specs.Running.{focus_on, given_in, run_of}
use Rattle.brisk_seq.specs.Sequential.{values_at}
use Rattle.brisk_seq.proofs.Moving.{fill_stops, fills}
use Rattle.brisk_seq.proofs.evaluator.Setting.fill.Goals as goal

pub returns-then-is_full-clause-stops : goal.returns-then-is_full-clause-stops
returns-then-is_full-clause-stops c =
    let who = focus_on c.args.focus.now in let fill = c.args.fill.now in let old = c.args.run.now in
    let k : Cell = record { number = fill.number; from = who fill.from; to = who fill.to } in
    let same : ◌≡◌ {A = Cell} k (record { number = fill.number; from = c.process.result; to = c.process-2.result }) = λ i. record { number = fill.number; from = sym c.process.ensures i; to = sym c.process-2.ensures i } in
    fill_stops c.args.self.now.choices.now old c.saturating_add-run.result c.saturating_add-run.ensures k
    (λ r. values_at (given_in c.args.self.now) r (who fill.from) fill.exprs)
    (ap (λ z. is_some (get old.boxes z)) same ∙ sym c.is_full.ensures ∙ c.if-is_full.true)

pub returns-clause-goes : goal.returns-clause-goes
returns-clause-goes c =
    let who = focus_on c.args.focus.now in let fill = c.args.fill.now in let old = c.args.run.now in
    let k : Cell = record { number = fill.number; from = who fill.from; to = who fill.to } in
    let same : ◌≡◌ {A = Cell} k (record { number = fill.number; from = c.process.result; to = c.process-2.result }) = λ i. record { number = fill.number; from = sym c.process.ensures i; to = sym c.process-2.ensures i } in
    fills c.args.self.now.choices.now old c.saturating_add-run.result c.saturating_add-run.ensures k
    (λ r. values_at (given_in c.args.self.now) r (who fill.from) fill.exprs) c.in_ok-values.values c.put.new.self
    (ap (λ z. is_some (get old.boxes z)) same ∙ sym c.is_full.ensures ∙ c.if-is_full.false)
    (λ n. c.in_ok-values.ensures ∙ ap (λ p. values_at (given_in c.args.self.now) (run_of c.args.self.now.choices.now n old) p fill.exprs) c.process.ensures)
    (c.in_ok-put.ensures ∙ ap (λ z. with_full z c.in_ok-values.values old.boxes) (sym same))
