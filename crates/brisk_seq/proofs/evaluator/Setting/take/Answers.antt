use Rattle.std.proofs.Common.{◌≡◌, ap, sym, ◌∙◌}
use Rattle.std.specs.FinMap.{get}
use Rattle.brisk_values.specs.Places.{value_in}
use Rattle.brisk_syntax.specs.Stores.{stored}
use Rattle.brisk_seq.specs.declared.boxes.Cell.{Cell}
use Rattle.brisk_seq.specs.Cells.{without_full}
use Rattle.brisk_seq.specs.Running.{focus_on, given_in}
use Rattle.brisk_seq.specs.Sequential.{are_of_kinds}
use Rattle.brisk_seq.proofs.Moving.{none_stops, take_stops, takes}
use Rattle.brisk_seq.proofs.evaluator.Setting.take.Goals as goal

pub returns-in_default-clause-stops : goal.returns-in_default-clause-stops
returns-in_default-clause-stops c =
    let who = focus_on c.args.focus.now in let take = c.args.take.now in let old = c.args.run.now in
    let k : Cell = record { number = take.number; from = who take.from; to = who take.to } in
    let same : ◌≡◌ {A = Cell} k (record { number = take.number; from = c.process.result; to = c.process-2.result }) = λ i. record { number = take.number; from = sym c.process.ensures i; to = sym c.process-2.ensures i } in
    none_stops c.args.self.now.choices.now old c.saturating_add-run.result c.saturating_add-run.ensures ((given_in c.args.self.now).kind (who take.to).role) k take.vars
    (c.in_default.ensures.values ∙ ap (get old.boxes) (sym same))

pub returns-then-not-are_of_kinds-clause-stops : goal.returns-then-not-are_of_kinds-clause-stops
returns-then-not-are_of_kinds-clause-stops c =
    let who = focus_on c.args.focus.now in let take = c.args.take.now in let old = c.args.run.now in
    let k : Cell = record { number = take.number; from = who take.from; to = who take.to } in
    let same : ◌≡◌ {A = Cell} k (record { number = take.number; from = c.process.result; to = c.process-2.result }) = λ i. record { number = take.number; from = sym c.process.ensures i; to = sym c.process-2.ensures i } in
    take_stops c.args.self.now.choices.now old c.saturating_add-run.result c.saturating_add-run.ensures ((given_in c.args.self.now).kind (who take.to).role) k take.vars
    c.in-Some.values (c.in-Some.ensures.values ∙ ap (get old.boxes) (sym same))
    (ap (λ (z : Cell). are_of_kinds ((given_in c.args.self.now).kind z.to.role) take.vars c.in-Some.values) same ∙ sym c.are_of_kinds.ensures ∙ c.if-not-are_of_kinds.true)

pub returns-clause-goes : goal.returns-clause-goes
returns-clause-goes c =
    let who = focus_on c.args.focus.now in let take = c.args.take.now in let old = c.args.run.now in
    let k : Cell = record { number = take.number; from = who take.from; to = who take.to } in
    let same : ◌≡◌ {A = Cell} k (record { number = take.number; from = c.process.result; to = c.process-2.result }) = λ i. record { number = take.number; from = sym c.process.ensures i; to = sym c.process-2.ensures i } in
    takes c.args.self.now.choices.now old c.saturating_add-run.result c.saturating_add-run.ensures ((given_in c.args.self.now).kind (who take.to).role) k take.vars
    c.in-Some.values c.store_all.new.store c.take.new.self (c.in-Some.ensures.values ∙ ap (get old.boxes) (sym same))
    (ap (λ (z : Cell). are_of_kinds ((given_in c.args.self.now).kind z.to.role) take.vars c.in-Some.values) same ∙ sym c.are_of_kinds.ensures ∙ c.if-not-are_of_kinds.false)
    (c.in_ok-store_all.ensures.ok ∙ ap (λ (z : Cell). stored (value_in old.store) z.to take.vars c.in-Some.values) (sym same))
    (c.in-Some.ensures.empty ∙ ap (λ z. without_full z old.boxes) (sym same))
