use Rattle.std.proofs.Common.{◌∙◌, ap, sym, arith, rules, ◌<◌, length, cond, Some, None}
use Rattle.std.specs.Option.{option_or}
use Rattle.std.specs.Option.{is_some}
use Rattle.brisk_values.specs.Names.{same_name}
use Rattle.brisk_types.specs.Indexes.{key}
use Rattle.brisk_types.proofs.Indexes.{place_item, apart_item}
use Rattle.brisk_types.proofs.places.places.Goals as goal

pub loop-placed-init : goal.loop-placed-init
loop-placed-init c = record { index = λ n. c.new-index.ensures (key n); noted = search rules }

pub loop-placed-preserved : goal.loop-placed-preserved
loop-placed-preserved c =
    let ps = c.args.names.now in
    let p = c.placed-item.result in
    let lt : c.loop-placed.placed-index < length ps = omega arith in
    record {
      index = λ n. c.in_ok-add.ensures (key n) ∙ ap (λ o. option_or o (cond (same_name n p.name) (Some p.at) None)) (c.loop-placed.invariant.index n)
          ∙ sym (place_item ps c.loop-placed.placed-index p n lt c.placed-item.is);
      noted = apart_item c.loop-placed.first.failure _ _ ps c.loop-placed.placed-index p _ lt c.placed-item.is
          (c.is_some.ensures ∙ ap is_some (c.get.ensures ∙ c.loop-placed.invariant.index p.name)) c.note_if.ensures c.loop-placed.invariant.noted;
    }
