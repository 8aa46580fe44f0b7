use Rattle.std.proofs.Common.{◌∙◌, ap, sym, cond, Some, None, arith, map}
use Rattle.std.specs.Prelude.{option_map}
use Rattle.std.specs.Option.{option_or}
use Rattle.brisk_values.specs.Names.{same_name}
use Rattle.brisk_types.specs.Indexes.{found, key, same_key}
use Rattle.brisk_types.specs.Names.{meaning_of, named, known_set, known_single}
use Rattle.std.proofs.lemmas.List.{take_all}
use Rattle.brisk_types.proofs.Indexes.{seen_or}
use Rattle.brisk_types.proofs.Named.{named_item}
use Rattle.brisk_types.proofs.names.Processes.new.Goals as goal

pub loop-each-init : goal.loop-each-init
loop-each-init c = λ n. ap (option_map (λ k. meaning_of k.now)) (c.new-index.ensures (key n))

pub loop-each-preserved : goal.loop-each-preserved
loop-each-preserved c = λ n.
    ap (option_map (λ k. meaning_of k.now)) (c.in_ok-add.ensures (key n))
    ∙ seen_or (λ k. meaning_of k.now) (found same_key c.loop-each.index (key n)) (same_name n c.each-item.result.own) _
    ∙ ap (λ o. option_or o (cond (same_name n c.each-item.result.own) (Some (meaning_of c.each-item.result)) None)) (c.loop-each.invariant n)
    ∙ sym (named_item meaning_of c.args.names.now c.loop-each.each-index c.each-item.result n (omega arith) c.each-item.is)

pub returns : goal.returns
returns c = λ i. record {
  is_set = known_set c.args.globals.now;
  is_single = known_single c.args.globals.now;
  meaning_at = λ p. (c.loop-each.invariant p ∙ ap (λ xs. named (map meaning_of xs) p) (take_all c.loop-each.each-index c.args.names.now (omega arith))) i;
}
