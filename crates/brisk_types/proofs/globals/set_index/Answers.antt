use Rattle.std.proofs.Common.{◌∙◌, ap, sym, ◌&&◌, arith}
use Rattle.std.specs.Option.{is_some}
use Rattle.brisk_values.specs.Names.{same_name}
use Rattle.brisk_types.specs.Indexes.{found, key, same_key}
use Rattle.brisk_syntax.specs.Texts.{text_of}
use Rattle.brisk_types.proofs.Indexes.{found_more, any_image, of_kind, not_of_kind}
use Rattle.brisk_types.proofs.globals.set_index.Goals as goal
use Rattle.brisk_types.proofs.globals.set_index.Goals.{then-role+in_ok-add, else-role}

pub loop-role-init : goal.loop-role-init
loop-role-init c = λ n. ap is_some (c.new-index.ensures (key n))

pub loop-role-preserved : goal.loop-role-preserved
loop-role-preserved c = λ n.
    let more = any_image text_of (λ r. same_name n r.name && r.many) c.deref-role-items.result.now c.loop-role.role-index c.role-item.result (omega arith) c.role-item.is in
    elim c.if-role.branch [
      | then-role+in_ok-add w ↦ ap (λ ix. is_some (found same_key ix (key n))) w.index-is
          ∙ found_more (found same_key c.loop-role.index (key n)) _ (same_name n c.role-item.result.name) _ _ (w.in_ok-add.ensures (key n)) (c.loop-role.invariant n)
          ∙ of_kind _ (same_name n c.role-item.result.name) c.role-item.result.many (w.if-role.true) ∙ sym more
      | else-role w ↦ ap (λ ix. is_some (found same_key ix (key n))) w.index-is ∙ c.loop-role.invariant n
          ∙ not_of_kind _ (same_name n c.role-item.result.name) c.role-item.result.many (w.if-role.false) ∙ sym more
    ]
