use Rattle.std.proofs.Common.{◌∙◌, ap, sym, not, ◌&&◌, arith}
use Rattle.std.specs.Option.{is_some}
use Rattle.brisk_values.specs.Names.{same_name}
use Rattle.brisk_types.specs.Indexes.{found, key, same_key}
use Rattle.brisk_syntax.specs.Texts.{text_of}
use Rattle.brisk_types.proofs.Indexes.{found_more, any_image, of_kind, not_of_kind}
use Rattle.brisk_types.proofs.globals.single_index.Goals as goal
use Rattle.brisk_types.proofs.globals.single_index.Goals.{then-not-role+in_ok-add, else-not-role}

pub loop-role-init : goal.loop-role-init
loop-role-init c = λ n. ap is_some (c.new-index.ensures (key n))

pub loop-role-preserved : goal.loop-role-preserved
loop-role-preserved c = λ n.
    let more = any_image text_of (λ r. same_name n r.name && not r.many) c.deref-role-items.result.now c.loop-role.role-index c.role-item.result (omega arith) c.role-item.is in
    elim c.if-not-role.branch [
      | then-not-role+in_ok-add w ↦ ap (λ ix. is_some (found same_key ix (key n))) w.index-is
          ∙ found_more (found same_key c.loop-role.index (key n)) _ (same_name n c.role-item.result.name) _ _ (w.in_ok-add.ensures (key n)) (c.loop-role.invariant n)
          ∙ of_kind _ (same_name n c.role-item.result.name) (not c.role-item.result.many) (ap not w.if-not-role.true) ∙ sym more
      | else-not-role w ↦ ap (λ ix. is_some (found same_key ix (key n))) w.index-is ∙ c.loop-role.invariant n
          ∙ not_of_kind _ (same_name n c.role-item.result.name) (not c.role-item.result.many) (ap not w.if-not-role.false) ∙ sym more
    ]
