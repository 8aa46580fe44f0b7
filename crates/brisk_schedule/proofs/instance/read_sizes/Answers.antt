use Rattle.std.proofs.Common.{[], ℕ, ◌+◌, ◌∙◌, List, Vec, Global, drop, map, ap, sym, subst}
use Rattle.brisk_values.specs.Names.{Name}
use Rattle.brisk_lines.specs.declared.line.Line.TheVariants.{Size}
use Rattle.brisk_syntax.specs.declared.program.Role.{Role}
use Rattle.brisk_syntax.specs.Texts.{text_of}
use Rattle.brisk_instance.specs.Ordered.{sets}
use Rattle.brisk_schedule.specs.Taking.{Left, TakesLine}
use Rattle.brisk_schedule.proofs.Goes.{SizesGo, next_left, none_left, set_more, set_passed, sizes_end}
use Rattle.brisk_schedule.proofs.instance.read_sizes.Goals as goal
use Rattle.brisk_schedule.proofs.instance.read_sizes.Goals.{then-role+in_ok-size+in_ok-push, else-role}

pub loop-role-preserved : goal.loop-role-preserved
loop-role-preserved c =
    let all = sets c.args.roles.now in
    let old = c.args.lines.now in
    let items = c.deref-role-items.result.now in
    let r = c.role-item.result in
    let later = map text_of (drop (c.loop-role.role-index + 1) items) in
    let here = next_left (λ (xs : List Role). SizesGo all (sets (map text_of xs)) old c.loop-role.lines [] c.loop-role.items.items) items c.loop-role.role-index r c.loop-role-test.true c.role-item.is c.loop-role.invariant in
    elim c.if-role.branch [
      | then-role+in_ok-size+in_ok-push w ↦
          set_more all (text_of r) later w.in_ok-size.size old c.loop-role.lines c.if-role.lines [] c.loop-role.items.items c.if-role.items.items here w.if-role.true
          (subst (λ (s : Left). TakesLine c.loop-role.lines (Size r.name w.in_ok-size.size) s) (sym w.lines-is) w.in_ok-size.ensures.line)
          w.in_ok-size.ensures.enough
          (ap (λ (v : Vec (Name × ℕ) Global). v.items) w.items-is ∙ w.in_ok-push.ensures.items)
      | else-role w ↦
          subst (λ (s : Left). SizesGo all (sets later) old s [] c.if-role.items.items) (sym w.lines-is)
          (subst (λ (v : Vec (Name × ℕ) Global). SizesGo all (sets later) old c.loop-role.lines [] v.items) (sym w.items-is)
          (set_passed all (text_of r) later old c.loop-role.lines [] c.loop-role.items.items here w.if-role.false))
    ]

pub returns-clause-ok : goal.returns-clause-ok
returns-clause-ok c =
    sizes_end (sets c.args.roles.now) c.args.lines.now c.loop-role.lines [] c.loop-role.items.items
    (none_left (λ (xs : List Role). SizesGo (sets c.args.roles.now) (sets (map text_of xs)) c.args.lines.now c.loop-role.lines [] c.loop-role.items.items) c.deref-role-items.result.now c.loop-role.role-index c.loop-role-test.false c.loop-role.invariant)
