use Rattle.std.proofs.Common.{◌≡◌, ◌==◌, ◌++◌, ◌+◌, true, false, drop, length, Ok, ap, subst, sym, ◌∙◌}
use Rattle.std.specs.Prelude.{None}
use Rattle.std.proofs.lemmas.Result.{err_from_is_err_and}
use Rattle.brisk_text.specs.Values.{Text}
use Rattle.brisk_derivtext.specs.Parsing.{line_in}
use Rattle.brisk_check.specs.Checking.{taken, Checking}
use Rattle.brisk_check.specs.Seen.{Checked}
use Rattle.brisk_check.specs.Working.{work_of, HasFault}
use Rattle.brisk_check.proofs.Seeing.{bytes_fed, fault_stays, is_nothing, is_something, line_fed, with_bytes}
use Rattle.brisk_check.proofs.feeding.feed_line.Goals as goal

pub returns-then-is_empty-clause-fed : goal.returns-then-is_empty-clause-fed
returns-then-is_empty-clause-fed c =
    let g = work_of c.args.work in
    let front = c.cut.result.0.now in
    let end = c.cut.result.1.now in
    let none : (length end == 0) ≡ true = (let a = c.is_empty.ensures in let b = c.if-is_empty.true in cc) in
    let S : Text → Checked = λ z. Ok (record g { rest = z }) in
    λ d e. (record d { rest = d.rest ++ front }, with_bytes d g front e ∙ ap S (sym c.in_ok-joined.ensures), bytes_fed d c.args.left.now front end c.cut.ensures (is_nothing end none))

pub returns-in_err-take_line-clause-fed : goal.returns-in_err-take_line-clause-fed
returns-in_err-take_line-clause-fed c =
    let g = work_of c.args.work in
    let front = c.cut.result.0.now in
    let end = c.cut.result.1.now in
    let some : (length end == 0) ≡ false = (let a = c.is_empty.ensures in let b = c.if-is_empty.false in cc) in
    let S : Text → Checked = λ z. Ok (record g { rest = z }) in
    let f = c.in_err-take_line.field-0.0 in
    let p = err_from_is_err_and c.from_residual-in_err-take_line.result c.from_residual-in_err-take_line.ensures.1 in
    rw (p.1, p.2) (λ d e.
    let d1 : Checking = record d { rest = d.rest ++ front } in
    let h = c.in_err-take_line.ensures d1 (with_bytes d g front e ∙ ap S (sym c.in_ok-joined.ensures)) in
    subst (λ (z : Checking). HasFault z f) (sym (line_fed d g c.args.left.now front end e c.cut.ensures (is_something end some))) (fault_stays (taken d1 None (line_in d1.rest)) f (drop (length front + 1) c.args.left.now) h))

pub returns-clause-fed : goal.returns-clause-fed
returns-clause-fed c =
    let g = work_of c.args.work in
    let front = c.cut.result.0.now in
    let end = c.cut.result.1.now in
    let some : (length end == 0) ≡ false = (let a = c.is_empty.ensures in let b = c.if-is_empty.false in cc) in
    let S : Text → Checked = λ z. Ok (record g { rest = z }) in
    λ d e.
    let d1 : Checking = record d { rest = d.rest ++ front } in (
      taken d1 None (line_in d1.rest),
      c.in_ok-take_line.ensures d1 (with_bytes d g front e ∙ ap S (sym c.in_ok-joined.ensures)),
      line_fed d g c.args.left.now front end e c.cut.ensures (is_something end some),
    )
