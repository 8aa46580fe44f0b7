use Rattle.std.proofs.Common.{◌≡◌, ◌==◌, ◌-◌, List, ℕ, true, drop, length, ap, subst, arith, length-drop}
use Rattle.std.proofs.lemmas.Result.{err_from_is_err_and}
use Rattle.brisk_derivtext.specs.Kept.{SoFar}
use Rattle.brisk_derivtext.proofs.Lined.{still_few}
use Rattle.brisk_derivtext.proofs.text.read.Goals as goal
use Rattle.brisk_derivtext.proofs.text.read.Goals.{then-is_ended, else-is_ended}

pub returns-in_err-one_more-clause-cause : goal.returns-in_err-one_more-clause-cause
returns-in_err-one_more-clause-cause c =
    let p = err_from_is_err_and c.from_residual.result c.from_residual.ensures.1 in
    rw (p.1, p.2)
    (c.in_err-one_more.ensures.goes_on c.args.text.now c.loop-rest.invariant.so_far
    (λ h. elim c.if-is_ended.branch [
      | then-is_ended w ↦ (let none : (length c.loop-rest.rest.now == 0) ≡ true = ap (λ z. length z == 0) h.1 in let t = w.is_empty.ensures in let v = w.value-is in let k = c.if-not-is_empty.true in cc)
      | else-is_ended w ↦ (let no = w.if-is_ended.false in let t = c.is_ended.ensures in let e = h.0 in cc)
    ]))

pub loop-rest-preserved : goal.loop-rest-preserved
loop-rest-preserved c =
    let left : drop c.in_ok-one_more.bytes c.loop-rest.rest.now ≡ c.split_at.result.1.now = (let k = c.split_at.ensures in cc) in
    let shorter : length c.split_at.result.1.now ≡ length c.loop-rest.rest.now - c.in_ok-one_more.bytes = (let e = ap length left in let d = length-drop c.in_ok-one_more.bytes c.loop-rest.rest.now in omega arith) in
    let so_far = c.in_ok-one_more.ensures.goes_on c.args.text.now c.loop-rest.invariant.so_far
    (λ h. elim c.if-is_ended.branch [
      | then-is_ended w ↦ (let none : (length c.loop-rest.rest.now == 0) ≡ true = ap (λ z. length z == 0) h.1 in let t = w.is_empty.ensures in let v = w.value-is in let k = c.if-not-is_empty.true in cc)
      | else-is_ended w ↦ (let no = w.if-is_ended.false in let t = c.is_ended.ensures in let e = h.0 in cc)
    ]) in
    record {
      so_far = subst (λ (z : List ℕ). SoFar c.args.text.now z c.in_ok-one_more.one_more.reading c.in_ok-one_more.one_more.count) left so_far;
      few = still_few c.loop-rest.lines.count c.in_ok-one_more.one_more.count c.in_ok-one_more.bytes (length c.loop-rest.rest.now) (length c.split_at.result.1.now) (length c.args.text.now) c.in_ok-one_more.ensures.count c.in_ok-one_more.ensures.bytes shorter c.loop-rest.invariant.few;
    }
