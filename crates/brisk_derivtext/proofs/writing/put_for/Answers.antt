use Rattle.std.proofs.lemmas.Result.{on_ok_weaker}
use Rattle.brisk_derivtext.proofs.Appended.{for_words}
use Rattle.brisk_derivtext.proofs.writing.put_for.Goals as goal

pub returns : goal.returns
returns c =
    let words = for_words c.args.out.now.items c.args.set.now c.args.owners.now c.args.drops.now in
    on_ok_weaker c.put_drops.result (λ e. cc (words, e, c.in_ok-put_names.ensures, c.in_ok-put-2.ensures, c.in_ok-put_word.ensures, c.in_ok-put.ensures)) c.put_drops.ensures
