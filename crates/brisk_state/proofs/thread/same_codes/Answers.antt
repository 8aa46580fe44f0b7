use Rattle.brisk_state.proofs.Threads.{code_told}
use Rattle.brisk_state.proofs.thread.same_codes.Goals as goal

pub returns : goal.returns
returns c = code_told c.args.a.now c.args.b.now c.same_code.result c.same_code.ensures.0 c.same_code.ensures.1
