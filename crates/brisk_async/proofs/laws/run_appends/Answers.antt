use Rattle.brisk_async.proofs.Runs.{run-append}
use Rattle.brisk_async.proofs.laws.run_appends.Goals as goal

pub returns : goal.returns
returns c = run-append
