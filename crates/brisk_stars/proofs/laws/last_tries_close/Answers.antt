use Rattle.brisk_stars.proofs.Last.{last_tries_close}
use Rattle.brisk_stars.proofs.laws.last_tries_close.Goals as goal

pub returns : goal.returns
returns c = last_tries_close
