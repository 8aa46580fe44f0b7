use Rattle.brisk_derivtext.proofs.Written.{texts_differ}
use Rattle.brisk_derivtext.proofs.laws.texts_differ.Goals as goal

pub returns : goal.returns
returns c = texts_differ
