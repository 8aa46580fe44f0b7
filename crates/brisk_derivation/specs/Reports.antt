-- Why a rewriting stops, as plain data: what was tried where it stopped.
use Rattle.brisk_derivation.specs.declared.fault.SideFault.{SideFault}
use Rattle.brisk_derivation.specs.Steps.{Step}

infixr 6 ◌▹◌
-- how a try ends, a try, and tries one after another
mutual
  pub data TryEnd : Type 0 where
    Fails : (why : SideFault) → TryEnd
    StuckFirst : (tries : Tries) → TryEnd
    StuckSecond : (tries : Tries) → TryEnd

  pub data Try : Type 0 where
    Tried : (rule : Step) (end : TryEnd) → Try

  pub data Tries : Type 0 where
    no_tries : Tries
    ◌▹◌ : (t : Try) (rest : Tries) → Tries
