-- What becomes of a state of which a part is lent for writing.
use Rattle.std.specs.Prelude.{◌≡◌, Option, OnSome}
use Rattle.std.specs.Borrow.{Fml, Lends, LendsSo, MutBor}
use Rattle.brisk_values.specs.Names.{Name}
use Rattle.brisk_syntax.specs.Syntax.{Code as Tree}
use Rattle.brisk_syntax.specs.contracts.segments.Code as code
use Rattle.brisk_facts.specs.Facts.{Facts as Known}
use Rattle.brisk_facts.specs.contracts.facts.Facts as facts
use Rattle.brisk_state.specs.Symbolic.{Symbolic, with_code}
use Rattle.brisk_state.specs.contracts.state.State as state

-- the state ends with the last code that is written for the thread, and as it was where there is no thread
abbrev pub LendsCode : MutBor Symbolic → Name → Option (MutBor Tree) → Fml
LendsCode s name r = LendsSo state.the_row code.the_row s r (λ n w. OnSome r (n ≡ record s.now { threads = with_code name w s.now.threads })) (λ n. n ≡ s.now)

-- the state ends with the last facts that are written
abbrev pub LendsFacts : MutBor Symbolic → MutBor Known → Fml
LendsFacts s r = Lends state.the_row facts.the_row s r (λ w. record s.now { facts = w })
