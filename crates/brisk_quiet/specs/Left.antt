-- What is left for a walk in code: what pended when it began, less what it has taken.
use Rattle.std.specs.Prelude.{ℕ, ◌-◌, length, unwrap_or}
use Rattle.std.specs.Ordering.{nat_cmp}
use Rattle.std.specs.Cmp.Lexicographic.{slice_cmp}
use Rattle.std.specs.BTreeMap.{get}
use Rattle.brisk_values.specs.Names.{Name}
use Rattle.brisk_state.specs.Symbolic.{key, numbers_at}
use Rattle.brisk_quiet.specs.declared.question.Question.{Question}
use Rattle.brisk_quiet.specs.declared.stillness.Stillness.{Stillness}
use Rattle.brisk_quiet.specs.declared.stillness.Stillness.TheVariants as still
use Rattle.brisk_quiet.specs.declared.taken.Taken.{Taken}
use Rattle.brisk_quiet.specs.Quiet.{Counts, Walked, Blocks, Ends, Sends}

-- how many messages were taken of a channel
abbrev pub taken_at : Taken → Name → ℕ
taken_at t c = unwrap_or (get (slice_cmp nat_cmp) t.counts c) 0

-- how many messages pend from the receiver to the member on a channel
abbrev pub number_in : Question → Name → ℕ
number_in q c = length (numbers_at q.state.now.pending (key q.receiver q.member c))

-- how many messages are left, for each channel
abbrev pub left_after : Question → Taken → Counts
left_after q t c = number_in q c - taken_at t c

-- the walk that came out so, with so many messages left
abbrev pub came : Stillness → Counts → Walked
came still.Blocks left = Blocks
came still.Ends left = Ends left
came still.Sends left = Sends
