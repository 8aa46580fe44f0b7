use Rattle.std.proofs.Common.{◌≡◌, ℕ, ◌-◌, Bool, List, [], length, drop, map}
use Rattle.brisk_syntax.specs.Value.{size_in}
use Rattle.brisk_syntax.specs.Expressions.{expression_of}
use Rattle.brisk_values.specs.Names.{member}
use Rattle.brisk_seq.specs.Running.{focus_on, given_in, Marks}
use Rattle.brisk_seq.specs.Seen.{items_of}
use Rattle.brisk_seq.specs.Sequential.{holds_at, in_focus}
use Rattle.brisk_derivation.specs.Seen.{steps_of}
use Rattle.brisk_rules.specs.Unfolding.{Unfolding, Unfolded, all_move, carries, moves, turns_any, turns_each, turns_while}
use Rattle.brisk_unfold.specs.Going.{Leads, steps_in}
use Rattle.brisk_unfold.proofs.unfolder.Unfolder.+unfold.Given as goal

abbrev pub invariant-steps-loop-step : goal.invariant-steps-loop-step
invariant-steps-loop-step l = record {
  leads : Leads l.self.setting.choices.now l.fn.progress l.progress (steps_in l.self l.steps l.body (focus_on l.fn.focus.items)) (steps_in l.self (steps_of (drop l.step-index l.step-items)) (items_of l.rest) (focus_on l.fn.focus.items));
  focus : l.focus.items ≡ l.fn.focus.items;
}

abbrev pub invariant-members-loop-member : goal.invariant-members-loop-member
invariant-members-loop-member l = record {
  leads : (let size = size_in l.self.setting.sizes.now l.set in let move : Unfolding → Unfolding = all_move (map (focus_on l.fn.focus.items) l.owners) in
      let act : ℕ → Unfolding → Unfolded = λ k. steps_in l.self l.premise l.body (in_focus l.set k (focus_on l.fn.focus.items)) in
      Leads l.self.setting.choices.now l.fn.progress l.progress (turns_each size 0 move act) (turns_each (size - l.member) l.member move act));
  focus : l.focus.items ≡ l.fn.focus.items;
}

abbrev pub invariant-repeat-loop-turn : goal.invariant-repeat-loop-turn
invariant-repeat-loop-turn l = record {
  leads : (let size = size_in l.self.setting.sizes.now l.set in let move : Unfolding → Unfolding = moves (focus_on l.fn.focus.items l.owner) in
      let act : ℕ → Unfolding → Unfolded = λ k. steps_in l.self l.premise l.body (focus_on l.fn.focus.items) in
      Leads l.self.setting.choices.now l.fn.progress l.progress (turns_each size 0 move act) (turns_each (size - l._turn) l._turn move act));
  focus : l.focus.items ≡ l.fn.focus.items;
}

abbrev pub invariant-choices-loop-turn : goal.invariant-choices-loop-turn
invariant-choices-loop-turn l = record {
  leads : (us : List ℕ) × Marks l.used.items us × (let who = focus_on l.fn.focus.items in let move : Unfolding → Unfolding = moves (who l.owner) in
      let act : ℕ → Unfolding → Unfolded = λ k v. steps_in l.self l.premise l.body (in_focus l.set k who) (carries (who l.owner) (member l.set k) v) in
      Leads l.self.setting.choices.now l.fn.progress l.progress (turns_any l.size l.size [] move act) (turns_any (l.size - l._turn) l.size us move act));
  room : length l.used.items ≡ l.size;
  focus : l.focus.items ≡ l.fn.focus.items;
}

abbrev pub invariant-turns-loop-turn : goal.invariant-turns-loop-turn
invariant-turns-loop-turn l = record {
  leads : (let who = focus_on l.fn.focus.items in let guard : Unfolding → Bool = λ v. holds_at (given_in l.self.setting) v.run (who l.name) (expression_of l.e) in
      let move : Unfolding → Unfolding = moves (who l.owner) in let act : Unfolding → Unfolded = steps_in l.self l.premise l.body who in
      Leads l.self.setting.choices.now l.fn.progress l.progress (turns_while l.fn.progress.run.turns guard move act) (turns_while (l.fn.progress.run.turns - l._turn) guard move act));
  focus : l.focus.items ≡ l.fn.focus.items;
}
