use Rattle.std.proofs.Common.{◌≡◌, ℕ, ◌-◌, Bool, List, [], length, drop}
use Rattle.brisk_syntax.specs.Value.{size_in}
use Rattle.brisk_syntax.specs.Expressions.{expression_of}
use Rattle.brisk_seq.specs.Running.{focus_on, given_in, Leads, Marks}
use Rattle.brisk_seq.specs.Seen.{items_of}
use Rattle.brisk_seq.specs.Sequential.{Ended, Run, do_all, for_any, for_each, holds_at, in_focus, while_true}
use Rattle.brisk_seq.proofs.evaluator.Setting.+body.Given as goal

abbrev pub invariant-items-loop-q : goal.invariant-items-loop-q
invariant-items-loop-q l = record {
  leads : Leads l.self.choices.now l.fn.run l.run (do_all (given_in l.self) l.body (focus_on l.fn.focus.items)) (do_all (given_in l.self) (items_of (drop l.q-index l.q-items)) (focus_on l.fn.focus.items));
  focus : l.focus.items ≡ l.fn.focus.items;
}

abbrev pub invariant-members-loop-member : goal.invariant-members-loop-member
invariant-members-loop-member l = record {
  leads : (let act : ℕ → Run → Ended = λ k t. do_all (given_in l.self) l.body (in_focus l.set k (focus_on l.fn.focus.items)) t in
      Leads l.self.choices.now l.fn.run l.run (for_each (size_in l.self.sizes.now l.set) 0 act) (for_each (size_in l.self.sizes.now l.set - l.member) l.member act));
  focus : l.focus.items ≡ l.fn.focus.items;
}

abbrev pub invariant-repeat-loop-turn : goal.invariant-repeat-loop-turn
invariant-repeat-loop-turn l = record {
  leads : (let act : ℕ → Run → Ended = λ k t. do_all (given_in l.self) l.body (focus_on l.fn.focus.items) t in
      Leads l.self.choices.now l.fn.run l.run (for_each (size_in l.self.sizes.now l.set) 0 act) (for_each (size_in l.self.sizes.now l.set - l._turn) l._turn act));
  focus : l.focus.items ≡ l.fn.focus.items;
}

abbrev pub invariant-choices-loop-turn : goal.invariant-choices-loop-turn
invariant-choices-loop-turn l = record {
  leads : (us : List ℕ) × Marks l.used.items us × (let act : ℕ → Run → Ended = λ k t. do_all (given_in l.self) l.body (in_focus l.set k (focus_on l.fn.focus.items)) t in
      Leads l.self.choices.now l.fn.run l.run (for_any l.size l.size [] act) (for_any (l.size - l._turn) l.size us act));
  room : length l.used.items ≡ l.size;
  focus : l.focus.items ≡ l.fn.focus.items;
}

abbrev pub invariant-turns-loop-turn : goal.invariant-turns-loop-turn
invariant-turns-loop-turn l = record {
  leads : (let guard : Run → Bool = λ s. holds_at (given_in l.self) s (focus_on l.fn.focus.items l.name) (expression_of l.e) in
      let act : Run → Ended = λ s. do_all (given_in l.self) l.body (focus_on l.fn.focus.items) s in
      Leads l.self.choices.now l.fn.run l.run (while_true l.fn.run.turns guard act) (while_true (l.fn.run.turns - l._turn) guard act));
  focus : l.focus.items ≡ l.fn.focus.items;
}
