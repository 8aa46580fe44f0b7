use Rattle.std.proofs.Common.{◌≡◌, ◌+◌, drop}
use Rattle.brisk_seq.specs.Seen.{items_of}
use Rattle.brisk_seq.specs.Tokens.{items_tokens}
use Rattle.brisk_types.specs.Failures.{note_all}
use Rattle.brisk_types.specs.Names.{meanings_of}
use Rattle.brisk_types.specs.Sequences as spec
use Rattle.brisk_types.proofs.names.Processes.+body.Given as goal

-- what is noted, and what is left
abbrev pub invariant-items-loop-q : goal.invariant-items-loop-q
invariant-items-loop-q l = record {
  noted : note_all l.first.failure (spec.items (meanings_of l.self) l.focus.items l.at (items_of (drop l.q-index l.q-items)))
      ≡ note_all l.fn.first.failure (spec.items (meanings_of l.self) l.fn.focus.items l.fn.at l.body);
  counted : l.at + items_tokens (items_of (drop l.q-index l.q-items)) ≡ l.fn.at + items_tokens l.body;
  focus : l.focus.items ≡ l.fn.focus.items;
}
