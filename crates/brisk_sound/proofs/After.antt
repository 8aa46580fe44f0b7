-- The readings after a basic rule, and where a guard is learnt.
use Rattle.std.proofs.Common.{ℕ, Bool, List, [], ◌∷◌, ◌++◌, map}
use Rattle.brisk_values.specs.Functions.{changed}
use Rattle.brisk_values.specs.Names.{Name, same_name}
use Rattle.brisk_syntax.specs.Syntax.{Expression, Code}
use Rattle.brisk_facts.specs.Learning.{fold}
use Rattle.brisk_state.specs.Symbolic.{key, same_key}
use Rattle.brisk_rules.proofs.Readings.{Reading, facts_with, forgotten, learnt}

-- the thread t goes on to this code
abbrev pub goes_on : Reading → Name → Code → Reading
goes_on S t k = record S { code = changed same_name S.code t k }

-- it has learnt that its guard has this truth
abbrev pub at_guard : Reading → Name → Expression → Bool → Code → Reading
at_guard S t e b k = record S { code = changed same_name S.code t k; facts = changed same_name S.facts t (learnt (S.facts t) e b) }

abbrev pub after_assign : Reading → Name → Name → Expression → Code → Reading
after_assign S t x e k = record S {
  code = changed same_name S.code t k;
  facts = changed same_name S.facts t (facts_with (S.facts t) (x ∷ []) (map (fold (S.facts t)) (e ∷ [])));
}

abbrev pub after_fill : Reading → Name → Name → Name → ℕ → Code → Reading
after_fill S t u C n k = record S {
  code = changed same_name S.code t k;
  pending = changed same_key S.pending (key t u C) (S.pending (key t u C) ++ n ∷ []);
}

abbrev pub after_take : Reading → Name → Name → Name → List Name → List ℕ → Code → Reading
after_take S t u C xs ns k = record S {
  code = changed same_name S.code u k;
  pending = changed same_key S.pending (key t u C) ns;
  facts = changed same_name S.facts u (forgotten (S.facts u) xs);
}

abbrev pub after_pass : Reading → Name → Name → List Name → List Expression → Code → Code → Reading
after_pass S t u xs es k k' = record S {
  code = changed same_name (changed same_name S.code t k) u k';
  facts = changed same_name S.facts u (facts_with (S.facts u) xs (map (fold (S.facts t)) es));
}
