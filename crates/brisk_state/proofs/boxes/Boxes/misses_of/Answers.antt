use Rattle.std.proofs.Common.{◌≡◌, ℕ, ◌<◌, List, [], ◌∷◌, true, length, nat_eq, nat_lt, refl, sym, ap, ◌∙◌, arith}
use Rattle.std.specs.Prelude.{not}
use Rattle.std.specs.List.{list_any}
use Rattle.std.proofs.lemmas.Bool.{lt-ltb}
use Rattle.brisk_state.specs.Symbolic.{key_cmp, numbers_at, or_none}
use Rattle.brisk_state.proofs.Entries.{find_entry}
use Rattle.brisk_state.proofs.boxes.Boxes.misses_of.Goals as goal

-- there is a number
has_any : (ns : List ℕ) → nat_lt 0 (length ns) ≡ list_any (λ n. true) ns
has_any [] = refl
has_any (n ∷ ns) = let more : 0 < length (n ∷ ns) = omega arith in lt-ltb 0 (length (n ∷ ns)) more

pub returns-in-None : goal.returns-in-None
returns-in-None c =
    ap (nat_lt 0) c.count.ensures ∙ has_any c.args.numbers.now
    ∙ ap (λ o. list_any (λ n. not (list_any (nat_eq n) (or_none o))) c.args.numbers.now) (c.in-None.ensures.value ∙ find_entry key_cmp c.args.key.now c.self.inside.queues.entries)
    ∙ ap (λ es. list_any (λ n. not (list_any (nat_eq n) (numbers_at es c.args.key.now))) c.args.numbers.now) c.self.view_is

pub returns-in-Some : goal.returns-in-Some
returns-in-Some c =
    c.has_other.ensures
    ∙ ap (λ o. list_any (λ n. not (list_any (nat_eq n) (or_none o))) c.args.numbers.now) (c.in-Some.ensures.value ∙ find_entry key_cmp c.args.key.now c.self.inside.queues.entries)
    ∙ ap (λ es. list_any (λ n. not (list_any (nat_eq n) (numbers_at es c.args.key.now))) c.args.numbers.now) c.self.view_is
