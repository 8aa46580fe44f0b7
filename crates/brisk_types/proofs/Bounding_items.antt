-- Each failure of a sequential program is at a token of it.
use Rattle.std.proofs.Common.{ℕ, ◌+◌, ◌<◌, ◌≤◌, not, List, [], ◌∷◌, ◌++◌, length, sum_by, nat_eq, Option, Some, None, arith}
use Rattle.std.proofs.lemmas.List.Sums.{sum_by-cons}
use Rattle.brisk_values.specs.declared.value.Kind.TheVariants as kind
use Rattle.brisk_values.specs.Names.{Name}
use Rattle.brisk_syntax.specs.declared.program.Program.{Program}
use Rattle.brisk_syntax.specs.Roles.{RoleText}
use Rattle.brisk_syntax.specs.Syntax.{Expression}
use Rattle.brisk_syntax.specs.Tokens.{expression_tokens, list_tokens, name_tokens, role_tokens, program_tokens}
use Rattle.brisk_seq.specs.declared.tree.SeqProgram.{SeqProgram}
use Rattle.brisk_seq.specs.Items.{Item, Pass, Fill, Take, If, While, For, ForAny, Pick, Repeat, Items, nothing, ◌⨟◌}
use Rattle.brisk_seq.specs.Tokens.{item_tokens, items_tokens, seq_tokens}
use Rattle.brisk_types.specs.declared.fault.Rule.{Rule}
use Rattle.brisk_types.specs.declared.fault.Rule.TheVariants.{WrongCount}
use Rattle.brisk_types.specs.Declarations.{roles_at, heading_tokens, meaning}
use Rattle.brisk_types.specs.Expressions.{Meaning, wanted}
use Rattle.brisk_types.specs.Failures.{Failures, Fails}
use Rattle.brisk_types.specs.Sequences.{Meanings, process_rule, turns_rule, focus_rule, at_process, first_kind, others, passed, guard, stored, item, items, outlines, outline, meanings, items_at, seq_failures}
use Rattle.brisk_types.specs.Statements.{values, variables}
use Rattle.brisk_types.proofs.Bounding.{Bounded, bounded_fails, when_below, broken_below, wanted_below, values_below, variables_below, apart_below, meaning_below, enumerations_below, declarations_below}
use Rattle.brisk_types.proofs.Lists.{spaced_tokens, spaced_is}

module _ (n : ℕ) (m : Meanings) where
  process_below : (o : Option Meaning) (g : Meaning → Failures) → ((k : Meaning) → Bounded n (g k)) → Bounded n (at_process o g)
  process_below None g h = tt
  process_below (Some k) g h = h k

  passed_spaced : (k : Meaning) (to : Option Meaning) (i : ℕ) (es : List Expression) (xs : List Name) → i + spaced_tokens es ≤ n + 1 → Bounded n (passed k to i es xs)
  passed_spaced k to i [] xs h = tt
  passed_spaced k to i (e ∷ es) xs h = (wanted_below n k (first_kind to xs) i e (omega arith), passed_spaced k to (i + expression_tokens e + 1) es (others xs) (omega arith))

  passed_below : (k : Meaning) (to : Option Meaning) (i : ℕ) (es : List Expression) (xs : List Name) → i + list_tokens es ≤ n → Bounded n (passed k to i es xs)
  passed_below k to i es xs h = passed_spaced k to i es xs (omega (arith, spaced_is es))

  guard_below : (focus : List Name) (i : ℕ) (p : Name) (e : Expression) → i + 3 + expression_tokens e ≤ n → Bounded n (guard m focus i p e)
  guard_below focus i p e h = (
    broken_below n (process_rule m focus p) i (omega arith),
    process_below (m.meaning_at p) (λ k. wanted k (Some kind.Bool) (i + 3) e) (λ k. wanted_below n k (Some kind.Bool) (i + 3) e h),
  )

  stored_below : (focus : List Name) (i : ℕ) (p : Name) (xs : List Name) → i + 3 + name_tokens xs ≤ n → Bounded n (stored m focus i p xs)
  stored_below focus i p xs h = (
    broken_below n (process_rule m focus p) i (omega arith),
    process_below (m.meaning_at p) (λ k. variables k [] (i + 3) xs []) (λ k. variables_below n k (i + 3) xs [] h),
  )

  mutual
    item_below : (focus : List Name) (i : ℕ) (q : Item) → i + item_tokens q ≤ n → Bounded n (item m focus i q)
    item_below focus i (Pass to xs from es) h = (
      when_below n (not (nat_eq (length xs) (length es))) WrongCount i (omega arith),
      (
        stored_below focus i to xs (omega arith),
        (
          broken_below n (process_rule m focus from) (i + 3 + name_tokens xs + 2) (omega arith),
          process_below (m.meaning_at from) (λ k. passed k (m.meaning_at to) (i + 3 + name_tokens xs + 5) es xs) (λ k. passed_below k (m.meaning_at to) (i + 3 + name_tokens xs + 5) es xs (omega arith)),
        ),
      ),
    )
    item_below focus i (Fill k from to es) h = (
      broken_below n (process_rule m focus from) (i + 3) (omega arith),
      (
        broken_below n (process_rule m focus to) (i + 5) (omega arith),
        (
          broken_below n (process_rule m focus from) (i + 8) (omega arith),
          process_below (m.meaning_at from) (λ k. values k (i + 11) es []) (λ k. values_below n k (i + 11) es [] (omega arith)),
        ),
      ),
    )
    item_below focus i (Take to xs k from) h = (
      stored_below focus i to xs (omega arith),
      (broken_below n (process_rule m focus from) (i + 3 + name_tokens xs + 5) (omega arith), broken_below n (process_rule m focus to) (i + 3 + name_tokens xs + 7) (omega arith)),
    )
    item_below focus i (If p e a b) h = (
      guard_below focus (i + 1) p e (omega arith),
      (items_below focus (i + 4 + expression_tokens e + 2) a (omega arith), items_below focus (i + 4 + expression_tokens e + 2 + items_tokens a + 3) b (omega arith)),
    )
    item_below focus i (While p e b) h = (guard_below focus (i + 1) p e (omega arith), items_below focus (i + 4 + expression_tokens e + 2) b (omega arith))
    item_below focus i (For s b) h = (broken_below n (focus_rule m focus s) (i + 1) (omega arith), items_below (focus ++ s ∷ []) (i + 1 + 2) b (omega arith))
    item_below focus i (ForAny s b) h = (broken_below n (focus_rule m focus s) (i + 2) (omega arith), items_below (focus ++ s ∷ []) (i + 2 + 2) b (omega arith))
    item_below focus i (Pick s b) h = (broken_below n (focus_rule m focus s) (i + 1) (omega arith), items_below (focus ++ s ∷ []) (i + 1 + 2) b (omega arith))
    item_below focus i (Repeat s b) h = (broken_below n (turns_rule m s) (i + 1) (omega arith), items_below focus (i + 3) b (omega arith))

    items_below : (focus : List Name) (i : ℕ) (b : Items) → i + items_tokens b ≤ n → Bounded n (items m focus i b)
    items_below focus i nothing h = tt
    items_below focus i (q ⨟ b) h = (item_below focus i q (omega arith), items_below focus (i + item_tokens q) b (omega arith))

outlines_below : (n : ℕ) (P : Program) (i : ℕ) (rs : List RoleText) → program_tokens P ≤ n → i + sum_by role_tokens rs ≤ n → Bounded n (outlines (meaning P) i rs)
outlines_below n P i [] short h = tt
outlines_below n P i (r ∷ rs) short h =
    let sum = sum_by-cons role_tokens r rs in
    (declarations_below n (meaning P r.name) (i + heading_tokens r) r.decls (meaning_below n P r.name short) (omega (arith, sum)), outlines_below n P (i + role_tokens r) rs short (omega (arith, sum)))

-- each failure is at a token of the sequential program
pub sequence_below : (Q : SeqProgram) (r : Rule) (i : ℕ) → Fails (seq_failures Q) r i → i < seq_tokens Q
sequence_below Q r i f = bounded_fails (seq_tokens Q) (seq_failures Q) r i all f
  where
    all : Bounded (seq_tokens Q) (seq_failures Q)
    all =
        let n = seq_tokens Q in
        let short : program_tokens (outline Q) ≤ n = omega arith in (
          apart_below n (outline Q) short,
          (
            enumerations_below n 0 Q.enums (omega arith),
            (outlines_below n (outline Q) (roles_at (outline Q)) Q.roles short (omega arith), items_below n (meanings Q) [] (items_at Q) Q.body (omega arith)),
          ),
        )
