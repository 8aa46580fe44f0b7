-- The tokens of a sequential program are as many as are counted.
use Rattle.std.proofs.Common.{◌≡◌, List, ◌<◌, ◌≤◌, ◌^◌, length, refl, sym, ap, arith}
use Rattle.std.proofs.lemmas.List.{length-append, length-map}
use Rattle.brisk_lex.specs.declared.token.Placed.{Placed}
use Rattle.brisk_seq.specs.declared.tree.SeqProgram.{SeqProgram}
use Rattle.brisk_seq.specs.Items.{Item, Pass, Fill, Take, If, While, For, ForAny, Pick, Repeat, Items, nothing, ◌⨟◌}
use Rattle.brisk_seq.specs.Tokens as count
use Rattle.brisk_syntax.specs.Tokens.{enum_tokens, role_tokens}
use Rattle.brisk_parse.specs.Input.{tokens_of}
use Rattle.brisk_parse.specs.SequenceSpelling as spell
use Rattle.brisk_parse.specs.SequenceSpelling.{DenotesSequence}
use Rattle.brisk_parse.specs.Spelling.{enumeration, role}
use Rattle.brisk_types.proofs.Spelled.{expression_length, names_length, exprs_length, all_length, enum_length, role_length}

mutual
  item_length : (q : Item) → length (spell.item q) ≡ count.item_tokens q
  item_length (Pass q xs p es) = simp length-append (omega (arith, names_length xs, exprs_length es))
  item_length (Fill n p q es) = simp length-append (omega (arith, exprs_length es))
  item_length (Take q xs n p) = simp length-append (omega (arith, names_length xs))
  item_length (If p e a b) = simp length-append (omega (arith, expression_length e, items_length a, items_length b))
  item_length (While p e b) = simp length-append (omega (arith, expression_length e, items_length b))
  item_length (For s b) = simp length-append (omega (arith, items_length b))
  item_length (ForAny s b) = simp length-append (omega (arith, items_length b))
  item_length (Pick s b) = simp length-append (omega (arith, items_length b))
  item_length (Repeat s b) = simp length-append (omega (arith, items_length b))

  items_length : (b : Items) → length (spell.items b) ≡ count.items_tokens b
  items_length nothing = refl
  items_length (q ⨟ b) = omega (arith, length-append (spell.item q) (spell.items b), item_length q, items_length b)

-- the spelling has the tokens that are counted
pub sequence_length : (Q : SeqProgram) → length (spell.sequence_spelling Q) ≡ count.seq_tokens Q
sequence_length Q = simp length-append (omega (arith, all_length enumeration enum_tokens enum_length Q.enums, all_length role role_tokens role_length Q.roles, items_length Q.body))

-- so a sequential program that is read from so many tokens is short
pub short_sequence : (ts : List Placed) (Q : SeqProgram) → DenotesSequence ts Q → length ts ≤ 16777216 → count.seq_tokens Q < 2 ^ 32
short_sequence ts Q read h =
    let all : length ts ≡ length (tokens_of ts) = sym (length-map ts (λ (p : Placed). p.token)) in
    let same : length (tokens_of ts) ≡ length (spell.sequence_spelling Q) = ap length read.spelled in
    omega (arith, all, same, sequence_length Q)
