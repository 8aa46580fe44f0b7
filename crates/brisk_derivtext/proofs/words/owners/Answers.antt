use Rattle.std.proofs.Common.{◌≡◌, sym, ◌∙◌, length, arith}
use Rattle.std.specs.Prelude.{codes}
use Rattle.brisk_derivtext.proofs.Fronts.{no_last, no_owners_named, owners_parts, owners_read, same_word, other_word}
use Rattle.brisk_derivtext.proofs.words.owners.Goals as goal

pub returns-in_default : goal.returns-in_default
returns-in_default c = λ p legal e. (rw c.in_default.is at c.in_ok-drops.ensures) p.1 legal.1 (owners_parts c.in_ok-rest.ensures p legal e).1

pub returns-in_default-pop : goal.returns-in_default-pop
returns-in_default-pop c = λ p legal e.
    let none : length c.first_names.new.names.items ≡ 0 = (let n = c.in_default-pop.ensures.cases.0 in let ok = c.first_names.new.names.ok in grind (arith, ok, n)) in
    no_last c.first_names.new.names.items p.0 (codes "drop") none (owners_parts c.in_ok-rest.ensures p legal e).0

pub returns-then-eq : goal.returns-then-eq
returns-then-eq c =
    let word = same_word c.bytes.result.now c.as_slice.result.now c.if-eq.ensures in
    owners_read _ c.in-Some-pop.word c.in-Some.drops c.in_ok-rest.ensures c.in-Some-pop.ensures.items (sym c.bytes.ensures ∙ word ∙ c.as_slice.ensures) (rw c.in-Some.is at c.in_ok-drops.ensures)

pub returns-else-eq : goal.returns-else-eq
returns-else-eq c = λ p legal e.
    other_word c.bytes.result.now c.as_slice.result.now c.if-eq.ensures (c.bytes.ensures ∙ no_owners_named _ p.0 c.in-Some-pop.word (sym c.in-Some-pop.ensures.items ∙ (owners_parts c.in_ok-rest.ensures p legal e).0) ∙ sym c.as_slice.ensures)
