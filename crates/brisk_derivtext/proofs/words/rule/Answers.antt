use Rattle.std.proofs.Common.{◌≡◌, ◌==◌, true, false, [], sym, subst, ap, ◌∙◌, length, vec_len, arith}
use Rattle.brisk_lex.specs.Spelled.{IsName}
use Rattle.brisk_derivtext.proofs.Fronts.{owners_none, rule_words}
use Rattle.brisk_derivtext.proofs.words.rule.Goals as goal

pub returns-in_default-name_in : goal.returns-in_default-name_in
returns-in_default-name_in c = λ p legal e. c.in_default-name_in.ensures (subst IsName (sym (rule_words c.in-Some.ensures p legal e).0) legal.0)

pub returns-in_default-2 : goal.returns-in_default-2
returns-in_default-2 c = λ p legal e. (rw c.in_default-2.is at c.in_ok-names.ensures) ([], p.1) (tt, legal.1) (rule_words c.in-Some.ensures p legal e).1

pub returns : goal.returns
returns c = λ p legal e.
    let owners = rw c.in-Some-2.is at c.in_ok-names.ensures in
    let none = owners_none c.in-Some-2.names c.in-Some-2.drops p.1 owners.1 legal.1 (sym owners.0 ∙ (rule_words c.in-Some.ensures p legal e).1) in
    let items : c.names.inside.items.items ≡ [] = c.names.view_is ∙ none in
    let few = ap length items in
    let ok = c.names.inside.items.ok in
    let len : vec_len c.names.inside.items ≡ 0 = grind (arith, ok, few) in
    let wrong : false ≡ true = c.if-is_empty.ensures ∙ ap (λ z. z == 0) len in
    cc
