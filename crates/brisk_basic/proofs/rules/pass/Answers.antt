use Rattle.std.proofs.Common.{◌≡◌, [], map, Some, Ok, ap, sym, ◌∙◌}
use Rattle.std.specs.Prelude.{is_some, option_and_then}
use Rattle.brisk_facts.specs.Facts.{with_values}
use Rattle.brisk_facts.specs.Learning.{folded}
use Rattle.brisk_seq.specs.Items.{Pass}
use Rattle.brisk_seq.specs.Seen.{item_of}
use Rattle.brisk_syntax.specs.Segments.{head_of, rest_of}
use Rattle.brisk_syntax.specs.Syntax.{Code}
use Rattle.brisk_state.specs.Focus.{code_of}
use Rattle.brisk_state.specs.Symbolic.{Symbolic, code_at, key, numbers_at, thread_named, with_code}
use Rattle.brisk_basic.specs.Basic.{at_thread, pass, receives, sends}
use Rattle.brisk_basic.proofs.Lent.{if_one}
use Rattle.brisk_basic.proofs.Pairs.{apart, code_there, none_pend, receive_there, still_there}
use Rattle.brisk_basic.proofs.rules.pass.Goals as goal

pub skip-requires-2 : goal.skip-requires-2
skip-requires-2 c =
    let S = c.args.state.now in let t = c.args.t in let u = c.args.u in let a = c.in-Some.code.now in let b = c.in-Some-active.other.now in
    let first : Some a ≡ code_of (thread_named S.threads t) = code_there (thread_named S.threads t) a c.in-Some.ensures in
    let second : Some b ≡ code_of (thread_named S.threads u) = code_there (thread_named S.threads u) b c.in-Some-active.ensures in
    let two = apart S t u c.args.c a b _ _ c.in-Some.ensures c.in-Some-active.ensures c.in-Some-sends.ensures c.in-Some-receives.ensures in
    let P : Code → Type 0 = λ d. c.skip.new.state ≡ record S { threads = with_code t (rest_of d) S.threads; facts = c.in_ok-facts.facts } in
    let next : c.skip.new.state ≡ record S { threads = with_code t (rest_of a) S.threads; facts = c.in_ok-facts.facts } =
    if_one (code_of (thread_named S.threads t)) a P first c.skip.ensures in
    let there : code_of (thread_named c.skip.new.state.threads u) ≡ Some b =
    ap (λ (E : Symbolic). code_of (thread_named E.threads u)) next ∙ still_there t u (rest_of a) S.threads two ∙ sym second in
    ap (λ o. is_some (option_and_then head_of o)) there ∙ receive_there S t c.args.c b _ c.in-Some-receives.ensures

pub returns-clause-ok : goal.returns-clause-ok
returns-clause-ok c =
    let S = c.args.state.now in let t = c.args.t in let u = c.args.u in let a = c.in-Some.code.now in let b = c.in-Some-active.other.now in
    let ns = numbers_at S.pending (key t u c.args.c) in
    let first : Some a ≡ code_of (thread_named S.threads t) = code_there (thread_named S.threads t) a c.in-Some.ensures in
    let second : Some b ≡ code_of (thread_named S.threads u) = code_there (thread_named S.threads u) b c.in-Some-active.ensures in
    let two = apart S t u c.args.c a b _ _ c.in-Some.ensures c.in-Some-active.ensures c.in-Some-sends.ensures c.in-Some-receives.ensures in
    let P : Code → Type 0 = λ d. c.skip.new.state ≡ record S { threads = with_code t (rest_of d) S.threads; facts = c.in_ok-facts.facts } in
    let next : c.skip.new.state ≡ record S { threads = with_code t (rest_of a) S.threads; facts = c.in_ok-facts.facts } =
    if_one (code_of (thread_named S.threads t)) a P first c.skip.ensures in
    let there : Some b ≡ code_of (thread_named c.skip.new.state.threads u) =
    second ∙ sym (still_there t u (rest_of a) S.threads two) ∙ ap (λ (E : Symbolic). code_of (thread_named E.threads u)) (sym next) in
    let Q : Code → Type 0 = λ d. c.skip-2.new.state ≡ record c.skip.new.state { threads = with_code u (rest_of d) c.skip.new.state.threads } in
    let last = if_one (code_of (thread_named c.skip.new.state.threads u)) b Q there c.skip-2.ensures in
    let none : ns ≡ [] = none_pend ns c.oldest.result c.oldest.ensures (sym c.is_some.ensures ∙ c.if-is_some.false) in
    let xs = c.in-Some-receives.vars.now in let es = c.in-Some-sends.exprs.now in
    let known : c.in_ok-facts.facts ≡ with_values u xs (map (folded S.facts t) es) S.facts = c.in_ok-facts.ensures ∙ ap (λ f. with_values u xs (map (folded f t) es) f) c.facts.ensures in
    let statement : Pass u xs t es ≡ item_of c.passes-statement.result =
    (λ i. Pass u (sym c.in_ok-copy_names.ensures i) t (sym c.in_ok-copy_exprs.ensures i)) ∙ sym c.passes-statement.ensures in
    let after : Symbolic → Symbolic = λ E. record E { threads = with_code u (rest_of b) E.threads } in
    ap (λ o. at_thread o (λ code. at_thread (code_at S u) (λ other. pass S t u (sends S u c.args.c code) (receives S t c.args.c other) ns))) (sym c.in-Some.ensures)
    ∙ ap (λ o. at_thread o (λ other. pass S t u (sends S u c.args.c a) (receives S t c.args.c other) ns)) (sym c.in-Some-active.ensures)
    ∙ (λ i. pass S t u (sym c.in-Some-sends.ensures i) (sym c.in-Some-receives.ensures i) (none i))
    ∙ (λ i. Ok record { statement = Some (statement i); next = (ap (λ f. after (record S { threads = with_code t (rest_of a) S.threads; facts = f })) (sym known) ∙ ap after (sym next) ∙ sym last) i })
