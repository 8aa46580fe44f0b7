-- What an item does, and what items do.
use Rattle.std.proofs.Common.{◌≡◌, ℕ, ◌-◌, ◌<◌, Bool, true, List, [], ◌∷◌, refl, ap, sym, subst, ◌∙◌, arith}
use Rattle.std.proofs.lemmas.List.{length-set}
use Rattle.std.specs.Prelude.{IfErr, OnOk, if◌then◌else◌}
use Rattle.brisk_values.specs.declared.value.Pid.{Pid}
use Rattle.brisk_values.specs.Places.{value_in}
use Rattle.brisk_syntax.specs.Expressions.{expression_of}
use Rattle.brisk_syntax.specs.Stores.{is_true}
use Rattle.brisk_syntax.specs.Value.{size_in, value_of}
use Rattle.brisk_seq.specs.declared.tree.Seq.{Seq}
use Rattle.brisk_seq.specs.Items as tree
use Rattle.brisk_seq.specs.Running.{Goes, Marks, Stops, focus_on, given_in, run_of}
use Rattle.brisk_seq.specs.Seen.{item_of}
use Rattle.brisk_seq.specs.Sequential.{Ended, Focus, Run, choose, do_all, does, for_any, for_each, holds_at, in_focus, while_true}
use Rattle.brisk_seq.proofs.Evaluating.{focus_more, goes_by, goes_end, goes_last, if_err, on_ok, stops_by, stops_last}
use Rattle.brisk_seq.proofs.Looping.{after_choice, choice_goes, choice_stops, chosen_goes, chosen_stops, items_go, items_stop, marks_more, marks_none, member_goes, member_stops, told, turn_goes, turn_stops, while_ends, while_stops, while_turn_goes, while_turn_stops}
use Rattle.brisk_seq.proofs.evaluator.Setting.+body.Goals as goal

whole : (n : ℕ) → n ≡ n - 0
whole n = omega arith

pub choices-loop-turn-init : goal.choices-loop-turn-init
choices-loop-turn-init t c =
    let cs = c.args.self.now.choices.now in let given = given_in c.args.self.now in let old = c.args.run.now in let ps = c.args.focus.now.items in let who = focus_on ps in
    let size = c.size_of_set-size.result in
    record {
      leads = (
        [],
        subst (λ (xs : List Bool). Marks xs []) (sym c.in_ok-used.ensures.none) (marks_none size),
        λ n h. (n, h, ap (λ m. for_any m size [] (λ k t. do_all given c.args.body.now (in_focus c.args.set k who) t) (run_of cs n old)) (whole size)),
      );
      room = c.in_ok-used.ensures.len;
      focus = refl;
    }

pub choices-returns-in_err-member-clause-stops : goal.choices-returns-in_err-member-clause-stops
choices-returns-in_err-member-clause-stops t c =
    let cs = c.args.self.now.choices.now in let given = given_in c.args.self.now in let old = c.args.run.now in let ps = c.args.focus.now.items in let who = focus_on ps in
    let k = c.loop-turn._turn in let b = c.args.body.now in let s = c.args.set in let size = c.size_of_set-size.result in
    let now = c.loop-turn.run in let fs = c.loop-turn.focus.items in let same = c.loop-turn.invariant.focus in
    let us = c.loop-turn.invariant.leads.0 in let leads = c.loop-turn.invariant.leads.2 in
    let marks : Marks c.deref.result.now us = subst (λ (xs : List Bool). Marks xs us) (sym c.deref.ensures.value) c.loop-turn.invariant.leads.1 in
    let h : k < size = omega arith in let after = after_choice cs given old now ps fs same size k us s b in
    let f = c.in_err-member.field-0.0 in
    told cs old (for_any (size_in c.args.self.now.sizes.now s) (size_in c.args.self.now.sizes.now s) [] (λ j t. do_all given b (in_focus s j who) t)) c.from_residual-in_err-member.result f c.from_residual-in_err-member.ensures.1
    (subst (λ m. Stops cs old (for_any m m [] (λ j t. do_all given b (in_focus s j who) t)) f) c.size_of_set-size.ensures
    (choice_stops cs given old now ps fs same size k us s b h f leads (c.in_err-member.ensures.stops us after marks)))

pub choices-returns-in_err-with_member-clause-stops : goal.choices-returns-in_err-with_member-clause-stops
choices-returns-in_err-with_member-clause-stops t c =
    let cs = c.args.self.now.choices.now in let given = given_in c.args.self.now in let old = c.args.run.now in let ps = c.args.focus.now.items in let who = focus_on ps in
    let k = c.loop-turn._turn in let b = c.args.body.now in let s = c.args.set in let size = c.size_of_set-size.result in
    let now = c.loop-turn.run in let fs = c.loop-turn.focus.items in let same = c.loop-turn.invariant.focus in
    let us = c.loop-turn.invariant.leads.0 in let leads = c.loop-turn.invariant.leads.2 in
    let marks : Marks c.deref.result.now us = subst (λ (xs : List Bool). Marks xs us) (sym c.deref.ensures.value) c.loop-turn.invariant.leads.1 in
    let h : k < size = omega arith in let after = after_choice cs given old now ps fs same size k us s b in
    let f = c.in_err-with_member.field-0.0 in let j = c.in_ok-member.member in
    told cs old (for_any (size_in c.args.self.now.sizes.now s) (size_in c.args.self.now.sizes.now s) [] (λ j t. do_all given b (in_focus s j who) t)) c.from_residual-in_err-with_member.result f c.from_residual-in_err-with_member.ensures.1
    (subst (λ m. Stops cs old (for_any m m [] (λ j t. do_all given b (in_focus s j who) t)) f) c.size_of_set-size.ensures
    (chosen_stops cs given old c.choose.new.run ps fs same size k us s b j f
    (choice_goes cs given old now ps fs same size k us s b h c.choose.new.run j leads (c.in_ok-member.ensures.goes us after marks)) c.in_err-with_member.ensures.stops))

pub choices-loop-turn-preserved : goal.choices-loop-turn-preserved
choices-loop-turn-preserved t c =
    let cs = c.args.self.now.choices.now in let given = given_in c.args.self.now in let old = c.args.run.now in let ps = c.args.focus.now.items in let who = focus_on ps in
    let k = c.loop-turn._turn in let b = c.args.body.now in let s = c.args.set in let size = c.size_of_set-size.result in
    let now = c.loop-turn.run in let fs = c.loop-turn.focus.items in let same = c.loop-turn.invariant.focus in
    let us = c.loop-turn.invariant.leads.0 in let leads = c.loop-turn.invariant.leads.2 in
    let marks : Marks c.deref.result.now us = subst (λ (xs : List Bool). Marks xs us) (sym c.deref.ensures.value) c.loop-turn.invariant.leads.1 in
    let h : k < size = omega arith in let after = after_choice cs given old now ps fs same size k us s b in
    let j = c.in_ok-member.member in
    record {
      leads = (
        j ∷ us,
        marks_more c.loop-turn.used.items us j (omega (arith, c.in_ok-member.ensures.below, c.loop-turn.invariant.room)) c.loop-turn.invariant.leads.1,
        chosen_goes cs given old c.choose.new.run ps fs same c.with_member.new.run size k us s b j
            (choice_goes cs given old now ps fs same size k us s b h c.choose.new.run j leads (c.in_ok-member.ensures.goes us after marks)) c.in_ok-with_member.ensures.goes,
      );
      room = length-set c.loop-turn.used.items j true ∙ c.loop-turn.invariant.room;
      focus = c.in_ok-with_member.ensures.focus ∙ same;
    }

pub item-returns-in_err-member-in-Pick-clause-stops : goal.item-returns-in_err-member-in-Pick-clause-stops
item-returns-in_err-member-in-Pick-clause-stops t c =
    let cs = c.args.self.now.choices.now in let given = given_in c.args.self.now in let old = c.args.run.now in let ps = c.args.focus.now.items in let who = focus_on ps in
    let s = c.in-Pick.set in let b = c.in-Pick.body in let size = c.size_of_set.result in
    let go : ℕ → Run → Ended = λ k t. do_all given b (in_focus s k who) t in let none : Marks [] [] = λ k. refl in
    let f = c.in_err-member-in-Pick.field-0.0 in
    told cs old (does given (item_of c.args.q.now) who) c.from_residual-in_err-member-in-Pick.result f c.from_residual-in_err-member-in-Pick.ensures.1
    (subst (λ (q : Seq). Stops cs old (does given (item_of q) who) f) (sym c.in-Pick.is)
    (subst (λ m. Stops cs old (λ r. choose m [] r r.choices go) f) c.size_of_set.ensures (c.in_err-member-in-Pick.ensures.stops [] go none)))

pub item-returns-in_ok-pass-in-Pass-clause-goes : goal.item-returns-in_ok-pass-in-Pass-clause-goes
item-returns-in_ok-pass-in-Pass-clause-goes t c =
    let cs = c.args.self.now.choices.now in let given = given_in c.args.self.now in let old = c.args.run.now in let ps = c.args.focus.now.items in let who = focus_on ps in
    subst (λ (q : Seq). Goes cs old c.pass.new.run (does given (item_of q) who)) (sym c.in-Pass.is)
    (subst (λ (xs : List Pid). Goes cs old c.pass.new.run (does given (tree.Pass c.in-Pass.pass.to c.in-Pass.pass.vars c.in-Pass.pass.from c.in-Pass.pass.exprs) (focus_on xs))) c.deref.ensures.value c.in_ok-pass-in-Pass.ensures)

pub item-returns-in-Fill-clause-goes : goal.item-returns-in-Fill-clause-goes
item-returns-in-Fill-clause-goes t c =
    let cs = c.args.self.now.choices.now in let given = given_in c.args.self.now in let old = c.args.run.now in let ps = c.args.focus.now.items in let who = focus_on ps in
    subst (λ (q : Seq). OnOk c.fill.result (Goes cs old c.fill.new.run (does given (item_of q) who))) (sym c.in-Fill.is)
    (subst (λ (xs : List Pid). OnOk c.fill.result (Goes cs old c.fill.new.run (does given (tree.Fill c.in-Fill.fill.number c.in-Fill.fill.from c.in-Fill.fill.to c.in-Fill.fill.exprs) (focus_on xs)))) c.deref-in-Fill.ensures.value c.fill.ensures.goes)

pub item-returns-then-guard-clause-goes : goal.item-returns-then-guard-clause-goes
item-returns-then-guard-clause-goes t c =
    let cs = c.args.self.now.choices.now in let given = given_in c.args.self.now in let old = c.args.run.now in let ps = c.args.focus.now.items in let who = focus_on ps in
    let p = c.in-If.name in let e = expression_of c.in-If.e in let a = c.in-If.then in let b = c.in-If.otherwise in
    let told_guard : holds_at given (run_of cs 0 old) (who p) e ≡ c.guard.result =
    sym (c.guard.ensures ∙ ap (λ xs. is_true (value_of (size_in c.args.self.now.sizes.now) (value_in old.store (focus_on xs p)) e)) c.deref-in-If.ensures.value) in
    subst (λ (q : Seq). OnOk c.items.result (Goes cs old c.items.new.run (does given (item_of q) who))) (sym c.in-If.is)
    (on_ok c.items.result _ _ (goes_by cs old c.items.new.run (does given (tree.If p e a b) who) (do_all given a who) (λ n. ap (λ (z : Bool). if z then do_all given a who (run_of cs n old) else do_all given b who (run_of cs n old)) (told_guard ∙ c.if-guard.true))) c.items.ensures.goes)

pub item-returns-then-guard-clause-stops : goal.item-returns-then-guard-clause-stops
item-returns-then-guard-clause-stops t c =
    let cs = c.args.self.now.choices.now in let given = given_in c.args.self.now in let old = c.args.run.now in let ps = c.args.focus.now.items in let who = focus_on ps in
    let p = c.in-If.name in let e = expression_of c.in-If.e in let a = c.in-If.then in let b = c.in-If.otherwise in
    let told_guard : holds_at given (run_of cs 0 old) (who p) e ≡ c.guard.result =
    sym (c.guard.ensures ∙ ap (λ xs. is_true (value_of (size_in c.args.self.now.sizes.now) (value_in old.store (focus_on xs p)) e)) c.deref-in-If.ensures.value) in
    subst (λ (q : Seq). IfErr c.items.result (λ f. Stops cs old (does given (item_of q) who) f)) (sym c.in-If.is)
    (if_err c.items.result (λ f. Stops cs old (do_all given a who) f) (λ f. Stops cs old (does given (tree.If p e a b) who) f) (stops_by cs old (does given (tree.If p e a b) who) (do_all given a who) (λ n. ap (λ (z : Bool). if z then do_all given a who (run_of cs n old) else do_all given b who (run_of cs n old)) (told_guard ∙ c.if-guard.true))) c.items.ensures.stops)

pub item-returns-else-guard-clause-goes : goal.item-returns-else-guard-clause-goes
item-returns-else-guard-clause-goes t c =
    let cs = c.args.self.now.choices.now in let given = given_in c.args.self.now in let old = c.args.run.now in let ps = c.args.focus.now.items in let who = focus_on ps in
    let p = c.in-If.name in let e = expression_of c.in-If.e in let a = c.in-If.then in let b = c.in-If.otherwise in
    let told_guard : holds_at given (run_of cs 0 old) (who p) e ≡ c.guard.result =
    sym (c.guard.ensures ∙ ap (λ xs. is_true (value_of (size_in c.args.self.now.sizes.now) (value_in old.store (focus_on xs p)) e)) c.deref-in-If.ensures.value) in
    subst (λ (q : Seq). OnOk c.items-else-guard.result (Goes cs old c.items-else-guard.new.run (does given (item_of q) who))) (sym c.in-If.is)
    (on_ok c.items-else-guard.result _ _ (goes_by cs old c.items-else-guard.new.run (does given (tree.If p e a b) who) (do_all given b who) (λ n. ap (λ (z : Bool). if z then do_all given a who (run_of cs n old) else do_all given b who (run_of cs n old)) (told_guard ∙ c.if-guard.false))) c.items-else-guard.ensures.goes)

pub item-returns-else-guard-clause-stops : goal.item-returns-else-guard-clause-stops
item-returns-else-guard-clause-stops t c =
    let cs = c.args.self.now.choices.now in let given = given_in c.args.self.now in let old = c.args.run.now in let ps = c.args.focus.now.items in let who = focus_on ps in
    let p = c.in-If.name in let e = expression_of c.in-If.e in let a = c.in-If.then in let b = c.in-If.otherwise in
    let told_guard : holds_at given (run_of cs 0 old) (who p) e ≡ c.guard.result =
    sym (c.guard.ensures ∙ ap (λ xs. is_true (value_of (size_in c.args.self.now.sizes.now) (value_in old.store (focus_on xs p)) e)) c.deref-in-If.ensures.value) in
    subst (λ (q : Seq). IfErr c.items-else-guard.result (λ f. Stops cs old (does given (item_of q) who) f)) (sym c.in-If.is)
    (if_err c.items-else-guard.result (λ f. Stops cs old (do_all given b who) f) (λ f. Stops cs old (does given (tree.If p e a b) who) f) (stops_by cs old (does given (tree.If p e a b) who) (do_all given b who) (λ n. ap (λ (z : Bool). if z then do_all given a who (run_of cs n old) else do_all given b who (run_of cs n old)) (told_guard ∙ c.if-guard.false))) c.items-else-guard.ensures.stops)

pub item-returns-in-While-clause-goes : goal.item-returns-in-While-clause-goes
item-returns-in-While-clause-goes t c =
    let cs = c.args.self.now.choices.now in let given = given_in c.args.self.now in let old = c.args.run.now in let ps = c.args.focus.now.items in let who = focus_on ps in
    subst (λ (q : Seq). OnOk c.turns.result (Goes cs old c.turns.new.run (does given (item_of q) who))) (sym c.in-While.is) c.turns.ensures.goes

pub item-returns-in_ok-member-in-Pick-clause-goes : goal.item-returns-in_ok-member-in-Pick-clause-goes
item-returns-in_ok-member-in-Pick-clause-goes t c =
    let cs = c.args.self.now.choices.now in let given = given_in c.args.self.now in let old = c.args.run.now in let ps = c.args.focus.now.items in let who = focus_on ps in
    let s = c.in-Pick.set in let b = c.in-Pick.body in let size = c.size_of_set.result in
    let go : ℕ → Run → Ended = λ k t. do_all given b (in_focus s k who) t in let none : Marks [] [] = λ k. refl in
    let k = c.in_ok-member-in-Pick.member in
    subst (λ (q : Seq). OnOk c.with_member.result (Goes cs old c.with_member.new.run (does given (item_of q) who))) (sym c.in-Pick.is)
    (subst (λ m. OnOk c.with_member.result (Goes cs old c.with_member.new.run (λ r. choose m [] r r.choices go))) c.size_of_set.ensures
    (on_ok c.with_member.result (Goes cs c.choose.new.run c.with_member.new.run (go k)) (Goes cs old c.with_member.new.run (λ r. choose size [] r r.choices go))
    (goes_last cs old c.choose.new.run c.with_member.new.run (λ r. choose size [] r r.choices go) (go k) (c.in_ok-member-in-Pick.ensures.goes [] go none)) c.with_member.ensures.goes))

pub item-returns-in_ok-member-in-Pick-clause-stops : goal.item-returns-in_ok-member-in-Pick-clause-stops
item-returns-in_ok-member-in-Pick-clause-stops t c =
    let cs = c.args.self.now.choices.now in let given = given_in c.args.self.now in let old = c.args.run.now in let ps = c.args.focus.now.items in let who = focus_on ps in
    let s = c.in-Pick.set in let b = c.in-Pick.body in let size = c.size_of_set.result in
    let go : ℕ → Run → Ended = λ k t. do_all given b (in_focus s k who) t in let none : Marks [] [] = λ k. refl in
    let k = c.in_ok-member-in-Pick.member in
    subst (λ (q : Seq). IfErr c.with_member.result (λ f. Stops cs old (does given (item_of q) who) f)) (sym c.in-Pick.is)
    (subst (λ m. IfErr c.with_member.result (λ f. Stops cs old (λ r. choose m [] r r.choices go) f)) c.size_of_set.ensures
    (if_err c.with_member.result (λ f. Stops cs c.choose.new.run (go k) f) (λ f. Stops cs old (λ r. choose size [] r r.choices go) f)
    (λ f. stops_last cs old c.choose.new.run (λ r. choose size [] r r.choices go) (go k) f (c.in_ok-member-in-Pick.ensures.goes [] go none)) c.with_member.ensures.stops))

pub items-returns-in_err-item-clause-stops : goal.items-returns-in_err-item-clause-stops
items-returns-in_err-item-clause-stops t c =
    let cs = c.args.self.now.choices.now in let given = given_in c.args.self.now in let old = c.args.run.now in let ps = c.args.focus.now.items in let who = focus_on ps in
    let qs = c.deref-q-items.result.now in let i = c.loop-q.q-index in let q = c.q-item.result in let b = c.args.body.now in
    told cs old (do_all given b who) c.from_residual.result c.in_err-item.field-0.0 c.from_residual.ensures.1
    (items_stop cs given old c.loop-q.run ps c.loop-q.focus.items c.loop-q.invariant.focus b qs i q (omega arith) c.q-item.is c.in_err-item.field-0.0 c.loop-q.invariant.leads c.in_err-item.ensures.stops)

pub items-loop-q-preserved : goal.items-loop-q-preserved
items-loop-q-preserved t c =
    let cs = c.args.self.now.choices.now in let given = given_in c.args.self.now in let old = c.args.run.now in let ps = c.args.focus.now.items in let who = focus_on ps in
    let qs = c.deref-q-items.result.now in let i = c.loop-q.q-index in let q = c.q-item.result in let b = c.args.body.now in
    record {
      leads = items_go cs given old c.loop-q.run ps c.loop-q.focus.items c.loop-q.invariant.focus c.item.new.run b qs i q (omega arith) c.q-item.is c.loop-q.invariant.leads c.in_ok-item.ensures.goes;
      focus = c.in_ok-item.ensures.focus ∙ c.loop-q.invariant.focus;
    }

pub members-returns-in_err-with_member-clause-stops : goal.members-returns-in_err-with_member-clause-stops
members-returns-in_err-with_member-clause-stops t c =
    let cs = c.args.self.now.choices.now in let given = given_in c.args.self.now in let old = c.args.run.now in let ps = c.args.focus.now.items in let who = focus_on ps in
    let k = c.loop-member.member in let b = c.args.body.now in let s = c.args.set in let size = size_in c.args.self.now.sizes.now s in
    let h : k < size = omega (arith, c.size_of_set-member-end.ensures) in let f = c.in_err-with_member.field-0.0 in
    told cs old (for_each size 0 (λ j t. do_all given b (in_focus s j who) t)) c.from_residual.result f c.from_residual.ensures.1
    (member_stops cs given old c.loop-member.run ps c.loop-member.focus.items c.loop-member.invariant.focus size k s b h f c.loop-member.invariant.leads c.in_err-with_member.ensures.stops)

pub members-loop-member-preserved : goal.members-loop-member-preserved
members-loop-member-preserved t c =
    let cs = c.args.self.now.choices.now in let given = given_in c.args.self.now in let old = c.args.run.now in let ps = c.args.focus.now.items in let who = focus_on ps in
    let k = c.loop-member.member in let b = c.args.body.now in let s = c.args.set in let size = size_in c.args.self.now.sizes.now s in
    let h : k < size = omega (arith, c.size_of_set-member-end.ensures) in
    record {
      leads = member_goes cs given old c.loop-member.run ps c.loop-member.focus.items c.loop-member.invariant.focus c.with_member.new.run size k s b h c.loop-member.invariant.leads c.in_ok-with_member.ensures.goes;
      focus = c.in_ok-with_member.ensures.focus ∙ c.loop-member.invariant.focus;
    }

pub repeat-returns-in_err-items-clause-stops : goal.repeat-returns-in_err-items-clause-stops
repeat-returns-in_err-items-clause-stops t c =
    let cs = c.args.self.now.choices.now in let given = given_in c.args.self.now in let old = c.args.run.now in let ps = c.args.focus.now.items in let who = focus_on ps in
    let k = c.loop-turn._turn in let b = c.args.body.now in let size = size_in c.args.self.now.sizes.now c.args.set.now in
    let h : k < size = omega (arith, c.size_of_set-turn-end.ensures) in let f = c.in_err-items.field-0.0 in
    told cs old (for_each size 0 (λ j t. do_all given b who t)) c.from_residual.result f c.from_residual.ensures.1
    (turn_stops cs given old c.loop-turn.run ps c.loop-turn.focus.items c.loop-turn.invariant.focus size k b h f c.loop-turn.invariant.leads c.in_err-items.ensures.stops)

pub repeat-loop-turn-preserved : goal.repeat-loop-turn-preserved
repeat-loop-turn-preserved t c =
    let cs = c.args.self.now.choices.now in let given = given_in c.args.self.now in let old = c.args.run.now in let ps = c.args.focus.now.items in let who = focus_on ps in
    let k = c.loop-turn._turn in let b = c.args.body.now in let size = size_in c.args.self.now.sizes.now c.args.set.now in
    let h : k < size = omega (arith, c.size_of_set-turn-end.ensures) in
    record {
      leads = turn_goes cs given old c.loop-turn.run ps c.loop-turn.focus.items c.loop-turn.invariant.focus c.items.new.run size k b h c.loop-turn.invariant.leads c.in_ok-items.ensures.goes;
      focus = c.in_ok-items.ensures.focus ∙ c.loop-turn.invariant.focus;
    }

pub turns-returns-then-not-guard-clause-goes : goal.turns-returns-then-not-guard-clause-goes
turns-returns-then-not-guard-clause-goes t c =
    let cs = c.args.self.now.choices.now in let given = given_in c.args.self.now in let old = c.args.run.now in let ps = c.args.focus.now.items in let who = focus_on ps in
    let k = c.loop-turn._turn in let b = c.args.body.now in let size = old.turns in let p = c.args.name.now in let e = expression_of c.args.e.now in
    let guard : Run → Bool = λ s. holds_at given s (who p) e in let act : Run → Ended = λ t. do_all given b who t in
    let told_guard : (n : ℕ) → guard (run_of cs n c.loop-turn.run) ≡ c.guard.result =
    λ n. sym (c.guard.ensures ∙ ap (λ xs. is_true (value_of (size_in c.args.self.now.sizes.now) (value_in c.loop-turn.run.store (focus_on xs p)) e)) (c.deref.ensures.value ∙ c.loop-turn.invariant.focus)) in
    goes_end cs old c.loop-turn.run (while_true size guard act) (while_true (size - k) guard act) c.loop-turn.invariant.leads
    (λ n. while_ends (size - k) guard act (run_of cs n c.loop-turn.run) (told_guard n ∙ c.if-not-guard.true))

pub turns-returns-then-run-eq0-clause-stops : goal.turns-returns-then-run-eq0-clause-stops
turns-returns-then-run-eq0-clause-stops t c =
    let cs = c.args.self.now.choices.now in let given = given_in c.args.self.now in let old = c.args.run.now in let ps = c.args.focus.now.items in let who = focus_on ps in
    let k = c.loop-turn._turn in let b = c.args.body.now in let size = old.turns in let p = c.args.name.now in let e = expression_of c.args.e.now in
    let guard : Run → Bool = λ s. holds_at given s (who p) e in let act : Run → Ended = λ t. do_all given b who t in
    let told_guard : (n : ℕ) → guard (run_of cs n c.loop-turn.run) ≡ c.guard.result =
    λ n. sym (c.guard.ensures ∙ ap (λ xs. is_true (value_of (size_in c.args.self.now.sizes.now) (value_in c.loop-turn.run.store (focus_on xs p)) e)) (c.deref.ensures.value ∙ c.loop-turn.invariant.focus)) in
    λ n m. let l = c.loop-turn.invariant.leads n m in
    l.2 ∙ while_stops (size - k) guard act (run_of cs l.0 c.loop-turn.run) (told_guard l.0 ∙ c.if-not-guard.false) c.if-run-eq0.true

pub turns-returns-in_err-items-clause-stops : goal.turns-returns-in_err-items-clause-stops
turns-returns-in_err-items-clause-stops t c =
    let cs = c.args.self.now.choices.now in let given = given_in c.args.self.now in let old = c.args.run.now in let ps = c.args.focus.now.items in let who = focus_on ps in
    let k = c.loop-turn._turn in let b = c.args.body.now in let size = old.turns in let p = c.args.name.now in let e = expression_of c.args.e.now in
    let guard : Run → Bool = λ s. holds_at given s (who p) e in let act : Run → Ended = λ t. do_all given b who t in
    let told_guard : (n : ℕ) → guard (run_of cs n c.loop-turn.run) ≡ c.guard.result =
    λ n. sym (c.guard.ensures ∙ ap (λ xs. is_true (value_of (size_in c.args.self.now.sizes.now) (value_in c.loop-turn.run.store (focus_on xs p)) e)) (c.deref.ensures.value ∙ c.loop-turn.invariant.focus)) in
    let h : k < size = omega arith in let f = c.in_err-items.field-0.0 in
    told cs old (while_true size guard act) c.from_residual.result f c.from_residual.ensures.1
    (while_turn_stops cs given old c.loop-turn.run ps c.loop-turn.focus.items c.loop-turn.invariant.focus size k (c.loop-turn.run.turns - 1) b guard h (λ n. told_guard n ∙ c.if-not-guard.false) (omega arith) f
    c.loop-turn.invariant.leads c.in_err-items.ensures.stops)

pub turns-loop-turn-preserved : goal.turns-loop-turn-preserved
turns-loop-turn-preserved t c =
    let cs = c.args.self.now.choices.now in let given = given_in c.args.self.now in let old = c.args.run.now in let ps = c.args.focus.now.items in let who = focus_on ps in
    let k = c.loop-turn._turn in let b = c.args.body.now in let size = old.turns in let p = c.args.name.now in let e = expression_of c.args.e.now in
    let guard : Run → Bool = λ s. holds_at given s (who p) e in let act : Run → Ended = λ t. do_all given b who t in
    let told_guard : (n : ℕ) → guard (run_of cs n c.loop-turn.run) ≡ c.guard.result =
    λ n. sym (c.guard.ensures ∙ ap (λ xs. is_true (value_of (size_in c.args.self.now.sizes.now) (value_in c.loop-turn.run.store (focus_on xs p)) e)) (c.deref.ensures.value ∙ c.loop-turn.invariant.focus)) in
    let h : k < size = omega arith in
    record {
      leads = while_turn_goes cs given old c.loop-turn.run ps c.loop-turn.focus.items c.loop-turn.invariant.focus c.items.new.run size k (c.loop-turn.run.turns - 1) b guard h (λ n. told_guard n ∙ c.if-not-guard.false) (omega arith)
          c.loop-turn.invariant.leads c.in_ok-items.ensures.goes;
      focus = c.in_ok-items.ensures.focus ∙ c.loop-turn.invariant.focus;
    }

pub with_member-returns-in_err-items-clause-stops : goal.with_member-returns-in_err-items-clause-stops
with_member-returns-in_err-items-clause-stops t c =
    let cs = c.args.self.now.choices.now in let given = given_in c.args.self.now in let old = c.args.run.now in let ps = c.args.focus.now.items in let who = focus_on ps in
    let b = c.args.body.now in let f = c.in_err-items.field-0.0 in
    told cs old (do_all given b (in_focus c.args.set c.args.member who)) c.from_residual-in_err-items.result f c.from_residual-in_err-items.ensures.1
    (subst (λ (w : Focus). Stops cs old (do_all given b w) f) (ap focus_on c.in_ok-push.ensures.items ∙ focus_more ps c.args.set c.args.member) c.in_err-items.ensures.stops)

pub with_member-returns-clause-goes : goal.with_member-returns-clause-goes
with_member-returns-clause-goes t c =
    let cs = c.args.self.now.choices.now in let given = given_in c.args.self.now in let old = c.args.run.now in let ps = c.args.focus.now.items in let who = focus_on ps in
    let b = c.args.body.now in
    subst (λ (w : Focus). Goes cs old c.items.new.run (do_all given b w)) (ap focus_on c.in_ok-push.ensures.items ∙ focus_more ps c.args.set c.args.member) c.in_ok-items.ensures.goes
