-- What a step unfolds to, and what steps do.
use Rattle.std.proofs.Common.{◌≡◌, ℕ, ◌-◌, ◌<◌, Bool, true, List, [], ◌∷◌, map, Option, Some, refl, ap, sym, subst, ◌∙◌, arith}
use Rattle.std.proofs.lemmas.List.{length-set}
use Rattle.std.specs.Prelude.{IfErr, OnOk, if◌then◌else◌, option_map}
use Rattle.brisk_values.specs.declared.value.Pid.{Pid}
use Rattle.brisk_values.specs.Names.{member}
use Rattle.brisk_values.specs.Places.{value_in}
use Rattle.brisk_syntax.specs.Declarations.{is_loose}
use Rattle.brisk_syntax.specs.Expressions.{expression_of}
use Rattle.brisk_syntax.specs.Stores.{is_true}
use Rattle.brisk_syntax.specs.Value.{size_in, value_of}
use Rattle.brisk_seq.specs.declared.tree.Seq.{Seq}
use Rattle.brisk_seq.specs.Items as item
use Rattle.brisk_seq.specs.Items.{Item}
use Rattle.brisk_seq.specs.Running as seq
use Rattle.brisk_seq.specs.Running.{focus_on, given_in}
use Rattle.brisk_seq.specs.Seen.{item_of}
use Rattle.brisk_seq.specs.Sequential.{Ended, Focus, Run, choose, holds_at, in_focus}
use Rattle.brisk_seq.proofs.Evaluating.{focus_more, if_err, on_ok}
use Rattle.brisk_seq.proofs.Looping.{marks_more, marks_none}
use Rattle.brisk_derivation.specs.declared.steps.Step.{Step}
use Rattle.brisk_derivation.specs.Seen.{step_of}
use Rattle.brisk_derivation.specs.Steps as tree
use Rattle.brisk_rules.specs.Unfolding.{Unfolding, Unfolded, all_move, carries, chooses, moves, turns_any, turns_each, turns_while}
use Rattle.brisk_unfold.specs.declared.progress.Progress.{Progress}
use Rattle.brisk_unfold.specs.Going.{Goes, Leads, Marks, Stops, step_in, steps_in, unfolding_of}
use Rattle.brisk_unfold.proofs.Choosing.{any_choice_stops, any_ends, any_goes, any_stops, choice_leads, choice_stops}
use Rattle.brisk_unfold.proofs.Leading.{goes_last, leads_marks, leads_self, stops_last, told}
use Rattle.brisk_unfold.proofs.Looping.{each_ends, each_goes, each_stops, while_ends, while_goes, while_spent, while_stops, while_turn_stops}
use Rattle.brisk_unfold.proofs.Stepping.{steps_go, steps_stop}
use Rattle.brisk_unfold.proofs.unfolder.Unfolder.+unfold.Goals as goal

whole : (n : ℕ) → n ≡ n - 0
whole n = omega arith

pub choices-loop-turn-init : goal.choices-loop-turn-init
choices-loop-turn-init t c =
    let s = c.args.self.now in let cs = s.setting.choices.now in let old = c.args.progress.now in let ps = c.args.focus.now.items in let who = focus_on ps in
    let a = c.args.premise.now in let b = c.args.body.now in let set = c.args.set.now in let w = who c.args.owner.now in let size = c.size_of_set-size.result in
    let move : Unfolding → Unfolding = moves w in let act : ℕ → Unfolding → Unfolded = λ j v. steps_in s a b (in_focus set j who) (carries w (member set j) v) in
    record {
      leads = (
        [],
        subst (λ (xs : List Bool). seq.Marks xs []) (sym c.in_ok-used.ensures.none) (marks_none size),
        λ n h. (n, h, ap (λ m. turns_any m size [] move act (unfolding_of cs n old)) (whole size)),
      );
      room = c.in_ok-used.ensures.len;
      focus = refl;
    }

pub choices-returns-in_err-member-clause-stops : goal.choices-returns-in_err-member-clause-stops
choices-returns-in_err-member-clause-stops t c =
    let s = c.args.self.now in let cs = s.setting.choices.now in let old = c.args.progress.now in let ps = c.args.focus.now.items in let who = focus_on ps in
    let a = c.args.premise.now in let b = c.args.body.now in let set = c.args.set.now in let w = who c.args.owner.now in let size = c.size_of_set-size.result in
    let move : Unfolding → Unfolding = moves w in let act : ℕ → Unfolding → Unfolded = λ j v. steps_in s a b (in_focus set j who) (carries w (member set j) v) in
    let k = c.loop-turn._turn in let now = c.loop-turn.progress in let same = c.loop-turn.invariant.focus in let us = c.loop-turn.invariant.leads.0 in let leads = c.loop-turn.invariant.leads.2 in
    let marks : seq.Marks c.deref.result.now us = subst (λ (xs : List Bool). seq.Marks xs us) (sym c.deref.ensures.value) c.loop-turn.invariant.leads.1 in
    let f = c.in_err-member.field-0.0 in
    told cs old (turns_any (size_in s.setting.sizes.now set) (size_in s.setting.sizes.now set) [] move act) c.from_residual-in_err-member.result f c.from_residual-in_err-member.ensures.1
    (subst (λ m. Stops cs old (turns_any m m [] move act) f) c.size_of_set-size.ensures
    (any_choice_stops cs old now size k us move act leads (omega arith) f (λ g. c.in_err-member.ensures.stops us g marks)))

pub choices-returns-in_err-from_member-clause-stops : goal.choices-returns-in_err-from_member-clause-stops
choices-returns-in_err-from_member-clause-stops t c =
    let s = c.args.self.now in let cs = s.setting.choices.now in let old = c.args.progress.now in let ps = c.args.focus.now.items in let who = focus_on ps in
    let a = c.args.premise.now in let b = c.args.body.now in let set = c.args.set.now in let w = who c.args.owner.now in let size = c.size_of_set-size.result in
    let move : Unfolding → Unfolding = moves w in let act : ℕ → Unfolding → Unfolded = λ j v. steps_in s a b (in_focus set j who) (carries w (member set j) v) in
    let k = c.loop-turn._turn in let now = c.loop-turn.progress in let same = c.loop-turn.invariant.focus in let us = c.loop-turn.invariant.leads.0 in let leads = c.loop-turn.invariant.leads.2 in
    let marks : seq.Marks c.deref.result.now us = subst (λ (xs : List Bool). seq.Marks xs us) (sym c.deref.ensures.value) c.loop-turn.invariant.leads.1 in
    let ran : Progress = record now { run = c.choose.new.run } in let j = c.in_ok-member.member in
    let chosen : (g : ℕ → Run → Ended) → seq.Leads cs now.run c.choose.new.run (λ r. choose size us r r.choices g) (g j) = λ g. c.in_ok-member.ensures.goes us g marks in
    let same_focus = c.deref-in-loop-turn.ensures.value ∙ same in
    let m : Marks ran c.step.new.self move = subst (λ (p : Pid). Marks ran c.step.new.self (moves p)) (c.process.ensures ∙ ap (λ (xs : List Pid). focus_on xs c.args.owner.now) same_focus) c.in_ok-step.ensures in
    let f = c.in_err-from_member.field-0.0 in
    told cs old (turns_any (size_in s.setting.sizes.now set) (size_in s.setting.sizes.now set) [] move act) c.from_residual-in_err-from_member.result f c.from_residual-in_err-from_member.ensures.1
    (subst (λ m. Stops cs old (turns_any m m [] move act) f) c.size_of_set-size.ensures
    (any_stops cs old now size k us move act leads (omega arith) c.choose.new.run j chosen c.step.new.self m f
    (subst (λ (xs : List Pid). Stops cs c.step.new.self (λ u. steps_in s a b (in_focus set j (focus_on xs)) (carries (focus_on xs c.args.owner.now) (member set j) u)) f) same c.in_err-from_member.ensures.stops)))

pub choices-loop-turn-preserved : goal.choices-loop-turn-preserved
choices-loop-turn-preserved t c =
    let s = c.args.self.now in let cs = s.setting.choices.now in let old = c.args.progress.now in let ps = c.args.focus.now.items in let who = focus_on ps in
    let a = c.args.premise.now in let b = c.args.body.now in let set = c.args.set.now in let w = who c.args.owner.now in let size = c.size_of_set-size.result in
    let move : Unfolding → Unfolding = moves w in let act : ℕ → Unfolding → Unfolded = λ j v. steps_in s a b (in_focus set j who) (carries w (member set j) v) in
    let k = c.loop-turn._turn in let now = c.loop-turn.progress in let same = c.loop-turn.invariant.focus in let us = c.loop-turn.invariant.leads.0 in let leads = c.loop-turn.invariant.leads.2 in
    let marks : seq.Marks c.deref.result.now us = subst (λ (xs : List Bool). seq.Marks xs us) (sym c.deref.ensures.value) c.loop-turn.invariant.leads.1 in
    let ran : Progress = record now { run = c.choose.new.run } in let j = c.in_ok-member.member in
    let chosen : (g : ℕ → Run → Ended) → seq.Leads cs now.run c.choose.new.run (λ r. choose size us r r.choices g) (g j) = λ g. c.in_ok-member.ensures.goes us g marks in
    let same_focus = c.deref-in-loop-turn.ensures.value ∙ same in
    let m : Marks ran c.step.new.self move = subst (λ (p : Pid). Marks ran c.step.new.self (moves p)) (c.process.ensures ∙ ap (λ (xs : List Pid). focus_on xs c.args.owner.now) same_focus) c.in_ok-step.ensures in
    record {
      leads = (
        j ∷ us,
        marks_more c.loop-turn.used.items us j (omega (arith, c.in_ok-member.ensures.below, c.loop-turn.invariant.room)) c.loop-turn.invariant.leads.1,
        any_goes cs old now size k us move act leads (omega arith) c.choose.new.run j chosen c.step.new.self m c.from_member.new.progress
            (subst (λ (xs : List Pid). Goes cs c.step.new.self c.from_member.new.progress (λ u. steps_in s a b (in_focus set j (focus_on xs)) (carries (focus_on xs c.args.owner.now) (member set j) u))) same c.in_ok-from_member.ensures.goes),
      );
      room = length-set c.loop-turn.used.items j true ∙ c.loop-turn.invariant.room;
      focus = c.in_ok-from_member.ensures.focus ∙ same;
    }

pub choices-returns-clause-goes : goal.choices-returns-clause-goes
choices-returns-clause-goes t c =
    let s = c.args.self.now in let cs = s.setting.choices.now in let old = c.args.progress.now in let ps = c.args.focus.now.items in let who = focus_on ps in
    let a = c.args.premise.now in let b = c.args.body.now in let set = c.args.set.now in let w = who c.args.owner.now in let size = c.size_of_set-size.result in
    let move : Unfolding → Unfolding = moves w in let act : ℕ → Unfolding → Unfolded = λ j v. steps_in s a b (in_focus set j who) (carries w (member set j) v) in
    let k = c.loop-turn._turn in let now = c.loop-turn.progress in let same = c.loop-turn.invariant.focus in let us = c.loop-turn.invariant.leads.0 in let leads = c.loop-turn.invariant.leads.2 in
    let m : Marks now c.step-2.new.self move = subst (λ (p : Pid). Marks now c.step-2.new.self (moves p)) (c.process-2.ensures ∙ ap (λ (xs : List Pid). focus_on xs c.args.owner.now) (c.deref-2.ensures.value ∙ same)) c.in_ok-step-2.ensures in
    subst (λ m. Goes cs old c.step-2.new.self (turns_any m m [] move act)) c.size_of_set-size.ensures
    (any_ends cs old now size k us move act leads c.step-2.new.self (omega arith) m)

pub from_member-returns-clause-goes : goal.from_member-returns-clause-goes
from_member-returns-clause-goes t c =
    let s = c.args.self.now in let cs = s.setting.choices.now in let old = c.args.progress.now in let ps = c.args.focus.now.items in let who = focus_on ps in
    let a = c.args.premise.now in let b = c.args.body.now in let mid = c.carry.new.self in let p = c.args.member.now in let w = who c.args.owner.now in
    let act : Unfolding → Unfolded = steps_in s a b (in_focus c.args.member.now.role c.args.member.now.member who) in
    let m : Marks old mid (carries w p) = subst (λ (q : Pid). Marks old mid (carries q p)) (c.process.ensures ∙ ap (λ (xs : List Pid). focus_on xs c.args.owner.now) c.deref.ensures.value) c.in_ok-carry.ensures in
    let leads = leads_marks cs old old mid (λ u. act (carries w p u)) act (carries w p) (leads_self cs old (λ u. act (carries w p u))) m in
    on_ok c.with_member.result _ _ (goes_last cs old mid c.with_member.new.progress (λ u. act (carries w p u)) act leads) c.with_member.ensures.goes

pub from_member-returns-clause-stops : goal.from_member-returns-clause-stops
from_member-returns-clause-stops t c =
    let s = c.args.self.now in let cs = s.setting.choices.now in let old = c.args.progress.now in let ps = c.args.focus.now.items in let who = focus_on ps in
    let a = c.args.premise.now in let b = c.args.body.now in let mid = c.carry.new.self in let p = c.args.member.now in let w = who c.args.owner.now in
    let act : Unfolding → Unfolded = steps_in s a b (in_focus c.args.member.now.role c.args.member.now.member who) in
    let m : Marks old mid (carries w p) = subst (λ (q : Pid). Marks old mid (carries q p)) (c.process.ensures ∙ ap (λ (xs : List Pid). focus_on xs c.args.owner.now) c.deref.ensures.value) c.in_ok-carry.ensures in
    let leads = leads_marks cs old old mid (λ u. act (carries w p u)) act (carries w p) (leads_self cs old (λ u. act (carries w p u))) m in
    if_err c.with_member.result (λ f. Stops cs mid act f) (λ f. Stops cs old (λ u. act (carries w p u)) f) (λ f. stops_last cs old mid (λ u. act (carries w p u)) act f leads) c.with_member.ensures.stops

pub members-returns-in_err-with_member-clause-stops : goal.members-returns-in_err-with_member-clause-stops
members-returns-in_err-with_member-clause-stops t c =
    let s = c.args.self.now in let cs = s.setting.choices.now in let old = c.args.progress.now in let ps = c.args.focus.now.items in let who = focus_on ps in
    let k = c.loop-member.member in let now = c.loop-member.progress in let same = c.loop-member.invariant.focus in let leads = c.loop-member.invariant.leads in
    let a = c.args.premise.now in let b = c.args.body.now in let set = c.args.set.now in let size = size_in s.setting.sizes.now set in
    let move : Unfolding → Unfolding = all_move (map who c.args.owners.now) in let act : ℕ → Unfolding → Unfolded = λ j. steps_in s a b (in_focus set j who) in
    let mid = c.step_each.new.progress in
    let m : Marks now mid move = subst (λ (xs : List Pid). Marks now mid (all_move (map (focus_on xs) c.args.owners.now))) (c.deref.ensures.value ∙ same) c.in_ok-step_each.ensures in
    let h : k < size = omega (arith, c.size_of_set-member-end.ensures) in
    let f = c.in_err-with_member.field-0.0 in
    told cs old (turns_each size 0 move act) c.from_residual-in_err-with_member.result f c.from_residual-in_err-with_member.ensures.1
    (each_stops cs old now size k move act leads mid h m f (subst (λ (xs : List Pid). Stops cs mid (steps_in s a b (in_focus set k (focus_on xs))) f) same c.in_err-with_member.ensures.stops))

pub members-loop-member-preserved : goal.members-loop-member-preserved
members-loop-member-preserved t c =
    let s = c.args.self.now in let cs = s.setting.choices.now in let old = c.args.progress.now in let ps = c.args.focus.now.items in let who = focus_on ps in
    let k = c.loop-member.member in let now = c.loop-member.progress in let same = c.loop-member.invariant.focus in let leads = c.loop-member.invariant.leads in
    let a = c.args.premise.now in let b = c.args.body.now in let set = c.args.set.now in let size = size_in s.setting.sizes.now set in
    let move : Unfolding → Unfolding = all_move (map who c.args.owners.now) in let act : ℕ → Unfolding → Unfolded = λ j. steps_in s a b (in_focus set j who) in
    let mid = c.step_each.new.progress in
    let m : Marks now mid move = subst (λ (xs : List Pid). Marks now mid (all_move (map (focus_on xs) c.args.owners.now))) (c.deref.ensures.value ∙ same) c.in_ok-step_each.ensures in
    let h : k < size = omega (arith, c.size_of_set-member-end.ensures) in
    record {
      leads = each_goes cs old now size k move act leads mid c.with_member.new.progress h m (subst (λ (xs : List Pid). Goes cs mid c.with_member.new.progress (steps_in s a b (in_focus set k (focus_on xs)))) same c.in_ok-with_member.ensures.goes);
      focus = c.in_ok-with_member.ensures.focus ∙ same;
    }

pub members-returns-clause-goes : goal.members-returns-clause-goes
members-returns-clause-goes t c =
    let s = c.args.self.now in let cs = s.setting.choices.now in let old = c.args.progress.now in let ps = c.args.focus.now.items in let who = focus_on ps in
    let k = c.loop-member.member in let now = c.loop-member.progress in let same = c.loop-member.invariant.focus in let leads = c.loop-member.invariant.leads in
    let a = c.args.premise.now in let b = c.args.body.now in let set = c.args.set.now in let size = size_in s.setting.sizes.now set in
    let move : Unfolding → Unfolding = all_move (map who c.args.owners.now) in let act : ℕ → Unfolding → Unfolded = λ j. steps_in s a b (in_focus set j who) in
    let m : Marks now c.step_each-2.new.progress move = subst (λ (xs : List Pid). Marks now c.step_each-2.new.progress (all_move (map (focus_on xs) c.args.owners.now))) (c.deref-2.ensures.value ∙ same) c.in_ok-step_each-2.ensures in
    each_ends cs old now size k move act leads c.step_each-2.new.progress (omega (arith, c.size_of_set-member-end.ensures)) m

pub repeat-returns-in_err-steps-clause-stops : goal.repeat-returns-in_err-steps-clause-stops
repeat-returns-in_err-steps-clause-stops t c =
    let s = c.args.self.now in let cs = s.setting.choices.now in let old = c.args.progress.now in let ps = c.args.focus.now.items in let who = focus_on ps in
    let k = c.loop-turn._turn in let now = c.loop-turn.progress in let same = c.loop-turn.invariant.focus in let leads = c.loop-turn.invariant.leads in
    let a = c.args.premise.now in let b = c.args.body.now in let size = size_in s.setting.sizes.now c.args.set.now in let w = who c.args.owner.now in
    let move : Unfolding → Unfolding = moves w in let act : ℕ → Unfolding → Unfolded = λ j. steps_in s a b who in
    let mid = c.step.new.self in
    let m : Marks now mid move = subst (λ (p : Pid). Marks now mid (moves p)) (c.process.ensures ∙ ap (λ (xs : List Pid). focus_on xs c.args.owner.now) (c.deref.ensures.value ∙ same)) c.in_ok-step.ensures in
    let h : k < size = omega (arith, c.size_of_set-turn-end.ensures) in
    let f = c.in_err-steps.field-0.0 in
    told cs old (turns_each size 0 move act) c.from_residual-in_err-steps.result f c.from_residual-in_err-steps.ensures.1
    (each_stops cs old now size k move act leads mid h m f (subst (λ (xs : List Pid). Stops cs mid (steps_in s a b (focus_on xs)) f) same c.in_err-steps.ensures.stops))

pub repeat-loop-turn-preserved : goal.repeat-loop-turn-preserved
repeat-loop-turn-preserved t c =
    let s = c.args.self.now in let cs = s.setting.choices.now in let old = c.args.progress.now in let ps = c.args.focus.now.items in let who = focus_on ps in
    let k = c.loop-turn._turn in let now = c.loop-turn.progress in let same = c.loop-turn.invariant.focus in let leads = c.loop-turn.invariant.leads in
    let a = c.args.premise.now in let b = c.args.body.now in let size = size_in s.setting.sizes.now c.args.set.now in let w = who c.args.owner.now in
    let move : Unfolding → Unfolding = moves w in let act : ℕ → Unfolding → Unfolded = λ j. steps_in s a b who in
    let mid = c.step.new.self in
    let m : Marks now mid move = subst (λ (p : Pid). Marks now mid (moves p)) (c.process.ensures ∙ ap (λ (xs : List Pid). focus_on xs c.args.owner.now) (c.deref.ensures.value ∙ same)) c.in_ok-step.ensures in
    let h : k < size = omega (arith, c.size_of_set-turn-end.ensures) in
    record {
      leads = each_goes cs old now size k move act leads mid c.steps.new.progress h m (subst (λ (xs : List Pid). Goes cs mid c.steps.new.progress (steps_in s a b (focus_on xs))) same c.in_ok-steps.ensures.goes);
      focus = c.in_ok-steps.ensures.focus ∙ same;
    }

pub repeat-returns-clause-goes : goal.repeat-returns-clause-goes
repeat-returns-clause-goes t c =
    let s = c.args.self.now in let cs = s.setting.choices.now in let old = c.args.progress.now in let ps = c.args.focus.now.items in let who = focus_on ps in
    let k = c.loop-turn._turn in let now = c.loop-turn.progress in let same = c.loop-turn.invariant.focus in let leads = c.loop-turn.invariant.leads in
    let a = c.args.premise.now in let b = c.args.body.now in let size = size_in s.setting.sizes.now c.args.set.now in let w = who c.args.owner.now in
    let move : Unfolding → Unfolding = moves w in let act : ℕ → Unfolding → Unfolded = λ j. steps_in s a b who in
    let m : Marks now c.step-2.new.self move = subst (λ (p : Pid). Marks now c.step-2.new.self (moves p)) (c.process-2.ensures ∙ ap (λ (xs : List Pid). focus_on xs c.args.owner.now) (c.deref-2.ensures.value ∙ same)) c.in_ok-step-2.ensures in
    each_ends cs old now size k move act leads c.step-2.new.self (omega (arith, c.size_of_set-turn-end.ensures)) m

-- the one step and item in the place of the other
at_both : (P : Step → Seq → Type 0) (d d' : Step) (q q' : Seq) → d ≡ d' → q ≡ q' → P d' q' → P d q
at_both P d d' q q' e f h = subst (λ (x : Step). P x q) (sym e) (subst (P d') (sym f) h)

pub with_item-returns-in-While-While-clause-goes : goal.with_item-returns-in-While-While-clause-goes
with_item-returns-in-While-While-clause-goes t c =
    let s = c.args.self.now in let cs = s.setting.choices.now in let old = c.args.progress.now in let ps = c.args.focus.now.items in let who = focus_on ps in
    at_both (λ d q. OnOk c.turns.result (Goes cs old c.turns.new.progress (step_in s (step_of d) (Some (item_of q)) who))) c.args.step.now _ c.args.item.now _ c.in-While-While.is-0 c.in-While-While.is-1
    c.turns.ensures.goes

pub with_item-returns-in-While-While-clause-stops : goal.with_item-returns-in-While-While-clause-stops
with_item-returns-in-While-While-clause-stops t c =
    let s = c.args.self.now in let cs = s.setting.choices.now in let old = c.args.progress.now in let ps = c.args.focus.now.items in let who = focus_on ps in
    at_both (λ d q. IfErr c.turns.result (λ f. Stops cs old (step_in s (step_of d) (Some (item_of q)) who) f)) c.args.step.now _ c.args.item.now _ c.in-While-While.is-0 c.in-While-While.is-1
    c.turns.ensures.stops

pub with_item-returns-in-For-For-clause-goes : goal.with_item-returns-in-For-For-clause-goes
with_item-returns-in-For-For-clause-goes t c =
    let s = c.args.self.now in let cs = s.setting.choices.now in let old = c.args.progress.now in let ps = c.args.focus.now.items in let who = focus_on ps in
    at_both (λ d q. OnOk c.members.result (Goes cs old c.members.new.progress (step_in s (step_of d) (Some (item_of q)) who))) c.args.step.now _ c.args.item.now _ c.in-For-For.is-0 c.in-For-For.is-1
    c.members.ensures.goes

pub with_item-returns-in-For-For-clause-stops : goal.with_item-returns-in-For-For-clause-stops
with_item-returns-in-For-For-clause-stops t c =
    let s = c.args.self.now in let cs = s.setting.choices.now in let old = c.args.progress.now in let ps = c.args.focus.now.items in let who = focus_on ps in
    at_both (λ d q. IfErr c.members.result (λ f. Stops cs old (step_in s (step_of d) (Some (item_of q)) who) f)) c.args.step.now _ c.args.item.now _ c.in-For-For.is-0 c.in-For-For.is-1
    c.members.ensures.stops

pub with_item-returns-in-Repeat-Repeat-clause-goes : goal.with_item-returns-in-Repeat-Repeat-clause-goes
with_item-returns-in-Repeat-Repeat-clause-goes t c =
    let s = c.args.self.now in let cs = s.setting.choices.now in let old = c.args.progress.now in let ps = c.args.focus.now.items in let who = focus_on ps in
    at_both (λ d q. OnOk c.repeat.result (Goes cs old c.repeat.new.progress (step_in s (step_of d) (Some (item_of q)) who))) c.args.step.now _ c.args.item.now _ c.in-Repeat-Repeat.is-0 c.in-Repeat-Repeat.is-1
    c.repeat.ensures.goes

pub with_item-returns-in-Repeat-Repeat-clause-stops : goal.with_item-returns-in-Repeat-Repeat-clause-stops
with_item-returns-in-Repeat-Repeat-clause-stops t c =
    let s = c.args.self.now in let cs = s.setting.choices.now in let old = c.args.progress.now in let ps = c.args.focus.now.items in let who = focus_on ps in
    at_both (λ d q. IfErr c.repeat.result (λ f. Stops cs old (step_in s (step_of d) (Some (item_of q)) who) f)) c.args.step.now _ c.args.item.now _ c.in-Repeat-Repeat.is-0 c.in-Repeat-Repeat.is-1
    c.repeat.ensures.stops

pub with_item-returns-in-Gather-ForAny-clause-goes : goal.with_item-returns-in-Gather-ForAny-clause-goes
with_item-returns-in-Gather-ForAny-clause-goes t c =
    let s = c.args.self.now in let cs = s.setting.choices.now in let old = c.args.progress.now in let ps = c.args.focus.now.items in let who = focus_on ps in
    at_both (λ d q. OnOk c.choices.result (Goes cs old c.choices.new.progress (step_in s (step_of d) (Some (item_of q)) who))) c.args.step.now _ c.args.item.now _ c.in-Gather-ForAny.is-0 c.in-Gather-ForAny.is-1
    c.choices.ensures.goes

pub with_item-returns-in-Gather-ForAny-clause-stops : goal.with_item-returns-in-Gather-ForAny-clause-stops
with_item-returns-in-Gather-ForAny-clause-stops t c =
    let s = c.args.self.now in let cs = s.setting.choices.now in let old = c.args.progress.now in let ps = c.args.focus.now.items in let who = focus_on ps in
    at_both (λ d q. IfErr c.choices.result (λ f. Stops cs old (step_in s (step_of d) (Some (item_of q)) who) f)) c.args.step.now _ c.args.item.now _ c.in-Gather-ForAny.is-0 c.in-Gather-ForAny.is-1
    c.choices.ensures.stops

pub with_item-returns-then-holds-clause-goes : goal.with_item-returns-then-holds-clause-goes
with_item-returns-then-holds-clause-goes t c =
    let s = c.args.self.now in let cs = s.setting.choices.now in let old = c.args.progress.now in let ps = c.args.focus.now.items in let who = focus_on ps in
    let p = c.in-Branch-If.name in let e = expression_of c.in-Branch-If.e in let w = who c.in-Branch-If.owner in let mid = c.step.new.self in
    let yes : Unfolding → Unfolded = steps_in s c.in-Branch-If.first c.in-Branch-If.then who in let no : Unfolding → Unfolded = steps_in s c.in-Branch-If.second c.in-Branch-If.otherwise who in
    let act : Unfolding → Unfolded = step_in s (tree.Branch c.in-Branch-If.owner c.in-Branch-If.first c.in-Branch-If.second) (Some (item.If p e c.in-Branch-If.then c.in-Branch-If.otherwise)) who in
    let told_guard : (n : ℕ) → holds_at (given_in s.setting) (unfolding_of cs n old).run (who p) e ≡ c.guard-holds.result =
    λ n. sym (c.guard-holds.ensures ∙ ap (λ (xs : List Pid). is_true (value_of (size_in s.setting.sizes.now) (value_in old.run.store (focus_on xs p)) e)) c.deref.ensures.value) in
    let m : Marks old mid (moves w) = subst (λ (q : Pid). Marks old mid (moves q)) (c.process.ensures ∙ ap (λ (xs : List Pid). focus_on xs c.in-Branch-If.owner) c.deref-in-Branch-If.ensures.value) c.in_ok-step-in-Branch-If.ensures in
    let leads : Leads cs old mid act yes =
    leads_marks cs old old mid act yes (moves w) (λ n h. (n, h, ap (λ (z : Bool). if z then yes (moves w (unfolding_of cs n old)) else no (moves w (unfolding_of cs n old))) (told_guard n ∙ c.if-holds.true))) m in
    at_both (λ d q. OnOk c.steps.result (Goes cs old c.steps.new.progress (step_in s (step_of d) (Some (item_of q)) who))) c.args.step.now _ c.args.item.now _ c.in-Branch-If.is-0 c.in-Branch-If.is-1
    (on_ok c.steps.result _ _ (goes_last cs old mid c.steps.new.progress act yes leads) c.steps.ensures.goes)

pub with_item-returns-then-holds-clause-stops : goal.with_item-returns-then-holds-clause-stops
with_item-returns-then-holds-clause-stops t c =
    let s = c.args.self.now in let cs = s.setting.choices.now in let old = c.args.progress.now in let ps = c.args.focus.now.items in let who = focus_on ps in
    let p = c.in-Branch-If.name in let e = expression_of c.in-Branch-If.e in let w = who c.in-Branch-If.owner in let mid = c.step.new.self in
    let yes : Unfolding → Unfolded = steps_in s c.in-Branch-If.first c.in-Branch-If.then who in let no : Unfolding → Unfolded = steps_in s c.in-Branch-If.second c.in-Branch-If.otherwise who in
    let act : Unfolding → Unfolded = step_in s (tree.Branch c.in-Branch-If.owner c.in-Branch-If.first c.in-Branch-If.second) (Some (item.If p e c.in-Branch-If.then c.in-Branch-If.otherwise)) who in
    let told_guard : (n : ℕ) → holds_at (given_in s.setting) (unfolding_of cs n old).run (who p) e ≡ c.guard-holds.result =
    λ n. sym (c.guard-holds.ensures ∙ ap (λ (xs : List Pid). is_true (value_of (size_in s.setting.sizes.now) (value_in old.run.store (focus_on xs p)) e)) c.deref.ensures.value) in
    let m : Marks old mid (moves w) = subst (λ (q : Pid). Marks old mid (moves q)) (c.process.ensures ∙ ap (λ (xs : List Pid). focus_on xs c.in-Branch-If.owner) c.deref-in-Branch-If.ensures.value) c.in_ok-step-in-Branch-If.ensures in
    let leads : Leads cs old mid act yes =
    leads_marks cs old old mid act yes (moves w) (λ n h. (n, h, ap (λ (z : Bool). if z then yes (moves w (unfolding_of cs n old)) else no (moves w (unfolding_of cs n old))) (told_guard n ∙ c.if-holds.true))) m in
    at_both (λ d q. IfErr c.steps.result (λ f. Stops cs old (step_in s (step_of d) (Some (item_of q)) who) f)) c.args.step.now _ c.args.item.now _ c.in-Branch-If.is-0 c.in-Branch-If.is-1
    (if_err c.steps.result (λ f. Stops cs mid yes f) (λ f. Stops cs old act f) (λ f. stops_last cs old mid act yes f leads) c.steps.ensures.stops)

pub with_item-returns-else-holds-clause-goes : goal.with_item-returns-else-holds-clause-goes
with_item-returns-else-holds-clause-goes t c =
    let s = c.args.self.now in let cs = s.setting.choices.now in let old = c.args.progress.now in let ps = c.args.focus.now.items in let who = focus_on ps in
    let p = c.in-Branch-If.name in let e = expression_of c.in-Branch-If.e in let w = who c.in-Branch-If.owner in let mid = c.step.new.self in
    let yes : Unfolding → Unfolded = steps_in s c.in-Branch-If.first c.in-Branch-If.then who in let no : Unfolding → Unfolded = steps_in s c.in-Branch-If.second c.in-Branch-If.otherwise who in
    let act : Unfolding → Unfolded = step_in s (tree.Branch c.in-Branch-If.owner c.in-Branch-If.first c.in-Branch-If.second) (Some (item.If p e c.in-Branch-If.then c.in-Branch-If.otherwise)) who in
    let told_guard : (n : ℕ) → holds_at (given_in s.setting) (unfolding_of cs n old).run (who p) e ≡ c.guard-holds.result =
    λ n. sym (c.guard-holds.ensures ∙ ap (λ (xs : List Pid). is_true (value_of (size_in s.setting.sizes.now) (value_in old.run.store (focus_on xs p)) e)) c.deref.ensures.value) in
    let m : Marks old mid (moves w) = subst (λ (q : Pid). Marks old mid (moves q)) (c.process.ensures ∙ ap (λ (xs : List Pid). focus_on xs c.in-Branch-If.owner) c.deref-in-Branch-If.ensures.value) c.in_ok-step-in-Branch-If.ensures in
    let leads : Leads cs old mid act no =
    leads_marks cs old old mid act no (moves w) (λ n h. (n, h, ap (λ (z : Bool). if z then yes (moves w (unfolding_of cs n old)) else no (moves w (unfolding_of cs n old))) (told_guard n ∙ c.if-holds.false))) m in
    at_both (λ d q. OnOk c.steps-else-holds.result (Goes cs old c.steps-else-holds.new.progress (step_in s (step_of d) (Some (item_of q)) who))) c.args.step.now _ c.args.item.now _ c.in-Branch-If.is-0 c.in-Branch-If.is-1
    (on_ok c.steps-else-holds.result _ _ (goes_last cs old mid c.steps-else-holds.new.progress act no leads) c.steps-else-holds.ensures.goes)

pub with_item-returns-else-holds-clause-stops : goal.with_item-returns-else-holds-clause-stops
with_item-returns-else-holds-clause-stops t c =
    let s = c.args.self.now in let cs = s.setting.choices.now in let old = c.args.progress.now in let ps = c.args.focus.now.items in let who = focus_on ps in
    let p = c.in-Branch-If.name in let e = expression_of c.in-Branch-If.e in let w = who c.in-Branch-If.owner in let mid = c.step.new.self in
    let yes : Unfolding → Unfolded = steps_in s c.in-Branch-If.first c.in-Branch-If.then who in let no : Unfolding → Unfolded = steps_in s c.in-Branch-If.second c.in-Branch-If.otherwise who in
    let act : Unfolding → Unfolded = step_in s (tree.Branch c.in-Branch-If.owner c.in-Branch-If.first c.in-Branch-If.second) (Some (item.If p e c.in-Branch-If.then c.in-Branch-If.otherwise)) who in
    let told_guard : (n : ℕ) → holds_at (given_in s.setting) (unfolding_of cs n old).run (who p) e ≡ c.guard-holds.result =
    λ n. sym (c.guard-holds.ensures ∙ ap (λ (xs : List Pid). is_true (value_of (size_in s.setting.sizes.now) (value_in old.run.store (focus_on xs p)) e)) c.deref.ensures.value) in
    let m : Marks old mid (moves w) = subst (λ (q : Pid). Marks old mid (moves q)) (c.process.ensures ∙ ap (λ (xs : List Pid). focus_on xs c.in-Branch-If.owner) c.deref-in-Branch-If.ensures.value) c.in_ok-step-in-Branch-If.ensures in
    let leads : Leads cs old mid act no =
    leads_marks cs old old mid act no (moves w) (λ n h. (n, h, ap (λ (z : Bool). if z then yes (moves w (unfolding_of cs n old)) else no (moves w (unfolding_of cs n old))) (told_guard n ∙ c.if-holds.false))) m in
    at_both (λ d q. IfErr c.steps-else-holds.result (λ f. Stops cs old (step_in s (step_of d) (Some (item_of q)) who) f)) c.args.step.now _ c.args.item.now _ c.in-Branch-If.is-0 c.in-Branch-If.is-1
    (if_err c.steps-else-holds.result (λ f. Stops cs mid no f) (λ f. Stops cs old act f) (λ f. stops_last cs old mid act no f leads) c.steps-else-holds.ensures.stops)

pub with_item-returns-in_err-member-in-Pick-Pick-clause-stops : goal.with_item-returns-in_err-member-in-Pick-Pick-clause-stops
with_item-returns-in_err-member-in-Pick-Pick-clause-stops t c =
    let s = c.args.self.now in let cs = s.setting.choices.now in let old = c.args.progress.now in let ps = c.args.focus.now.items in let who = focus_on ps in
    let set = c.in-Pick-Pick.set in let a = c.in-Pick-Pick.premise in let b = c.in-Pick-Pick.body in let w = who c.in-Pick-Pick.owner in let size = c.size_of_set-size.result in
    let go : ℕ → Unfolding → Unfolded = λ j v. steps_in s a b (in_focus set j who) (carries w (member set j) v) in let none : seq.Marks [] [] = λ k. refl in
    let f = c.in_err-member-in-Pick-Pick.field-0.0 in
    told cs old (step_in s (step_of c.args.step.now) (Some (item_of c.args.item.now)) who) c.from_residual-in_err-member-in-Pick-Pick.result f c.from_residual-in_err-member-in-Pick-Pick.ensures.1
    (at_both (λ d q. Stops cs old (step_in s (step_of d) (Some (item_of q)) who) f) c.args.step.now _ c.args.item.now _ c.in-Pick-Pick.is-0 c.in-Pick-Pick.is-1
    (subst (λ m. Stops cs old (λ u. chooses m [] u.run.choices u go) f) c.size_of_set-size.ensures (choice_stops cs old size [] go f (λ g. c.in_err-member-in-Pick-Pick.ensures.stops [] g none))))

pub with_item-returns-in_ok-member-in-Pick-Pick-clause-goes : goal.with_item-returns-in_ok-member-in-Pick-Pick-clause-goes
with_item-returns-in_ok-member-in-Pick-Pick-clause-goes t c =
    let s = c.args.self.now in let cs = s.setting.choices.now in let old = c.args.progress.now in let ps = c.args.focus.now.items in let who = focus_on ps in
    let set = c.in-Pick-Pick.set in let a = c.in-Pick-Pick.premise in let b = c.in-Pick-Pick.body in let w = who c.in-Pick-Pick.owner in let size = c.size_of_set-size.result in
    let go : ℕ → Unfolding → Unfolded = λ j v. steps_in s a b (in_focus set j who) (carries w (member set j) v) in let none : seq.Marks [] [] = λ k. refl in
    let k = c.in_ok-member-in-Pick-Pick.member in let ran : Progress = record old { run = c.choose.new.run } in let act : Unfolding → Unfolded = λ u. chooses size [] u.run.choices u go in
    let leads : Leads cs old ran act (go k) = choice_leads cs old size [] c.choose.new.run k go (λ g. c.in_ok-member-in-Pick-Pick.ensures.goes [] g none) in
    at_both (λ d q. OnOk c.from_member.result (Goes cs old c.from_member.new.progress (step_in s (step_of d) (Some (item_of q)) who))) c.args.step.now _ c.args.item.now _ c.in-Pick-Pick.is-0 c.in-Pick-Pick.is-1
    (subst (λ m. OnOk c.from_member.result (Goes cs old c.from_member.new.progress (λ u. chooses m [] u.run.choices u go))) c.size_of_set-size.ensures
    (on_ok c.from_member.result _ _ (goes_last cs old ran c.from_member.new.progress act (go k) leads) c.from_member.ensures.goes))

pub with_item-returns-in_ok-member-in-Pick-Pick-clause-stops : goal.with_item-returns-in_ok-member-in-Pick-Pick-clause-stops
with_item-returns-in_ok-member-in-Pick-Pick-clause-stops t c =
    let s = c.args.self.now in let cs = s.setting.choices.now in let old = c.args.progress.now in let ps = c.args.focus.now.items in let who = focus_on ps in
    let set = c.in-Pick-Pick.set in let a = c.in-Pick-Pick.premise in let b = c.in-Pick-Pick.body in let w = who c.in-Pick-Pick.owner in let size = c.size_of_set-size.result in
    let go : ℕ → Unfolding → Unfolded = λ j v. steps_in s a b (in_focus set j who) (carries w (member set j) v) in let none : seq.Marks [] [] = λ k. refl in
    let k = c.in_ok-member-in-Pick-Pick.member in let ran : Progress = record old { run = c.choose.new.run } in let act : Unfolding → Unfolded = λ u. chooses size [] u.run.choices u go in
    let leads : Leads cs old ran act (go k) = choice_leads cs old size [] c.choose.new.run k go (λ g. c.in_ok-member-in-Pick-Pick.ensures.goes [] g none) in
    at_both (λ d q. IfErr c.from_member.result (λ f. Stops cs old (step_in s (step_of d) (Some (item_of q)) who) f)) c.args.step.now _ c.args.item.now _ c.in-Pick-Pick.is-0 c.in-Pick-Pick.is-1
    (subst (λ m. IfErr c.from_member.result (λ f. Stops cs old (λ u. chooses m [] u.run.choices u go) f)) c.size_of_set-size.ensures
    (if_err c.from_member.result (λ f. Stops cs ran (go k) f) (λ f. Stops cs old act f) (λ f. stops_last cs old ran act (go k) f leads) c.from_member.ensures.stops))

pub steps-returns-in_err-step-clause-stops : goal.steps-returns-in_err-step-clause-stops
steps-returns-in_err-step-clause-stops t c =
    let s = c.args.self.now in let cs = s.setting.choices.now in let old = c.args.progress.now in let ps = c.args.focus.now.items in let who = focus_on ps in
    let given = given_in s.setting in let loose = is_loose s.channels.now in
    let ss = c.deref-step-items.result.now in let i = c.loop-step.step-index in let d = c.step-item.result in let now = c.loop-step.progress in let rest = c.loop-step.rest.now in
    let o : Option Item = option_map (λ q. item_of q.now) c.item_for.result in let same = c.loop-step.invariant.focus in let leads = c.loop-step.invariant.leads in
    let f = c.in_err-step.field-0.0 in
    told cs old (steps_in s c.args.steps.now c.args.body.now who) c.from_residual.result f c.from_residual.ensures.1
    (steps_stop cs given loose who old now c.args.steps.now c.args.body.now ss i d rest (omega arith) c.step-item.is o c.item_for.ensures leads f
    (subst (λ (xs : List Pid). Stops cs now (step_in s (step_of d) o (focus_on xs)) f) same c.in_err-step.ensures.stops))

pub steps-loop-step-preserved : goal.steps-loop-step-preserved
steps-loop-step-preserved t c =
    let s = c.args.self.now in let cs = s.setting.choices.now in let old = c.args.progress.now in let ps = c.args.focus.now.items in let who = focus_on ps in
    let given = given_in s.setting in let loose = is_loose s.channels.now in
    let ss = c.deref-step-items.result.now in let i = c.loop-step.step-index in let d = c.step-item.result in let now = c.loop-step.progress in let rest = c.loop-step.rest.now in
    let o : Option Item = option_map (λ q. item_of q.now) c.item_for.result in let same = c.loop-step.invariant.focus in let leads = c.loop-step.invariant.leads in
    record {
      leads = steps_go cs given loose who old now c.args.steps.now c.args.body.now ss i d rest (omega arith) c.step-item.is o c.item_for.ensures leads c.step.new.progress c.items_after-rest.result.now c.items_after-rest.ensures
          (subst (λ (xs : List Pid). Goes cs now c.step.new.progress (step_in s (step_of d) o (focus_on xs))) same c.in_ok-step.ensures.goes);
      focus = c.in_ok-step.ensures.focus ∙ same;
    }

pub turns-returns-then-not-guard-clause-goes : goal.turns-returns-then-not-guard-clause-goes
turns-returns-then-not-guard-clause-goes t c =
    let s = c.args.self.now in let cs = s.setting.choices.now in let old = c.args.progress.now in let ps = c.args.focus.now.items in let who = focus_on ps in
    let k = c.loop-turn._turn in let now = c.loop-turn.progress in let same = c.loop-turn.invariant.focus in let leads = c.loop-turn.invariant.leads in
    let a = c.args.premise.now in let b = c.args.body.now in let size = old.run.turns in let p = c.args.name.now in let e = expression_of c.args.e.now in
    let guard : Unfolding → Bool = λ v. holds_at (given_in s.setting) v.run (who p) e in let move : Unfolding → Unfolding = moves (who c.args.owner.now) in let act : Unfolding → Unfolded = steps_in s a b who in
    let told_guard : (n : ℕ) → guard (unfolding_of cs n now) ≡ c.guard.result =
    λ n. sym (c.guard.ensures ∙ ap (λ (xs : List Pid). is_true (value_of (size_in s.setting.sizes.now) (value_in now.run.store (focus_on xs p)) e)) (c.deref.ensures.value ∙ same)) in
    let mid = c.step.new.self in let before : Progress = now in
    let m : Marks before mid move = subst (λ (q : Pid). Marks before mid (moves q)) (c.process.ensures ∙ ap (λ (xs : List Pid). focus_on xs c.args.owner.now) (c.deref-then-not-guard.ensures.value ∙ same)) c.in_ok-step.ensures in
    while_ends cs old now size k guard move act leads mid (λ n. told_guard n ∙ c.if-not-guard.true) m

pub turns-returns-then-progress-eq0-clause-stops : goal.turns-returns-then-progress-eq0-clause-stops
turns-returns-then-progress-eq0-clause-stops t c =
    let s = c.args.self.now in let cs = s.setting.choices.now in let old = c.args.progress.now in let ps = c.args.focus.now.items in let who = focus_on ps in
    let k = c.loop-turn._turn in let now = c.loop-turn.progress in let same = c.loop-turn.invariant.focus in let leads = c.loop-turn.invariant.leads in
    let a = c.args.premise.now in let b = c.args.body.now in let size = old.run.turns in let p = c.args.name.now in let e = expression_of c.args.e.now in
    let guard : Unfolding → Bool = λ v. holds_at (given_in s.setting) v.run (who p) e in let move : Unfolding → Unfolding = moves (who c.args.owner.now) in let act : Unfolding → Unfolded = steps_in s a b who in
    let told_guard : (n : ℕ) → guard (unfolding_of cs n now) ≡ c.guard.result =
    λ n. sym (c.guard.ensures ∙ ap (λ (xs : List Pid). is_true (value_of (size_in s.setting.sizes.now) (value_in now.run.store (focus_on xs p)) e)) (c.deref.ensures.value ∙ same)) in
    while_stops cs old now size k guard move act leads (λ n. told_guard n ∙ c.if-not-guard.false) c.if-progress-eq0.true

pub turns-returns-in_err-steps-clause-stops : goal.turns-returns-in_err-steps-clause-stops
turns-returns-in_err-steps-clause-stops t c =
    let s = c.args.self.now in let cs = s.setting.choices.now in let old = c.args.progress.now in let ps = c.args.focus.now.items in let who = focus_on ps in
    let k = c.loop-turn._turn in let now = c.loop-turn.progress in let same = c.loop-turn.invariant.focus in let leads = c.loop-turn.invariant.leads in
    let a = c.args.premise.now in let b = c.args.body.now in let size = old.run.turns in let p = c.args.name.now in let e = expression_of c.args.e.now in
    let guard : Unfolding → Bool = λ v. holds_at (given_in s.setting) v.run (who p) e in let move : Unfolding → Unfolding = moves (who c.args.owner.now) in let act : Unfolding → Unfolded = steps_in s a b who in
    let told_guard : (n : ℕ) → guard (unfolding_of cs n now) ≡ c.guard.result =
    λ n. sym (c.guard.ensures ∙ ap (λ (xs : List Pid). is_true (value_of (size_in s.setting.sizes.now) (value_in now.run.store (focus_on xs p)) e)) (c.deref.ensures.value ∙ same)) in
    let mid = c.step-in-loop-turn.new.self in let before : Progress = record now { run = record now.run { turns = now.run.turns - 1 } } in
    let m : Marks before mid move = subst (λ (q : Pid). Marks before mid (moves q)) (c.process-in-loop-turn.ensures ∙ ap (λ (xs : List Pid). focus_on xs c.args.owner.now) (c.deref-in-loop-turn.ensures.value ∙ same)) c.in_ok-step-2.ensures in
    let f = c.in_err-steps.field-0.0 in
    told cs old (turns_while size guard move act) c.from_residual-in_err-steps.result f c.from_residual-in_err-steps.ensures.1
    (while_turn_stops cs old now size k guard move act leads (now.run.turns - 1) (omega arith) (λ n. told_guard n ∙ c.if-not-guard.false) (omega arith) mid m f
    (subst (λ (xs : List Pid). Stops cs mid (steps_in s a b (focus_on xs)) f) same c.in_err-steps.ensures.stops))

pub turns-loop-turn-preserved : goal.turns-loop-turn-preserved
turns-loop-turn-preserved t c =
    let s = c.args.self.now in let cs = s.setting.choices.now in let old = c.args.progress.now in let ps = c.args.focus.now.items in let who = focus_on ps in
    let k = c.loop-turn._turn in let now = c.loop-turn.progress in let same = c.loop-turn.invariant.focus in let leads = c.loop-turn.invariant.leads in
    let a = c.args.premise.now in let b = c.args.body.now in let size = old.run.turns in let p = c.args.name.now in let e = expression_of c.args.e.now in
    let guard : Unfolding → Bool = λ v. holds_at (given_in s.setting) v.run (who p) e in let move : Unfolding → Unfolding = moves (who c.args.owner.now) in let act : Unfolding → Unfolded = steps_in s a b who in
    let told_guard : (n : ℕ) → guard (unfolding_of cs n now) ≡ c.guard.result =
    λ n. sym (c.guard.ensures ∙ ap (λ (xs : List Pid). is_true (value_of (size_in s.setting.sizes.now) (value_in now.run.store (focus_on xs p)) e)) (c.deref.ensures.value ∙ same)) in
    let mid = c.step-in-loop-turn.new.self in let before : Progress = record now { run = record now.run { turns = now.run.turns - 1 } } in
    let m : Marks before mid move = subst (λ (q : Pid). Marks before mid (moves q)) (c.process-in-loop-turn.ensures ∙ ap (λ (xs : List Pid). focus_on xs c.args.owner.now) (c.deref-in-loop-turn.ensures.value ∙ same)) c.in_ok-step-2.ensures in
    record {
      leads = while_goes cs old now size k guard move act leads (now.run.turns - 1) (omega arith) (λ n. told_guard n ∙ c.if-not-guard.false) (omega arith) mid c.steps.new.progress m
          (subst (λ (xs : List Pid). Goes cs mid c.steps.new.progress (steps_in s a b (focus_on xs))) same c.in_ok-steps.ensures.goes);
      focus = c.in_ok-steps.ensures.focus ∙ same;
    }

pub turns-returns-then-guard-clause-stops : goal.turns-returns-then-guard-clause-stops
turns-returns-then-guard-clause-stops t c =
    let s = c.args.self.now in let cs = s.setting.choices.now in let old = c.args.progress.now in let ps = c.args.focus.now.items in let who = focus_on ps in
    let k = c.loop-turn._turn in let now = c.loop-turn.progress in let same = c.loop-turn.invariant.focus in let leads = c.loop-turn.invariant.leads in
    let a = c.args.premise.now in let b = c.args.body.now in let size = old.run.turns in let p = c.args.name.now in let e = expression_of c.args.e.now in
    let guard : Unfolding → Bool = λ v. holds_at (given_in s.setting) v.run (who p) e in let move : Unfolding → Unfolding = moves (who c.args.owner.now) in let act : Unfolding → Unfolded = steps_in s a b who in
    let told_guard : (n : ℕ) → guard (unfolding_of cs n now) ≡ c.guard-2.result =
    λ n. sym (c.guard-2.ensures ∙ ap (λ (xs : List Pid). is_true (value_of (size_in s.setting.sizes.now) (value_in now.run.store (focus_on xs p)) e)) (c.deref-2.ensures.value ∙ same)) in
    while_spent cs old now size k guard move act leads (λ n. told_guard n ∙ c.if-guard.true) (omega arith)

pub turns-returns-clause-goes : goal.turns-returns-clause-goes
turns-returns-clause-goes t c =
    let s = c.args.self.now in let cs = s.setting.choices.now in let old = c.args.progress.now in let ps = c.args.focus.now.items in let who = focus_on ps in
    let k = c.loop-turn._turn in let now = c.loop-turn.progress in let same = c.loop-turn.invariant.focus in let leads = c.loop-turn.invariant.leads in
    let a = c.args.premise.now in let b = c.args.body.now in let size = old.run.turns in let p = c.args.name.now in let e = expression_of c.args.e.now in
    let guard : Unfolding → Bool = λ v. holds_at (given_in s.setting) v.run (who p) e in let move : Unfolding → Unfolding = moves (who c.args.owner.now) in let act : Unfolding → Unfolded = steps_in s a b who in
    let told_guard : (n : ℕ) → guard (unfolding_of cs n now) ≡ c.guard-2.result =
    λ n. sym (c.guard-2.ensures ∙ ap (λ (xs : List Pid). is_true (value_of (size_in s.setting.sizes.now) (value_in now.run.store (focus_on xs p)) e)) (c.deref-2.ensures.value ∙ same)) in
    let mid = c.step-2.new.self in let before : Progress = now in
    let m : Marks before mid move = subst (λ (q : Pid). Marks before mid (moves q)) (c.process-2.ensures ∙ ap (λ (xs : List Pid). focus_on xs c.args.owner.now) (c.deref-3.ensures.value ∙ same)) c.in_ok-step-3.ensures in
    while_ends cs old now size k guard move act leads mid (λ n. told_guard n ∙ c.if-guard.false) m

pub with_member-returns-in_err-steps-clause-stops : goal.with_member-returns-in_err-steps-clause-stops
with_member-returns-in_err-steps-clause-stops t c =
    let s = c.args.self.now in let cs = s.setting.choices.now in let old = c.args.progress.now in let ps = c.args.focus.now.items in let who = focus_on ps in
    let a = c.args.premise.now in let b = c.args.body.now in
    let f = c.in_err-steps.field-0.0 in
    told cs old (steps_in s a b (in_focus c.args.member.now.role c.args.member.now.member who)) c.from_residual-in_err-steps.result f c.from_residual-in_err-steps.ensures.1
    (subst (λ (w : Focus). Stops cs old (steps_in s a b w) f) (ap focus_on c.in_ok-push.ensures.items ∙ focus_more ps c.args.member.now.role c.args.member.now.member) c.in_err-steps.ensures.stops)

pub with_member-returns-clause-goes : goal.with_member-returns-clause-goes
with_member-returns-clause-goes t c =
    let s = c.args.self.now in let cs = s.setting.choices.now in let old = c.args.progress.now in let ps = c.args.focus.now.items in let who = focus_on ps in
    let a = c.args.premise.now in let b = c.args.body.now in
    subst (λ (w : Focus). Goes cs old c.steps.new.progress (steps_in s a b w)) (ap focus_on c.in_ok-push.ensures.items ∙ focus_more ps c.args.member.now.role c.args.member.now.member) c.in_ok-steps.ensures.goes
