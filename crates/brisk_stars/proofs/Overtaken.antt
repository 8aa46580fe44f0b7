-- What is left over at a gather overtakes in the plain run at size two.
use Rattle.std.proofs.Common.{◌≡◌, ◌≢◌, ℕ, suc, ◌+◌, ◌≤◌, Bool, true, false, List, [], ◌∷◌, ◌++◌, Some, None, refl, sym, ap, ◌∙◌, subst, arith, nat_eq}
use Rattle.std.specs.Prelude.{◌&&◌, not, if◌then◌else◌, nat_lt, ◌-◌}
use Rattle.std.proofs.lemmas.Bool.{eqb-true, not-true}
use Rattle.std.proofs.lemmas.List.{append_assoc, append-nil}
use Rattle.brisk_values.specs.declared.value.Pid.{Pid}
use Rattle.brisk_values.specs.Names.{Name, same_name, single}
use Rattle.brisk_values.proofs.Changes.{both_true, both_hold, exact_name}
use Rattle.brisk_syntax.specs.declared.program.Program.{Program}
use Rattle.brisk_syntax.specs.Classes.{every, in_centre, is_local, all_local, is_named, talks_to}
use Rattle.brisk_syntax.specs.Declarations.{code_in}
use Rattle.brisk_syntax.specs.Instance.{with_member}
use Rattle.brisk_syntax.specs.Roles.{RoleText}
use Rattle.brisk_syntax.specs.Syntax.{Statement, Assign, RecvAny, If, IfElse, For, Repeat, Code, done, ◌⨾◌, ◌then◌}
use Rattle.brisk_syntax.specs.WellTyped.{all_unbegun, is_unbegun}
use Rattle.brisk_async.specs.declared.event.Event.{Event}
use Rattle.brisk_async.specs.PlainRuns.{Gather, at_turn, plain_instance}
use Rattle.brisk_stars.specs.Overtaking.{IsLeftOver, LeftOverOvertakes, turn_words}
use Rattle.brisk_stars.specs.Runs.{IsStarState, members_in}
use Rattle.brisk_stars.specs.Serving.{Served, Word, messages, serve}
use Rattle.brisk_stars.specs.Sources.{IsCentre, IsStarSource, PlainRunOvertakes, plain_start}
use Rattle.brisk_stars.specs.Words.{in_turns, runs_as_centre, serves, words, words_to}
use Rattle.brisk_stars.proofs.Advances.{fors, locals, same_code, same_words}
use Rattle.brisk_stars.proofs.Doubled as doubled
use Rattle.brisk_stars.proofs.Doubled.{left_over_at_two}
use Rattle.brisk_stars.proofs.Gathering.{gathers, leaves_over}
use Rattle.brisk_stars.proofs.Running.{local_says}
use Rattle.brisk_stars.proofs.SizeTwo.{none_else_at_two, room_at_two, two_at_most}
use Rattle.brisk_stars.proofs.Stages as stages
use Rattle.brisk_stars.proofs.Stages.{Free, from_start}
use Rattle.brisk_stars.proofs.Starting.{found, stars_start}

-- what it takes of a set that a loop of the centre goes over
pub record IsServed (sizes : Name → ℕ) (M v s : Name) (b : Code) : Type 0 where
  pub other : same_name M s ≡ false
  pub some : nat_lt 0 (sizes s) ≡ true
  pub talks : every (talks_to (is_named v)) b ≡ true

is_served : (sizes : Name → ℕ) (M v s : Name) (b : Code) → serves sizes M v s b ≡ true → IsServed sizes M v s b
is_served sizes M v s b h =
    let k = both_true (not (same_name M s)) (nat_lt 0 (sizes s) && every (talks_to (is_named v)) b) h in
    let l = both_true (nat_lt 0 (sizes s)) (every (talks_to (is_named v)) b) k.1 in
    record { other = not-true (same_name M s) k.0; some = l.0; talks = l.1 }

-- behind a source's statement the centre's code runs on
runs_on : (sizes : Name → ℕ) (M : Name) (x : Statement) (c : Code) → in_centre x ≡ true → runs_as_centre sizes M (x ⨾ c) ≡ true → runs_as_centre sizes M c ≡ true
runs_on sizes M (Assign y e) c f h = h
runs_on sizes M (If e a) c f h = (both_true (all_local a) (runs_as_centre sizes M c) h).1
runs_on sizes M (IfElse e a b) c f h = (both_true (all_local a && all_local b) (runs_as_centre sizes M c) h).1
runs_on sizes M (For v s k b) c f h = (both_true (serves sizes M v s b) (runs_as_centre sizes M c) h).1
runs_on sizes M (Repeat s k (RecvAny d xs v t b ⨾ done)) c f h = (both_true (same_name s t && serves sizes M v s b) (runs_as_centre sizes M c) h).1
runs_on sizes M x c f h = cc

runs_behind : (sizes : Name → ℕ) (M : Name) (a c : Code) → every in_centre a ≡ true → runs_as_centre sizes M (a then c) ≡ true → runs_as_centre sizes M c ≡ true
runs_behind sizes M done c f h = h
runs_behind sizes M (x ⨾ a) c f h =
    let k = both_true (in_centre x) (every in_centre a) f in runs_behind sizes M a c k.1 (runs_on sizes M x (a then c) k.0 h)

module _ (P : Program) (r : RoleText) (source : IsStarSource P) (centre : IsCentre P r) (V : Served) (said : V.left ≡ []) where
  abbrev M : Name
  M = r.name

  abbrev sizes : Name → ℕ
  sizes = (plain_start P 2).sizes

  abbrev Leads : (List Event → Type 0) → Code → List Word → Type 0
  Leads = stages.Leads P r source centre V

  -- the centre goes through its source, up to code behind it
  goes_through : (c rest : Code) (W : List Word) → every in_centre c ≡ true → all_unbegun c ≡ true → runs_as_centre sizes M (c then rest) ≡ true → Leads Free rest W → Leads Free (c then rest) (words sizes c ++ W)
  goes_through done rest W f u h more = more
  goes_through (x ⨾ c) rest W f u h more =
      let k = both_true (in_centre x) (every in_centre c) f in
      let l = both_true (is_unbegun x) (all_unbegun c) u in
      one x k.0 l.0 h (goes_through c rest W k.1 l.1 (runs_on sizes M x (c then rest) k.0 h) more)
    where
      on : Code
      on = c then rest

      later : List Word
      later = words sizes c ++ W

      as_local : (x : Statement) → is_local x ≡ true → Leads Free on later → Leads Free (x ⨾ on) (words sizes (x ⨾ c) ++ W)
      as_local x l go =
          same_words P r source centre V said Free (x ⨾ on) (words sizes (x ⨾ c) ++ W) later (ap (λ ws. ws ++ W) (local_says sizes x c l))
          (locals P r source centre V said Free (x ⨾ done) on later (both_hold (is_local x) true l refl) (λ y past e q h. tt) go)

      one : (x : Statement) → in_centre x ≡ true → is_unbegun x ≡ true → runs_as_centre sizes M (x ⨾ on) ≡ true → Leads Free on later → Leads Free (x ⨾ on) (words sizes (x ⨾ c) ++ W)
      one (Assign y e) f u h go = as_local (Assign y e) f go
      one (If e a) f u h go = as_local (If e a) f go
      one (IfElse e a b) f u h go = as_local (IfElse e a b) f go
      one (For v s k b) f u h go =
          let y = is_served sizes M v s b (both_true (serves sizes M v s b) (runs_as_centre sizes M on) h).0 in
          same_words P r source centre V said Free (For v s k b ⨾ on) (words sizes (For v s k b ⨾ c) ++ W) (in_turns s (sizes s - k) k (λ w. words_to w (messages b)) ++ later)
          (append_assoc (in_turns s (sizes s - k) k (λ w. words_to w (messages b))) (words sizes c) W)
          (fors P r source centre V said v s b on later y.other y.talks go 2 k (let t = two_at_most P s in omega (arith, t)))
      one (Repeat s k (RecvAny d xs v t b ⨾ done)) f u h go =
          let z = both_true (same_name s t && serves sizes M v s b) (runs_as_centre sizes M on) h in
          let same = both_true (same_name s t) (serves sizes M v s b) z.0 in
          let y = is_served sizes M v s b same.1 in
          let g : Gather = record { channel = d; variables = xs; binder = v; set = s; body = b; rest = on } in
          let first : k ≡ 0 = eqb-true k 0 (both_true (nat_eq k 0) (all_unbegun (RecvAny d xs v t b ⨾ done)) u).0 in
          same_code P r source centre V said Free (Repeat s k (RecvAny d xs v t b ⨾ done) ⨾ on) (at_turn g 0) (words sizes (Repeat s k (RecvAny d xs v t b ⨾ done) ⨾ c) ++ W)
          (λ i. Repeat s (first i) (RecvAny d xs v (sym (exact_name s t same.0) i) b ⨾ done) ⨾ on)
          (same_words P r source centre V said Free (at_turn g 0) (words sizes (Repeat s k (RecvAny d xs v t b ⨾ done) ⨾ c) ++ W) (in_turns s (sizes s - 0) 0 (turn_words g) ++ later)
          (ap (λ j. (in_turns s (sizes s - j) j (turn_words g) ++ words sizes c) ++ W) first ∙ append_assoc (in_turns s (sizes s - 0) 0 (turn_words g)) (words sizes c) W)
          (gathers P r source centre V said g y.other y.talks y.some later go))
      one x f u h go = cc

pub left_over_overtakes : LeftOverOvertakes
left_over_overtakes P r source centre l =
    from_start P r source centre V 100000 (l.before then at_turn g 0) (words sizes l.before ++ (turn_words g (single g.set) ++ [])) refl (room_at_two P r source centre) star (none_else_at_two P r source centre) code
    (ap (λ ws. serve (words sizes l.before ++ ws) (members_in r.name (plain_start P 2))) (append-nil (turn_words g (single g.set))))
    (goes_through P r source centre V said l.before (at_turn g 0) (turn_words g (single g.set) ++ []) fits (doubled.unbegun P r source centre l) runs
    (leaves_over P r source centre V said g y.other y.talks y.some two.1))
  where
    g : Gather
    g = l.gather

    sizes : Name → ℕ
    sizes = (plain_start P 2).sizes

    V : Served
    V = serve (words sizes l.before ++ turn_words g (single g.set)) (members_in r.name (plain_start P 2))

    two : (V.left ≡ []) × ((V.members (single g.set)).up g.channel ≢ 0)
    two = left_over_at_two P r source centre l

    said : V.left ≡ []
    said = two.0

    star : IsStarState r.name (plain_start P 2)
    star = stars_start P r 2 (omega arith) source centre

    fits : every in_centre l.before ≡ true
    fits = doubled.fits P r source centre l

    code : (plain_start P 2).code (single r.name) ≡ l.before then at_turn g 0
    code =
        let f = found P r 1 (omega arith) source centre in
        ap (λ o. code_in (with_member (plain_instance P 2) 0 o)) f.0 ∙ ap (λ b. code_in (if nat_lt 0 (if b then 2 else 1) then Some r else None)) f.1 ∙ l.parts

    runs : runs_as_centre sizes r.name (l.before then at_turn g 0) ≡ true
    runs = ap (runs_as_centre sizes r.name) (sym code) ∙ star.centre

    y : IsServed sizes r.name g.binder g.set g.body
    y =
        let on = runs_behind sizes r.name l.before (at_turn g 0) fits runs in
        let z = both_true (same_name g.set g.set && serves sizes r.name g.binder g.set g.body) (runs_as_centre sizes r.name g.rest) on in
        is_served sizes r.name g.binder g.set g.body (both_true (same_name g.set g.set) (serves sizes r.name g.binder g.set g.body) z.0).1
