-- A gather whose served members are quiet is sound.
use Rattle.std.proofs.Common.{◌≡◌, ℕ, Bool, true, false, List, [], map, length, Option, Some, None, refl, sym, ap, ◌∙◌, subst, arith, nat_eq}
use Rattle.std.specs.Prelude.{if◌then◌else◌, ◌&&◌, nat_lt, ◌||◌, option_map, option_and_then}
use Rattle.brisk_values.specs.declared.value.Pid.{Pid}
use Rattle.brisk_values.specs.Functions.{changed}
use Rattle.brisk_values.specs.Names.{Name, same_name, same_process, member}
use Rattle.brisk_values.proofs.Changes.{name_laws, process_laws, changed-other, changed-same}
use Rattle.brisk_syntax.specs.declared.tree.Who.{Who}
use Rattle.brisk_syntax.specs.declared.tree.Who.TheVariants as who
use Rattle.brisk_syntax.specs.Substitution.{code_with}
use Rattle.brisk_syntax.specs.Syntax.{Code, done, ◌⨾◌, ◌then◌}
use Rattle.brisk_seq.specs.Sequential.{Focus}
use Rattle.brisk_async.specs.declared.event.Event.{Event}
use Rattle.brisk_async.specs.Laws.{AnyReceive, any_code, count, from_any}
use Rattle.brisk_async.specs.Machine.{State, View, Queue, queue, payload_at, place_of, takes, receives, is_member, effect, seen_by, after, run, step}
use Rattle.brisk_async.proofs.Named.{same_run}
use Rattle.brisk_async.proofs.Senders.{kept_before}
use Rattle.brisk_quiet.specs.Quiet.{Counts}
use Rattle.brisk_state.specs.declared.thread.Mode.{Mode}
use Rattle.brisk_state.specs.Symbolic.{key}
use Rattle.brisk_sound.specs.Does as seq
use Rattle.brisk_sound.specs.Does.{Does}
use Rattle.brisk_sound.proofs.Basic.{partner_is}
use Rattle.brisk_sound.proofs.Fits.{World, Conf, live, Picks, active_live}
use Rattle.brisk_sound.proofs.Gather.{Gathers, Gathered, gather_start, within_gather, Quiet, gather_there, gather_back}
use Rattle.brisk_sound.proofs.For.{inside_by}
use Rattle.brisk_sound.proofs.Leads.{state}
use Rattle.brisk_sound.proofs.Member.{not_a_set, stands}
use Rattle.brisk_sound.proofs.Middle.{Served, served, Mid, set_at}
use Rattle.brisk_sound.proofs.Basic.{none_left, same_length}
use Rattle.brisk_rules.proofs.Readings.{Reading, is_active, is_each, stands_by, code_by, who_by}
use Rattle.brisk_sound.proofs.Resting.{heard, Resting, rest_kept}
use Rattle.brisk_sound.proofs.Sound.{Typing, Sound}
use Rattle.brisk_sound.proofs.Walks.{whomever, walk_by, Calm, calm_le, Keeps, walk_by_le}
use Rattle.brisk_syntax.proofs.Codes.{then-done}

-- the last two tests of a gather's close
pub record IsQuiet (S : Reading) (t : Name) (a : AnyReceive) (E : Reading) : Type 0 where
  pub no_mail : E.pending (key a.set t a.channel) ≡ []
  pub calm : Calm (walk_by (whomever (stands_by (S.mode t) t)) a.channel (E.code a.set) (λ D. length (E.pending (key t a.set D))))

pub keeps_by : (mode : Name → Option Mode) (φ : Focus) (t : Name) (w : Pid) (C : Name) → Picks mode φ → Keeps (whomever (stands_by (mode t) t)) (heard (φ t) w C) (who_by φ)
keeps_by mode φ t w C picks = record {
  stays = λ u e. ap (same_process (φ t)) (partner_is mode φ t (mode t) u picks refl e) ∙ process_laws.refl (φ t);
  names = names;
  aims = λ u e. refl;
  turns = λ s k e. refl;
}
  where
    names : (u : Who) (n : Name) → who_by φ u ≡ who.Name n → u ≡ who.Name n
    names (who.Name m) n e = e
    names (who.At s) n e = cc
    names (who.Pid p) n e = cc

-- nothing is taken from a queue in which nothing waits
nothing_taken : (v : View) (q : Queue) (xs : List Name) (next : Code) (place : Option ℕ) → ((k : ℕ) → v.waiting q k ≡ None) → receives v q xs next place ≡ None
nothing_taken v q xs next place none =
    elim (place_of (v.loose q.channel) place) as (λ o. option_and_then (λ k. takes q xs next k (v.waiting q k)) o ≡ None) [ None ↦ refl | Some k ↦ ap (takes q xs next k) (none k) ]

module _ (world : World) (T : Typing world) (S : Reading) (t : Name) (a : AnyReceive) (R : Does) (E : Reading) (entry : Gathers S t a) (exit : Gathered S t a E) (turn : Sound world (inside_by world T S a.set (within_gather t a)) (gather_start S t a) R E) (test : IsQuiet S t a E)
    (κ : Pid → Code) (φ : Focus) (picks : Picks S.mode φ) where
  abbrev s : Name
  s = a.set

  abbrev p : Pid
  p = φ t

  not_this : same_name t s ≡ false
  not_this = name_laws.symm t s ∙ not_a_set S s t entry.set entry.active

  apart : (m : ℕ) → same_process p (member s m) ≡ false
  apart m = ap (λ z. same_name z s && nat_eq p.member m) (picks.role_of t) ∙ ap (λ b. b && nat_eq p.member m) not_this

  live_member : (m : ℕ) → nat_lt m (world.given.sizes s) ≡ true → live world S.mode φ (member s m) ≡ true
  live_member m inside = (λ i. if is_active (entry.set i) then same_process (φ s) (member s m) else (is_each (entry.set i) && inside i))

  -- a member m that was served, where the receiver stands at other code
  module _ (sv : Served) (F : Name → Code) (c : Conf) (mid : Mid world S s φ E sv F κ c) (m : ℕ) (inside : nat_lt m (world.given.sizes s) ≡ true) (was : sv m ≡ true) (A : Code) where
    abbrev w : Pid
    w = member s m

    abbrev begun : Conf
    begun = record c { code = changed same_process c.code p A }

    is_served : served s sv (member s m) ≡ true
    is_served = λ i. name_laws.refl s i && was i

    not_served : served s sv p ≡ false
    not_served = ap (λ z. same_name s z && sv p.member) (picks.role_of t) ∙ ap (λ b. b && sv p.member) (name_laws.symm s t ∙ not_this)

    live_t : live world S.mode φ p ≡ true
    live_t = active_live world S.mode φ t picks entry.active

    code_is : begun.code w ≡ code_by φ (E.code s)
    code_is =
        changed-other process_laws c.code p A w (apart m) ∙ mid.code w (live_member m inside) ∙ (λ i. code_by φ (if is_served i then E.code s else F s) then κ w)
        ∙ (λ i. code_by φ (E.code s) then mid.sets w (live_member m inside) (ap is_each entry.set) i) ∙ then-done (code_by φ (E.code s))

    to_member : (D : Name) → length (E.pending (key t s D)) ≡ length (c.mail (queue p w D))
    to_member D =
        same_length (λ n. c.box n p w) Some (E.pending (key t s D)) (c.mail (queue p w D))
        ((λ i. map (λ n. c.box n p w) (if (sym not_served i || sym is_served i) then E.pending (key (sym (picks.role_of t) i) s D) else S.pending (key (sym (picks.role_of t) i) s D))) ∙ (mid.carries p w live_t (live_member m inside)).0 D)

    from_member : c.mail (queue w p a.channel) ≡ []
    from_member =
        none_left (c.mail (queue w p a.channel))
        (sym ((λ i. map (λ n. c.box n w p) (if (sym is_served i || sym not_served i) then E.pending (key s (sym (picks.role_of t) i) a.channel) else S.pending (key s (sym (picks.role_of t) i) a.channel))) ∙ (mid.carries w p (live_member m inside) live_t).0 a.channel)
        ∙ ap (map (λ n. c.box n w p)) test.no_mail)

    rests : Resting p w a.channel [] (state world begun)
    rests = record {
      calm = subst (λ (k : Code). Calm (walk_by (heard p w a.channel) a.channel k (λ D. length (c.mail (queue p w D))))) (sym code_is)
          (subst (λ (n : Counts). Calm (walk_by (heard p w a.channel) a.channel (code_by φ (E.code s)) n)) (λ i D. to_member D i)
          (calm_le _ _ (walk_by_le (whomever (stands_by (S.mode t) t)) (heard p w a.channel) (who_by φ) a.channel (E.code s) _ _ (keeps_by S.mode φ t w a.channel picks) (λ D. omega arith)) test.calm));
      waits = from_member;
    }

    no_message : (b : AnyReceive) → A ≡ any_code b → b.channel ≡ a.channel → (before : List Event) (at next : State) (place : Option ℕ) → run (state world begun) before ≡ Some at → count p before ≡ 0 →
        step at (from_any p w place) ≡ Some next → ⊥
    no_message b any same before at next place r none h =
        let k = kept_before p (Resting p w a.channel []) (λ y y' f other rest g. rest_kept p w a.channel (apart m) [] y y' f other rest g) (state world begun) before at r none rests in
        let code : at.code p ≡ any_code b = (same_run (state world begun) at p before none r).code ∙ changed-same process_laws c.code p A ∙ any in
        let e = ap (λ z. option_map (after at p) (effect (seen_by at p) p z (Some w) place)) code in
        let g = nothing_taken (seen_by at p) (queue w p b.channel) b.variables (code_with b.binder (who.Pid w) b.body then b.rest) place (λ j. ap (λ l. payload_at l j) (ap (λ C. at.mail (queue w p C)) same ∙ k.waits)) in
        let n = neither (is_member at.sizes b.set w) (after at p) _ g in
        let all = sym h ∙ e ∙ n in cc
      where
        neither : {X Y : Type 0} (b : Bool) (f : X → Y) (o : Option X) → o ≡ None → option_map f (if b then o else None) ≡ None
        neither true f o e = ap (option_map f) e
        neither false f o e = refl

  pub quiet : Quiet world T S t a R E entry exit turn κ φ picks
  quiet k sv c mid m before at next place inside was r none h =
      no_message sv _ c mid m inside was _ (stands φ a _) refl refl before at next place r none h

pub sound_gather : (world : World) (T : Typing world) (S : Reading) (t : Name) (a : AnyReceive) (R : Does) (E : Reading) (entry : Gathers S t a) (exit : Gathered S t a E) (turn : Sound world (inside_by world T S a.set (within_gather t a)) (gather_start S t a) R E) (test : IsQuiet S t a E) →
    Sound world T S (seq.any a.set R (world.given.sizes a.set) (world.given.sizes a.set) []) (set_at S a.set E (changed same_name S.code t a.rest))
sound_gather world T S t a R E entry exit turn test = record {
  there = λ κ φ c typed beyond picks f. gather_there world T S t a R E entry exit turn κ φ picks c typed beyond f;
  back = λ κ φ c typed beyond picks f. gather_back world T S t a R E entry exit turn κ φ picks (quiet world T S t a R E entry exit turn test κ φ picks) c typed beyond f;
}
