-- Where a derivation of a straight program is stuck, the processes are deadlocked.
use Rattle.std.proofs.Common.{◌≡◌, ℕ, true, false, List, [], ◌∷◌, map, Option, Some, None, refl, sym, ap, ◌∙◌, subst, arith, nat_eq}
use Rattle.std.specs.Prelude.{if◌then◌else◌, ◌&&◌, not, nat_lt}
use Rattle.std.specs.List.{list_all}
use Rattle.std.proofs.lemmas.Bool.{eqb-false, le-ltb}
use Rattle.brisk_values.specs.declared.value.Pid.{Pid}
use Rattle.brisk_values.specs.Names.{Name, same_name, same_process, single}
use Rattle.brisk_values.proofs.Changes.{both_true, name_laws}
use Rattle.brisk_syntax.specs.declared.program.Program.{Program}
use Rattle.brisk_syntax.specs.declared.tree.Who.TheVariants as who
use Rattle.brisk_syntax.specs.Classes.{every, talks_to}
use Rattle.brisk_syntax.specs.Declarations.{code_in as code_of_role, role_named}
use Rattle.brisk_syntax.specs.Instance.{Instance, Fits, with_member, set_sizes}
use Rattle.brisk_syntax.specs.Roles.{RoleText}
use Rattle.brisk_syntax.specs.Segments.{head_of}
use Rattle.brisk_syntax.specs.Syntax.{Recv, Code, done, ◌⨾◌, ◌then◌}
use Rattle.brisk_syntax.specs.WellTyped.{IsProgramWellTyped}
use Rattle.brisk_async.specs.declared.event.Event.{Event}
use Rattle.brisk_async.specs.Blocked.{IsBlocked}
use Rattle.brisk_async.specs.Machine.{queue, IsHalted, IsTerminal, IsDeadlocked}
use Rattle.brisk_async.proofs.Events.{terminal_iff}
use Rattle.brisk_state.specs.declared.thread.Mode.{Mode}
use Rattle.brisk_state.specs.declared.thread.Mode.TheVariants.{One, At, Each}
use Rattle.brisk_state.specs.Symbolic.{Symbolic, key, numbers_at, initial}
use Rattle.brisk_rules.specs.Following.{nothing_follows}
use Rattle.brisk_sound.proofs.Fits.{World, Conf, live, active_live}
use Rattle.brisk_sound.proofs.Leads.{state}
use Rattle.brisk_sound.proofs.Outcomes.{steps_come}
use Rattle.brisk_rules.proofs.Readings.{Reading, reading, is_active, is_each, denoted, code_by}
use Rattle.brisk_sound.proofs.Sound.{Arrives}
use Rattle.brisk_sound.proofs.Starts.{role_mode, first_mode, first_tidy, some_member}
use Rattle.brisk_sound.proofs.Steps.{steps_sound}
use Rattle.brisk_rules.proofs.Threads.{moved}
use Rattle.brisk_sound.proofs.Top as top
use Rattle.brisk_sound.proofs.Typed.{world_of, typing, still_none}
use Rattle.brisk_sound.proofs.Covers.{covers_first}
use Rattle.brisk_straight.specs.Stuck.{Waits, IsStuck, HasCode, StuckIsDeadlock}
use Rattle.brisk_straight.proofs.Ends.{IsStraightProgram, straight_program, terminal_stays}
use Rattle.brisk_straight.proofs.Events.{any_partner}
use Rattle.brisk_straight.proofs.Places.{stands_at}

-- the role that a name finds is single
role_single : (roles : List RoleText) (n : Name) → list_all (λ (r : RoleText). not r.many && every (talks_to any_partner) r.code) roles ≡ true → role_mode (role_named roles n) ≡ Some Each → ⊥
role_single [] n h e = cc
role_single (r ∷ rs) n h e =
    let a = both_true (not r.many && every (talks_to any_partner) r.code) (list_all (λ (r : RoleText). not r.many && every (talks_to any_partner) r.code) rs) h in
    let k = both_true (not r.many) (every (talks_to any_partner) r.code) a.0 in
    elim (same_name n r.name) as (λ b. role_mode (if b then Some r else role_named rs n) ≡ Some Each → ⊥) [
      | true ↦ elim r.many as (λ b. not b ≡ true → Some (if b then Each else One) ≡ Some Each → ⊥) [ true ↦ λ f g. cc | false ↦ λ f g. cc ] k.0
      | false ↦ λ g. role_single rs n a.1 g
    ] e

-- an empty list of numbers is the image of an empty queue
none_pend : {A : Type 0} (box : ℕ → Option A) (ns : List ℕ) (ms : List A) → ns ≡ [] → map box ns ≡ map Some ms → ms ≡ []
none_pend box [] [] e h = refl
none_pend box [] (m ∷ ms) e h = cc
none_pend box (n ∷ ns) ms e h = cc

each_mode : (m : Option Mode) → is_each m ≡ true → m ≡ Some Each
each_mode None e = cc
each_mode (Some One) e = cc
each_mode (Some At) e = cc
each_mode (Some Each) e = refl

-- a process that is denoted, where no thread is a set's, is that of an active thread
is_denoted : (sizes : Name → ℕ) (φ : Name → Pid) (m : Option Mode) (p : Pid) → (m ≡ Some Each → ⊥) → denoted sizes φ m p ≡ true → is_active m ≡ true
is_denoted sizes φ m p none h =
    elim (is_active m) as (λ b. is_active m ≡ b → (if b then same_process (φ p.role) p else (is_each m && nat_lt p.member (sizes p.role))) ≡ true → b ≡ true) [
      | true ↦ λ a g. refl
      | false ↦ λ a g. absurd (none (each_mode m (both_true (is_each m) (nat_lt p.member (sizes p.role)) g).0))
    ] refl h

module _ (P : Program) (typed : IsProgramWellTyped P) (straight : IsStraightProgram P) (i : Instance) (fitting : Fits P i) where
  abbrev world : World
  world = world_of P i

  abbrev S0 : Reading
  S0 = reading (initial P)

  abbrev c0 : Conf
  c0 = top.c0 P typed i fitting

  -- no thread is a set's
  no_set : (u : Name) → S0.mode u ≡ Some Each → ⊥
  no_set u e = role_single P.roles u straight.roles (sym (first_mode P u) ∙ e)

  -- a process that isn't denoted has no code at first
  not_there : (p : Pid) → live world S0.mode single p ≡ false → c0.code p ≡ done
  not_there p l = by (role_named P.roles p.role) refl (sym (ap (λ m. denoted (set_sizes P.roles i) single m p) (first_mode P p.role)) ∙ l)
    where
      by : (o : Option RoleText) → role_named P.roles p.role ≡ o → denoted (set_sizes P.roles i) single (role_mode o) p ≡ false → code_of_role (with_member i p.member (role_named P.roles p.role)) ≡ done
      by None is h = ap (λ o. code_of_role (with_member i p.member o)) is
      by (Some r) is h = ap (λ o. code_of_role (with_member i p.member o)) is ∙ (
          elim r.many as (λ b. r.many ≡ b → denoted (set_sizes P.roles i) single (Some (if b then Each else One)) p ≡ false → code_of_role (if nat_lt p.member (if b then i.size r.name else 1) then Some r else None) ≡ done) [
            | true ↦ λ many g. absurd (role_single P.roles p.role straight.roles (ap role_mode is ∙ ap (λ b. Some (if b then Each else One)) many))
            | false ↦ λ one g.
                let apart : nat_eq 0 p.member ≡ false = sym (ap (λ b. b && nat_eq 0 p.member) (name_laws.refl p.role)) ∙ g in
                ap (λ b. code_of_role (if b then Some r else None)) (let d = eqb-false 0 p.member apart in le-ltb p.member 1 (omega (arith, d)))
          ] refl h)

  module _ (S : Symbolic) (modes : (reading S).mode ≡ S0.mode) (stuck : IsStuck S) (d : Conf) (es : List Event) (a : Arrives world S0 (reading S) (top.nothing_behind P typed i fitting) single c0 d es) where
    -- a process is denoted at the end as at first
    still_live : (p : Pid) → live world S0.mode single p ≡ true → live world (reading S).mode single p ≡ true
    still_live p l = ap (λ m. denoted (set_sizes P.roles i) single (m p.role) p) modes ∙ l

    still_active : (p : Pid) → live world S0.mode single p ≡ true → is_active ((reading S).mode p.role) ≡ true
    still_active p l = is_denoted (set_sizes P.roles i) single ((reading S).mode p.role) p (λ e. no_set p.role (sym (ap (λ m. m p.role) modes) ∙ e)) (still_live p l)

    -- no mail waits on a key for which no message pends
    no_mail : (n : Name) (p : Pid) (C : Name) → live world S0.mode single p ≡ true → numbers_at S.pending (key n p.role C) ≡ [] → d.mail (queue (single n) p C) ≡ []
    no_mail n p C l none =
        elim (live world S0.mode single (single n)) as (λ b. live world S0.mode single (single n) ≡ b → d.mail (queue (single n) p C) ≡ []) [
          | true ↦ λ k. none_pend (λ m. d.box m (single n) p) (numbers_at S.pending (key n p.role C)) (d.mail (queue (single n) p C)) none (a.fits.mail (single n) p (still_live (single n) k) (still_live p l) C)
          | false ↦ λ k. a.still.sent (single n) p k C
        ] refl

    waits_blocked : (p : Pid) → live world S0.mode single p ≡ true → (c : Code) → Waits S p.role c → IsBlocked world.given.sizes d.mail p (head_of (code_by single c then done))
    waits_blocked p l done w = tt
    waits_blocked p l (Recv C xs (who.Name n) ⨾ rest) w = no_mail n p C l w
    waits_blocked p l c w = absurd w

    blocked : (p : Pid) → IsBlocked world.given.sizes d.mail p (head_of (d.code p))
    blocked p =
        elim (live world S0.mode single p) as (λ b. live world S0.mode single p ≡ b → IsBlocked world.given.sizes d.mail p (head_of (d.code p))) [
          | true ↦ λ l.
              subst (λ (c : Code). IsBlocked world.given.sizes d.mail p (head_of c)) (sym (a.fits.code p (still_live p l)))
              (waits_blocked p l ((reading S).code p.role) (stuck p.role ((reading S).code p.role) (stands_at S.threads p.role (still_active p l))))
          | false ↦ λ l. subst (λ (c : Code). IsBlocked world.given.sizes d.mail p (head_of c)) (sym (a.still.code p l ∙ not_there p l)) tt
        ] refl

    pub is_terminal : IsTerminal (state world d)
    is_terminal = (terminal_iff (state world d)).0 blocked

    -- a thread with code left is a process with code left
    pub not_halted : HasCode S → IsHalted (state world d) → ⊥
    not_halted h halted =
        let t = h.0 in
        let m = moved S.threads t (h.1 ⨾ h.2) h.3 in
        let l = active_live world (reading S).mode single t record { role_of = λ u. refl; one = λ u e. refl } m.active in
        let code = sym (halted (single t)) ∙ a.fits.code (single t) l ∙ ap (λ c. code_by single c then done) m.stands in cc

pub stuck_is_deadlock : StuckIsDeadlock
stuck_is_deadlock P D S i es z typed straight fitting lead stuck has r end =
    let s = straight_program P straight in
    let x = steps_come P 0 nothing_follows D 2 (initial P) lead.0 (first_tidy P typed) lead.1 in
    let world = world_of P i in
    let T = typing P i in
    let sound = steps_sound world P refl (some_member P i typed fitting) T nothing_follows D (initial P) lead.0.items lead.0.state (covers_first world T (reading (initial P)).mode (still_none P i)) x.takes in
    let y = sound.back (top.nothing_behind P typed i fitting) single (top.c0 P typed i fitting) (top.first_typed P typed i fitting) (top.first_behind P typed i fitting) (top.first_picks P typed i fitting) (top.first_fits P typed i fitting) es z r end in
    let stuck' = subst IsStuck (sym lead.2) stuck in
    let has' = subst HasCode (sym lead.2) has in
    let terminal = is_terminal P typed s i fitting lead.0.state x.kept.mode stuck' y.0 y.2 y.3 in
    let is = (terminal_stays (state world y.0) z y.4.left terminal y.4.ends).1 in
    subst IsDeadlocked is (terminal, not_halted P typed s i fitting lead.0.state x.kept.mode stuck' y.0 y.2 y.3 has')
