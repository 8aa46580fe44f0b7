-- A valid derivation gives a faithful program.
use Rattle.std.proofs.Common.{◌≡◌, ◌↔◌, ℕ, Bool, true, false, List, [], ◌∷◌, map, Option, Some, None, refl, sym, ap, ◌∙◌, subst, nat_eq, arith}
use Rattle.std.specs.Prelude.{if◌then◌else◌, ◌&&◌, nat_lt, option_map, Ok}
use Rattle.std.proofs.lemmas.Bool.{eqb-true, eqb-false, le-ltb, lt-ltb}
use Rattle.std.proofs.lemmas.Option.{same_Some}
use Rattle.brisk_values.specs.declared.value.Pid.{Pid}
use Rattle.brisk_values.specs.Names.{Name, same_name, same_process, single}
use Rattle.brisk_values.proofs.Changes.{name_laws}
use Rattle.brisk_syntax.specs.declared.program.Program.{Program}
use Rattle.brisk_syntax.specs.Declarations.{is_loose, role_named, decls_of, kind_in}
use Rattle.brisk_syntax.specs.Declarations as declarations
use Rattle.brisk_syntax.specs.Instance.{Instance, Fits, role_of, with_member, processes, set_size, set_sizes, first_value, start_store}
use Rattle.brisk_syntax.specs.Roles.{RoleText}
use Rattle.brisk_syntax.specs.Stores.{Store}
use Rattle.brisk_syntax.specs.Syntax.{Code, done, ◌then◌}
use Rattle.brisk_syntax.specs.Value.{or_false}
use Rattle.brisk_syntax.specs.WellTyped.{IsProgramWellTyped}
use Rattle.brisk_seq.specs.declared.tree.SeqProgram.{SeqProgram}
use Rattle.brisk_seq.specs.Items.{Items}
use Rattle.brisk_seq.specs.Sequential.{Given, given_by, Ends}
use Rattle.brisk_async.specs.declared.event.Event.{Event}
use Rattle.brisk_async.specs.Machine.{State, start, effect, seen_by, after, run, step, Reaches, IsHalted, IsTerminal, IsDeadlocked}
use Rattle.brisk_async.proofs.Begins.{start_kinded}
use Rattle.brisk_async.proofs.Runs.{bound}
use Rattle.brisk_derivation.specs.Steps.{Steps}
use Rattle.brisk_state.specs.declared.thread.Mode.TheVariants.{One, Each}
use Rattle.brisk_state.specs.declared.thread.Thread.{Thread}
use Rattle.brisk_state.specs.Same.{same_code}
use Rattle.brisk_state.specs.Symbolic.{Symbolic, thread_named, initial}
use Rattle.brisk_rules.specs.Derives.{Derived, derive_all, first_unfinished, without_code, sequential, unless_unfinished, finish, Valid}
use Rattle.brisk_sound.specs.Does.{Mem, Does, does_all}
use Rattle.brisk_rules.specs.Faithful.{Halts, Faithful}
use Rattle.brisk_sound.specs.Laws.{ValidIsFaithful}
use Rattle.brisk_rules.specs.Rules.{code_in}
use Rattle.brisk_sound.proofs.Closing.{same_codes}
use Rattle.brisk_rules.specs.Following.{nothing_follows}
use Rattle.brisk_sound.proofs.Covers.{Covers, covers_first}
use Rattle.brisk_sound.proofs.Derives.{Takes_steps}
use Rattle.brisk_rules.proofs.Fulfilled.{and_then_ok}
use Rattle.brisk_sound.proofs.Fits as fits
use Rattle.brisk_sound.proofs.Fits.{World, Conf, mem, live, Picks}
use Rattle.brisk_sound.proofs.Leads.{state}
use Rattle.brisk_sound.proofs.Link.{ends_done}
use Rattle.brisk_sound.proofs.Outcomes.{steps_come}
use Rattle.brisk_rules.proofs.Readings.{Reading, reading, is_active, is_each, denoted, code_by}
use Rattle.brisk_sound.proofs.Sound.{Typing, Sound, Arrives}
use Rattle.brisk_sound.proofs.Starts.{role_mode, first_mode, first_code, first_plain, first_tidy, first_known, some_member}
use Rattle.brisk_sound.proofs.Steps.{steps_sound}
use Rattle.brisk_rules.proofs.Threads.{codes}
use Rattle.brisk_sound.proofs.Typed.{still_none, none_still, given_in, world_of, typing, is_typed}
use Rattle.brisk_syntax.proofs.Codes.{then-done}

-- whether a process is denoted at first, by its role
abbrev is_there : Instance → Pid → Option RoleText → Bool
is_there i p o = if is_active (role_mode o) then same_process (single p.role) p else (is_each (role_mode o) && nat_lt p.member (set_size i o))

member_one : (n : ℕ) → nat_lt n 1 ≡ nat_eq 0 n
member_one n =
    elim (nat_eq 0 n) as (λ b. nat_eq 0 n ≡ b → nat_lt n 1 ≡ b) [
      | true ↦ λ e. (let s = eqb-true 0 n e in lt-ltb n 1 (omega (arith, s)))
      | false ↦ λ e. (let s = eqb-false 0 n e in le-ltb n 1 (omega (arith, s)))
    ] refl

member_is : (i : Instance) (p : Pid) (o : Option RoleText) → with_member i p.member o ≡ (if is_there i p o then o else None)
member_is i p None = refl
member_is i p (Some r) =
    elim r.many as (λ b. (if nat_lt p.member (if b then i.size r.name else 1) then Some r else None)
    ≡ (if (if is_active (Some (if b then Each else One)) then same_process (single p.role) p else (is_each (Some (if b then Each else One)) && nat_lt p.member (if b then i.size r.name else 0))) then Some r else None)) [
      | true ↦ refl
      | false ↦ (λ j. if member_one p.member j then Some r else None) ∙ (λ j. if (sym (name_laws.refl p.role) j && nat_eq 0 p.member) then Some r else None)
    ]

-- a halted state has no event
no_event : (s t : State) (e : Event) → IsHalted s → step s e ≡ Some t → ⊥
no_event s t e h g =
    let k = ap (λ k. option_map (after s e.process) (effect (seen_by s e.process) e.process k e.sender e.place)) (h e.process) in
    let all = sym g ∙ k in cc

stays_halted : (s z : State) (es : List Event) → IsHalted s → run s es ≡ Some z → s ≡ z
stays_halted s z [] h r = same_Some s z r
stays_halted s z (e ∷ es) h r = let b = bound (λ t. run t es) (step s e) z r in absurd (no_event s b.0 e h b.1)

halted_terminal : (s : State) → IsHalted s → IsTerminal s
halted_terminal s h e = elim (step s e) as (λ o. step s e ≡ o → o ≡ None) [ None ↦ λ g. refl | Some t ↦ λ g. absurd (no_event s t e h g) ] refl

module _ (P : Program) (typed : IsProgramWellTyped P) (i : Instance) (fitting : Fits P i) where
  abbrev pub world : World
  world = world_of P i

  abbrev pub T : Typing world
  T = typing P i

  abbrev pub S0 : Reading
  S0 = reading (initial P)

  abbrev pub c0 : Conf
  c0 = record { code = (start P i).code; store = (start P i).store; mail = (start P i).mail; box = λ n p q. None }

  abbrev pub nothing_behind : Pid → Code
  nothing_behind p = done

  live_is : (p : Pid) → live world S0.mode single p ≡ is_there i p (role_named P.roles p.role)
  live_is p = ap (λ m. denoted (set_sizes P.roles i) single m p) (first_mode P p.role)

  role_there : (p : Pid) → live world S0.mode single p ≡ true → role_of P.roles i p ≡ role_named P.roles p.role
  role_there p l = member_is i p (role_named P.roles p.role) ∙ ap (λ b. if b then role_named P.roles p.role else None) (sym (live_is p) ∙ l)

  not_there : (p : Pid) → live world S0.mode single p ≡ false → c0.code p ≡ done
  not_there p l = ap declarations.code_in (member_is i p (role_named P.roles p.role) ∙ ap (λ b. if b then role_named P.roles p.role else None) (sym (live_is p) ∙ l))

  -- the start of the instance fits the initial state
  pub first_fits : fits.Fits world S0 nothing_behind single c0
  first_fits = record {
    code = λ p l. ap declarations.code_in (role_there p l) ∙ sym (first_code P p.role) ∙ sym (first_plain P typed single p.role) ∙ sym (then-done (code_by single (S0.code p.role)));
    mail = λ p q l k C. refl;
    empty = λ p q l k n h. refl;
    facts = λ p l x v e. ap or_false (ap (λ o. first_value i p (decls_of o) x) (role_there p l) ∙ first_known P typed i p p.role x v e);
    sets = λ p l e. refl;
  }

  pub first_picks : Picks S0.mode single
  first_picks = record { role_of = λ t. refl; one = λ t e. refl }

  pub first_behind : T.Behind nothing_behind single
  first_behind = none_still P i nothing_behind single (λ p. refl)

  pub first_covered : Covers world T S0.mode nothing_follows
  first_covered = covers_first world T S0.mode (still_none P i)

  pub first_typed : T.IsTyped c0
  first_typed = is_typed P i c0 (start_kinded P i typed fitting)

  module _ (R : Does) (E : Reading) (modes : E.mode ≡ S0.mode) (sound : Sound world T S0 R E) (finished : (u : Name) → E.code u ≡ done) where
    pub halts : (d : Conf) (t : List Event) → Arrives world S0 E nothing_behind single c0 d t → IsHalted (state world d)
    halts d t a p =
        elim (live world S0.mode single p) as (λ b. live world S0.mode single p ≡ b → d.code p ≡ done) [
          | true ↦ λ l. a.fits.code p (ap (λ m. denoted (set_sizes P.roles i) single (m p.role) p) modes ∙ l) ∙ ap (λ z. code_by single z then done) (finished p.role)
          | false ↦ λ l. a.still.code p l ∙ not_there p l
        ] refl

    -- every terminal state that is reached is halted, with a store to which the items can lead
    reached : (es : List Event) (z : State) → run (start P i) es ≡ Some z → IsTerminal z → IsHalted z × (m : Mem) × R single (mem c0) m × (m.store ≡ z.store)
    reached es z r end =
        let y = sound.back nothing_behind single c0 first_typed first_behind first_picks first_fits es z r end in
        let h = halts y.0 y.2 y.3 in
        let e = stays_halted (state world y.0) z y.4.left h y.4.ends in
        (subst IsHalted e h, mem y.0, y.1, ap (λ (s : State). s.store) e)

    -- and each such store is reached
    reaches : (m : Mem) → R single (mem c0) m → Halts P i m.store
    reaches m r =
        let y = sound.there nothing_behind single c0 first_typed first_behind first_picks first_fits m r in
        (state world y.0, (y.2, y.3.runs), halts y.0 y.2 y.3, ap (λ (m : Mem). m.store) y.1)

    no_deadlock : (s : State) → Reaches (start P i) s → IsDeadlocked s → ⊥
    no_deadlock s r d = d.1 (reached r.0 s r.1 d.0).0

    same_ends : (Ending : Store → Type 0) → ((store : Store) → Ending store ↔ ((m : Mem) × R single (mem c0) m × (m.store ≡ store))) → (store : Store) → Halts P i store ↔ Ending store
    same_ends Ending link store = (
      λ h. (let x = reached h.1.0 h.0 h.1.1 (halted_terminal h.0 h.2) in (link store).1 (x.1, x.2, x.3 ∙ h.3)),
      λ e. (let x = (link store).0 e in subst (Halts P i) x.2 (reaches x.0 x.1)),
    )

-- the sequential program has P's roles, but for their codes
pub stripped : (roles : List RoleText) (n : Name) → role_named (map without_code roles) n ≡ option_map without_code (role_named roles n)
stripped [] n = refl
stripped (r ∷ rs) n = elim (same_name n r.name) as (λ b. (if b then Some (without_code r) else role_named (map without_code rs) n) ≡ option_map without_code (if b then Some r else role_named rs n)) [ true ↦ refl | false ↦ stripped rs n ]

pub same_decls : (o : Option RoleText) → decls_of (option_map without_code o) ≡ decls_of o
same_decls None = refl
same_decls (Some r) = refl

same_size : (i : Instance) (o : Option RoleText) → set_size i (option_map without_code o) ≡ set_size i o
same_size i None = refl
same_size i (Some r) = refl

same_member : (i : Instance) (k : ℕ) (o : Option RoleText) → decls_of (with_member i k (option_map without_code o)) ≡ decls_of (with_member i k o)
same_member i k None = refl
same_member i k (Some r) = elim (nat_lt k (processes i r)) as (λ b. decls_of (if b then Some (without_code r) else None) ≡ decls_of (if b then Some r else None)) [ true ↦ refl | false ↦ refl ]

pub given_is : (P : Program) (X : Items) (i : Instance) → given_by (sequential P X) i ≡ given_in P i
given_is P X i = λ j. record {
  sizes = λ s. (ap (set_size i) (stripped P.roles s) ∙ same_size i (role_named P.roles s)) j;
  kind = λ n. (ap (λ o. kind_in (decls_of o)) (stripped P.roles n) ∙ ap kind_in (same_decls (role_named P.roles n))) j;
}

pub store_is : (P : Program) (X : Items) (i : Instance) → start_store (sequential P X).roles i ≡ start_store P.roles i
store_is P X i = λ j p. first_value i p ((ap (λ o. decls_of (with_member i p.member o)) (stripped P.roles p.role) ∙ same_member i p.member (role_named P.roles p.role)) j)

all_done : (ts : List Thread) → first_unfinished ts ≡ None → (u : Name) → codes ts u ≡ done
all_done [] e u = refl
all_done (t ∷ ts) e u =
    elim (same_code t.code done) as (λ b. same_code t.code done ≡ b → (if b then first_unfinished ts else Some t.name) ≡ None → codes (t ∷ ts) u ≡ done) [
      | true ↦ λ s g. elim (same_name u t.name) as (λ b. code_in (if b then Some t else thread_named ts u) ≡ done) [ true ↦ same_codes t.code done s | false ↦ all_done ts g u ]
      | false ↦ λ s g. cc
    ] refl e

unfinished_ok : (line : ℕ) (o : Option Name) (Q Q' : SeqProgram) → unless_unfinished line o Q ≡ Ok Q' → (o ≡ None) × (Q ≡ Q')
unfinished_ok line None Q Q' e = (refl, cc)
unfinished_ok line (Some t) Q Q' e = cc

-- a valid derivation: its steps lead from the initial state to one in which no code is left
pub record IsValid (P : Program) (D : Steps) (Q : SeqProgram) : Type 0 where
  pub derived : Derived
  pub derives : derive_all P 0 nothing_follows D 2 (initial P) ≡ Ok derived
  pub finished : (u : Name) → codes derived.state.threads u ≡ done
  pub program : sequential P derived.items ≡ Q

pub valid_is : (P : Program) (D : Steps) (Q : SeqProgram) → Valid P D Q → IsValid P D Q
valid_is P D Q e =
    let x = and_then_ok (derive_all P 0 nothing_follows D 2 (initial P)) (finish P) Q e in
    let f = unfinished_ok x.0.line (first_unfinished x.0.state.threads) (sequential P x.0.items) Q x.2 in
    record { derived = x.0; derives = x.1; finished = all_done x.0.state.threads f.0; program = f.1 }

-- a valid derivation's program is faithful
pub faithful : (P : Program) (D : Steps) (Q : SeqProgram) → IsProgramWellTyped P → Valid P D Q → Faithful P Q
faithful P D Q typed valid =
    let v = valid_is P D Q valid in
    let x = steps_come P 0 nothing_follows D 2 (initial P) v.derived (first_tidy P typed) v.derives in
    subst (Faithful P) v.program record {
      never_deadlocked = λ i f. no_deadlock P typed i f (does_all (given_in P i) v.derived.items) (reading v.derived.state) x.kept.mode (sound_in i f x.takes) v.finished;
      same_stores = λ i f store.
          same_ends P typed i f (does_all (given_in P i) v.derived.items) (reading v.derived.state) x.kept.mode (sound_in i f x.takes) v.finished (Ends (sequential P v.derived.items) i)
          (linked i v.derived.items) store;
    }
  where
    sound_in : (i : Instance) → Fits P i → {X : Items} {E : Symbolic} → Takes_steps P nothing_follows D (initial P) X E → Sound (world_of P i) (typing P i) (reading (initial P)) (does_all (given_in P i) X) (reading E)
    sound_in i f {X = X} {E = E} takes = steps_sound (world_of P i) P refl (some_member P i typed f) (typing P i) nothing_follows D (initial P) X E (covers_first (world_of P i) (typing P i) (reading (initial P)).mode (still_none P i)) takes

    linked : (i : Instance) (X : Items) (store : Store) → Ends (sequential P X) i store ↔ ((m : Mem) × does_all (given_in P i) X single (record { store = start_store P.roles i; box = λ n p q. None }) m × (m.store ≡ store))
    linked i X store =
        subst (λ (z : Given). Ends (sequential P X) i store ↔ ((m : Mem) × does_all z X single (record { store = start_store P.roles i; box = λ n p q. None }) m × (m.store ≡ store))) (given_is P X i)
        (subst (λ (z : Store). Ends (sequential P X) i store ↔ ((m : Mem) × does_all (given_by (sequential P X) i) X single (record { store = z; box = λ n p q. None }) m × (m.store ≡ store))) (store_is P X i)
        (ends_done (sequential P X) i store))

pub sound : ValidIsFaithful
sound P D Q typed valid = faithful P D Q typed valid
