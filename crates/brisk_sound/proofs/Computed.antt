-- The small programs, computed.
use Rattle.std.proofs.Common.{◌≡◌, ℕ, Bool, true, false, List, [], ◌∷◌, Option, Some, None, refl, sym, ap, ◌∙◌, subst, arith}
use Rattle.std.specs.Int.{int_wrap}
use Rattle.std.specs.Prelude.{◌&&◌, negsuc, Ok, option_map, option_and_then, unwrap_or, if◌then◌else◌, nat_lt}
use Rattle.std.proofs.lemmas.Bool.{le-ltb}
use Rattle.std.proofs.lemmas.Option.{same_Some}
use Rattle.brisk_values.specs.declared.value.Pid.{Pid}
use Rattle.brisk_values.proofs.Changes.{changed_cases}
use Rattle.brisk_values.specs.declared.value.Value.TheVariants as value
use Rattle.brisk_values.specs.Names.{Name, same_name, same_process, single}
use Rattle.brisk_syntax.specs.declared.tree.Who.TheVariants as who
use Rattle.brisk_syntax.specs.Declarations.{code_in, is_loose}
use Rattle.brisk_syntax.specs.Instance.{role_of}
use Rattle.brisk_syntax.specs.Substitution.{code_with}
use Rattle.brisk_syntax.specs.Syntax.{Recv, RecvAny, Code, done, ◌⨾◌, ◌then◌}
use Rattle.brisk_async.specs.Machine.{State, Queue, queue, partner, payload_at, receives, takes, place_of, effect, seen_by, after, start, run, IsHalted, IsTerminal}
use Rattle.brisk_async.specs.PlainRuns.{plain_instance, Deadlocks}
use Rattle.brisk_async.proofs.Members.{role_cases}
use Rattle.brisk_sound.specs.Samples.{A, B, M, ping_pong, ping_pong_in_order, crossed, maybe_empty_server}
use Rattle.brisk_sound.specs.Examples.{Examples, values_after, values_in_order, all_inputs, greatest, whole, round_trip, ping_pong_places, of_one}
use Rattle.brisk_sound.proofs.Unfaithful.{gone, not_single, unfaithful}
use Rattle.std.proofs.Math.Bool.{and-false}

wraps : values_after ping_pong (all_inputs greatest) round_trip ping_pong_places ≡ Some (whole greatest ∷ Some (value.Int (negsuc greatest)) ∷ whole greatest ∷ [])
unfolding int_wrap
wraps = refl

wraps_in_order : values_in_order ping_pong_in_order (all_inputs greatest) [] 0 ping_pong_places ≡ Ok (whole greatest ∷ Some (value.Int (negsuc greatest)) ∷ whole greatest ∷ [])
unfolding int_wrap
wraps_in_order = refl

-- a process without code has no event
abbrev HasNone : State → Pid → Code → Type 0
HasNone s p code = (sender : Option Pid) (place : Option ℕ) → effect (seen_by s p) p code sender place ≡ None

terminal : (s : State) → ((p : Pid) → HasNone s p (s.code p)) → IsTerminal s
terminal s none e = ap (option_map (after s e.process)) (none e.process e.sender e.place)

takes_none : (q : Queue) (xs : List Name) (next : Code) (o : Option ℕ) → option_and_then (λ k. takes q xs next k None) o ≡ None
takes_none q xs next None = refl
takes_none q xs next (Some k) = refl

-- the code is empty, or receives from an empty queue or from any of no member
abbrev IsBlocked : State → Pid → Code → Type 0
IsBlocked s p done = Unit {0}
IsBlocked s p (Recv c xs u ⨾ rest) = s.mail (queue (partner u) p c) ≡ []
IsBlocked s p (RecvAny c xs v set b ⨾ rest) = s.sizes set ≡ 0
IsBlocked s p code = ⊥

blocked : (s : State) (p : Pid) (code : Code) → IsBlocked s p code → HasNone s p code
blocked s p done h sender place = refl
blocked s p (Recv c xs u ⨾ rest) empty None place =
    ap (λ ms. option_and_then (λ k. takes (queue (partner u) p c) xs rest k (payload_at ms k)) (place_of (is_loose s.program.channels c) place)) empty
    ∙ takes_none (queue (partner u) p c) xs rest (place_of (is_loose s.program.channels c) place)
blocked s p (Recv c xs u ⨾ rest) empty (Some w) place = refl
blocked s p (RecvAny c xs v set b ⨾ rest) empty None place = refl
blocked s p (RecvAny c xs v set b ⨾ rest) empty (Some w) place =
    ap (λ t. if t then receives (seen_by s p) (queue w p c) xs (code_with v (who.Pid w) b then rest) place else None)
    (ap (λ n. same_name set w.role && nat_lt w.member n) empty ∙ ap (λ t. same_name set w.role && t) (le-ltb w.member 0 (omega arith)) ∙ and-false (same_name set w.role))
blocked s p (x ⨾ rest) h sender place = absurd h

not_in_empty : (k : ℕ) → nat_lt k 0 ≡ true → ⊥
not_in_empty k h = let g = sym h ∙ le-ltb k 0 (omega arith) in cc

two_done : (a b : Bool) (x y z : Code) → (a ≡ false → b ≡ false → z ≡ done) →
    (if a then done else (if b then done else (if b then x else (if a then y else z)))) ≡ done
two_done true b x y z h = refl
two_done false true x y z h = refl
two_done false false x y z h = h refl refl

ping_pong_code : (m : ℕ) (p : Pid) → option_map (λ s. s.code p) (run (start ping_pong (all_inputs m)) round_trip) ≡ Some done
ping_pong_code m p =
    ap Some (two_done (same_process (single A) p) (same_process (single B) p) _ _ (code_in (role_of ping_pong.roles (all_inputs m) p))
    (λ a b. gone ping_pong.roles (all_inputs m) p (not_single A p a, (not_single B p b, tt))))

ping_pong_halts : (m : ℕ) (s : State) → run (start ping_pong (all_inputs m)) round_trip ≡ Some s → IsHalted s
ping_pong_halts m s r p = same_Some (s.code p) done (sym (ap (option_map (λ z. z.code p)) r) ∙ ping_pong_code m p)

-- the start of `crossed`
abbrev both_wait : State
both_wait = start crossed (plain_instance crossed 1)

each_waits : (p : Pid) → HasNone both_wait p (both_wait.code p)
each_waits p =
    role_cases (plain_instance crossed 1) p (λ r. IsBlocked both_wait p r.code) (λ o. HasNone both_wait p (code_in o)) crossed.roles (λ sender place. refl)
    (refl, (refl, tt)) (λ r h e g. blocked both_wait p r.code h)

crossed_deadlocks : Deadlocks crossed (plain_instance crossed 1) []
crossed_deadlocks = (both_wait, refl, (terminal both_wait each_waits, λ h. let e = h (single A) in cc))

-- the start of `maybe_empty_server` with no member, and the state after M's first event
abbrev begun : State
begun = start maybe_empty_server (all_inputs 1)

abbrev offered : State
offered = unwrap_or (run begun (of_one M ∷ [])) begun

nobody_takes : (p : Pid) → HasNone offered p (offered.code p)
unfolding int_wrap
nobody_takes p =
    changed_cases same_process begun.code (single M) (offered.code (single M)) p (HasNone offered p) (λ e. blocked offered p (offered.code (single M)) refl)
    (λ other. subst (HasNone offered p) (sym (gone maybe_empty_server.roles (all_inputs 1) p (not_single M p other, (λ e. not_in_empty p.member, tt)))) (λ sender place. refl))

empty_server_deadlocks : Deadlocks maybe_empty_server (all_inputs 1) (of_one M ∷ [])
unfolding int_wrap
empty_server_deadlocks = (offered, refl, (terminal offered nobody_takes, λ h. let e = h (single M) in cc))

pub computed : Examples
unfolding int_wrap
computed = record {
  ping_pong_wraps = wraps;
  ping_pong_in_order_wraps = wraps_in_order;
  ping_pong_halts = ping_pong_halts;
  ping_pong_waits = refl;
  two_in_order = refl;
  strict_takes_no_place = refl;
  two_turned_round = refl;
  no_such_place = refl;
  crossed_plain = refl;
  crossed_deadlocks = crossed_deadlocks;
  collect_second_first = refl;
  collect_first_first = refl;
  collect_by_choices = refl;
  collect_by_number_unfaithful = unfaithful;
  empty_server = refl;
  empty_server_deadlocks = empty_server_deadlocks;
}
