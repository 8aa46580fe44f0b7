-- A loop over the members by their numbers isn't faithful to a gather.
use Rattle.std.proofs.Common.{◌≡◌, ℕ, ◌+◌, ◌*◌, ◌<◌, ◌≤◌, zero, suc, Bool, true, false, List, [], ◌∷◌, Option, Some, None, refl, sym, ap, ◌∙◌, arith}
use Rattle.std.specs.Int.{int_wrap}
use Rattle.std.specs.List.{AllByRecursion}
use Rattle.std.specs.Prelude.{pos, Result, Ok, Err, if◌then◌else◌, ◌&&◌, nat_eq, nat_lt, unwrap_or, option_map}
use Rattle.std.proofs.lemmas.Bool.Decides.{nat_tests}
use Rattle.std.proofs.lemmas.Option.{same_Some}
use Rattle.brisk_values.specs.declared.value.Pid.{Pid}
use Rattle.brisk_values.specs.declared.value.Kind.TheVariants as kind
use Rattle.brisk_values.specs.declared.value.Value.{Value}
use Rattle.brisk_values.specs.declared.value.Value.TheVariants as value
use Rattle.brisk_values.specs.Names.{Name, same_name, same_process, single, member}
use Rattle.brisk_values.proofs.Changes.{name_laws}
use Rattle.brisk_syntax.specs.Declarations.{code_in}
use Rattle.brisk_syntax.specs.Instance.{Fits, Instance, IsOfKind, processes, role_of}
use Rattle.brisk_syntax.specs.Roles.{RoleText}
use Rattle.brisk_syntax.specs.Stores.{Store}
use Rattle.brisk_syntax.specs.Syntax.{Code, done}
use Rattle.brisk_seq.specs.Sequential.{Ends, Stop}
use Rattle.brisk_async.specs.Machine.{State, start, run, IsHalted}
use Rattle.brisk_async.proofs.Members.{role_cases, no_other}
use Rattle.brisk_rules.specs.Faithful.{Faithful}
use Rattle.brisk_sound.specs.Samples.{M, Ws, last, collect, collect_by_number}
use Rattle.brisk_sound.specs.Examples.{collects, two_members, whole}

-- where a role has no process but p, the others are without code
pub gone : (roles : List RoleText) (i : Instance) (p : Pid) →
    AllByRecursion (λ r. same_name p.role r.name ≡ true → nat_lt p.member (processes i r) ≡ true → ⊥) roles → code_in (role_of roles i p) ≡ done
gone roles i p none =
    role_cases i p (λ r. same_name p.role r.name ≡ true → nat_lt p.member (processes i r) ≡ true → ⊥) (λ o. code_in o ≡ done) roles refl none (λ r h e g. absurd (h e g))

pub not_single : (a : Name) (p : Pid) → same_process (single a) p ≡ false → same_name p.role a ≡ true → nat_lt p.member 1 ≡ true → ⊥
not_single a p apart e h = let g = sym h ∙ no_other a p apart e in cc

-- the start of `collect` with two members, and the state in which M has taken from the second and then from the first
abbrev begun : State
begun = start collect two_members

abbrev collected : State
collected = unwrap_or (run begun (collects (member Ws 1) (member Ws 0))) begun

-- code that three processes have left behind them
left_behind : (m first second : Bool) (a b c d e f z : Code) → (m ≡ false → first ≡ false → second ≡ false → z ≡ done) →
    (if m then done else (if m then a else (if m then b else (if m then c else (if m then d else (if m then e else (if m then f else (if second then done else (if first then done else z))))))))) ≡ done
left_behind true first second a b c d e f z h = refl
left_behind false first true a b c d e f z h = refl
left_behind false true false a b c d e f z h = refl
left_behind false false false a b c d e f z h = h refl refl refl

-- no member of two is another than these
no_third : (p : Pid) → same_process (member Ws 0) p ≡ false → same_process (member Ws 1) p ≡ false → same_name p.role Ws ≡ true → nat_lt p.member 2 ≡ true → ⊥
no_third p apart apart' e below =
    let is : same_name Ws p.role ≡ true = name_laws.symm Ws p.role ∙ e in
    neither p.member (here 0 is apart) (here 1 is apart') below
  where
    here : (k : ℕ) → same_name Ws p.role ≡ true → same_process (member Ws k) p ≡ false → nat_eq k p.member ≡ false
    here k is h = ap (λ b. b && nat_eq k p.member) (sym is) ∙ h

    neither : (n : ℕ) → nat_eq 0 n ≡ false → nat_eq 1 n ≡ false → nat_lt n 2 ≡ true → ⊥
    neither n a b c = grind (arith, nat_tests)

collected_code : (p : Pid) → option_map (λ s. s.code p) (run begun (collects (member Ws 1) (member Ws 0))) ≡ Some done
unfolding int_wrap
collected_code p =
    ap Some (left_behind (same_process (single M) p) (same_process (member Ws 0) p) (same_process (member Ws 1) p) _ _ _ _ _ _ (code_in (role_of collect.roles two_members p))
    (λ m a b. gone collect.roles two_members p (not_single M p m, (no_third p a b, tt))))

input : (k : ℕ) → k < 2 → IsOfKind [] kind.Int (value.Int (pos (10 + 10 * k)))
input zero h = (record { le = tt }, record { lt = tt })
input (suc zero) h = (record { le = tt }, record { lt = tt })
input (suc (suc k)) h = absurd (omega (arith, h))

fits : Fits collect two_members
fits =
    let one : 0 ≤ 1 = omega arith in let two : 0 ≤ 2 = omega arith in
    ((one, λ k h. (tt, (tt, tt))), ((two, λ k h. (input k h, tt)), tt))

-- the value of M's last in a store, if the program halts
abbrev last_of : Result Store Stop → Option Value
last_of (Ok store) = store (single M) last
last_of (Err why) = None

pub unfaithful : Faithful collect collect_by_number → ⊥
unfolding int_wrap
unfaithful f = by ((f.same_stores two_members fits collected.store).0 (collected, (collects (member Ws 1) (member Ws 0), refl), halted, refl))
  where
    halted : IsHalted collected
    halted p = same_Some (collected.code p) done (collected_code p)

    by : Ends collect_by_number two_members collected.store → ⊥
    by ([], turns, h) = absurd (let e : whole 20 ≡ whole 10 = ap last_of h in cc)
    by (k ∷ ks, turns, h) = absurd (let e : ◌≡◌ {A = Option Value} None (whole 10) = ap last_of h in cc)
