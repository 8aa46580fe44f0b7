-- The initial state of a straight program is straight.
use Rattle.std.proofs.Common.{◌≡◌, ℕ, ◌≤◌, Bool, true, false, List, [], ◌∷◌, map, refl, ap, arith}
use Rattle.std.specs.Prelude.{◌&&◌, ◌||◌, not, if◌then◌else◌, sum_by}
use Rattle.std.specs.List.{AllByRecursion, list_all}
use Rattle.std.proofs.lemmas.List.Sums.{sum_by-cons}
use Rattle.brisk_values.specs.Names.{Name, same_name}
use Rattle.brisk_values.proofs.Changes.{both_true, both_hold}
use Rattle.brisk_syntax.specs.declared.program.Program.{Program}
use Rattle.brisk_syntax.specs.declared.tree.Who.{Who}
use Rattle.brisk_syntax.specs.declared.tree.Who.TheVariants as who
use Rattle.brisk_syntax.specs.Classes.{every, talks_to}
use Rattle.brisk_syntax.specs.Counts.{statements, program_statements}
use Rattle.brisk_syntax.specs.Depths.{code_depth}
use Rattle.brisk_syntax.specs.Roles.{RoleText}
use Rattle.brisk_syntax.specs.Syntax.{Statement, Send, Recv, Code, done, ◌⨾◌}
use Rattle.brisk_syntax.specs.Typing.{is_among, is_single}
use Rattle.brisk_syntax.specs.WellTyped.{is_partner, IsWellTyped, IsCodeWellTyped, IsRoleWellTyped}
use Rattle.brisk_state.specs.declared.thread.Mode.TheVariants.{One, Each}
use Rattle.brisk_state.specs.Symbolic.{first_thread, initial}
use Rattle.brisk_sound.proofs.Starts.{roles_distinct}
use Rattle.brisk_rules.proofs.Threads.{names}
use Rattle.brisk_straight.specs.Sources.{IsStraightSource}
use Rattle.brisk_straight.proofs.Ends.{straight_program}
use Rattle.brisk_straight.proofs.Events.{any_partner}
use Rattle.brisk_straight.proofs.States.{one_of, left_in, left_cons, IsThread, IsStraightly}
use Rattle.std.proofs.lemmas.Bool.{not-true}

-- the names of roles
abbrev pub role_names : List RoleText → List Name
role_names roles = map (λ (r : RoleText). r.name) roles

-- a single role is among the roles
single_among : (roles : List RoleText) (n : Name) → is_single roles n ≡ true → is_among (role_names roles) n ≡ true
single_among [] n h = h
single_among (r ∷ rs) n h =
    elim (same_name n r.name) as (λ b. ((b && not r.many) || is_single rs n) ≡ true → (b || is_among (role_names rs) n) ≡ true) [
      | true ↦ λ g. refl
      | false ↦ λ g. single_among rs n g
    ] h

-- the partners of a well-typed role are single roles
partner_among : (P : Program) (r : RoleText) (u : Who) → is_partner P r [] u ≡ true → one_of (role_names P.roles) u ≡ true
partner_among P r (who.Name n) h = single_among P.roles n (both_true (is_single P.roles n) (not (same_name n r.name)) h).0
partner_among P r (who.At s) h = cc
partner_among P r (who.Pid p) h = cc

statement_talks : (P : Program) (r : RoleText) (s : Statement) → talks_to any_partner s ≡ true → IsWellTyped P r [] s → talks_to (one_of (role_names P.roles)) s ≡ true
statement_talks P r (Send c es u) h t = partner_among P r u t.1
statement_talks P r (Recv c xs u) h t = partner_among P r u t.1
statement_talks P r s h t = h

code_talks : (P : Program) (r : RoleText) (c : Code) → every (talks_to any_partner) c ≡ true → IsCodeWellTyped P r [] c → every (talks_to (one_of (role_names P.roles))) c ≡ true
code_talks P r done h t = refl
code_talks P r (s ⨾ c) h t =
    let e = both_true (talks_to any_partner s) (every (talks_to any_partner) c) h in
    both_hold (talks_to (one_of (role_names P.roles)) s) (every (talks_to (one_of (role_names P.roles))) c) (statement_talks P r s e.0 t.0) (code_talks P r c e.1 t.1)

-- the initial state has a thread for each role
threads_named : (roles : List RoleText) → names (map first_thread roles) ≡ role_names roles
threads_named [] = refl
threads_named (r ∷ rs) = ap (λ ns. r.name ∷ ns) (threads_named rs)

pub all_left : (roles : List RoleText) → left_in (map first_thread roles) ≡ sum_by (λ (r : RoleText). statements r.code) roles
all_left [] = refl
all_left (r ∷ rs) =
    let a = left_cons (first_thread r) (map first_thread rs) in let b = sum_by-cons (λ (r : RoleText). statements r.code) r rs in let h = all_left rs in
    omega (arith, a, b, h)

threads_straight : (P : Program) (most : ℕ) (roles : List RoleText) → list_all (λ (r : RoleText). not r.many && every (talks_to any_partner) r.code) roles ≡ true → AllByRecursion (IsRoleWellTyped P) roles →
    AllByRecursion (λ (r : RoleText). code_depth r.code ≤ 64) roles → AllByRecursion (IsThread (role_names P.roles) 256 most) (map first_thread roles)
threads_straight P most [] one typed deep = tt
threads_straight P most (r ∷ rs) one typed deep =
    let e = both_true (not r.many && every (talks_to any_partner) r.code) (list_all (λ (r : RoleText). not r.many && every (talks_to any_partner) r.code) rs) one in
    let k = both_true (not r.many) (every (talks_to any_partner) r.code) e.0 in (
      record {
        mode = ap (λ b. if b then Each else One) (not-true r.many k.0);
        code = record { straight = code_talks P r r.code k.1 typed.0.code; shallow = (let d = deep.0 in omega (arith, d)) };
      },
      threads_straight P most rs e.1 typed.1 deep.1,
    )

pub start_straightly : (P : Program) → IsStraightSource P → IsStraightly (role_names P.roles) 256 (program_statements P) (initial P)
start_straightly P s = record {
  named = threads_named P.roles;
  apart = roles_distinct P s.typed;
  threads = threads_straight P (program_statements P) P.roles (straight_program P s.straight).roles s.typed.roles s.nesting;
  used = [];
  uses = λ m u. cc;
  few = (let h = all_left P.roles in omega (arith, h));
}
