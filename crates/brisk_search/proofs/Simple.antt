-- Straight programs and stars are never spent.
use Rattle.std.proofs.Common.{◌≡◌, ℕ, Bool, true, false, List, [], ◌∷◌, map, Some, None, refl, sym, ap, subst, true≢false}
use Rattle.std.specs.Prelude.{◌≢◌, ◌&&◌, ◌||◌, not, filter, if◌then◌else◌}
use Rattle.std.specs.List.{list_all}
use Rattle.brisk_values.specs.Names.{Name, same_name}
use Rattle.brisk_values.proofs.Changes.{both_true}
use Rattle.brisk_syntax.specs.declared.program.Program.{Program}
use Rattle.brisk_syntax.specs.declared.tree.Who.{Who}
use Rattle.brisk_syntax.specs.Classes.{every, is_local, all_local, talks_to, is_named, has_no_loose, is_straight, in_centre, fits_star, is_star_round, is_star}
use Rattle.brisk_syntax.specs.Roles.{RoleText}
use Rattle.brisk_syntax.specs.Syntax.{Statement, Assign, Send, Recv, RecvAny, If, IfElse, For, Repeat, Code, done, ◌⨾◌}
use Rattle.brisk_syntax.specs.WellTyped.{IsProgramWellTyped}
use Rattle.brisk_state.specs.Symbolic.{first_thread, initial}
use Rattle.brisk_rules.specs.Following.{nothing_follows}
use Rattle.brisk_rules.specs.Rules.{code_in}
use Rattle.brisk_sound.proofs.Starts.{first_tidy}
use Rattle.brisk_rules.proofs.Threads.{codes}
use Rattle.brisk_search.specs.Drives.{Driven, Reached, Stuck, top, side_of}
use Rattle.brisk_search.specs.Drives as drive
use Rattle.brisk_search.specs.Passes.{first_pass}
use Rattle.brisk_search.specs.Searched as found
use Rattle.brisk_search.specs.Searched.{Searched, is_simple, passes, answer, searched}
use Rattle.brisk_search.proofs.Shorter.{NoWhileIn, NoWhile}
use Rattle.brisk_search.proofs.Uncounted.{Fit, DriveGoesOn, drivers_go_on}

mutual
  local_free : (s : Statement) → is_local s ≡ true → NoWhileIn s
  local_free (Assign x e) h = tt
  local_free (If e a) h = all_free a h
  local_free (IfElse e a b) h = let g = both_true (all_local a) (all_local b) h in (all_free a g.0, all_free b g.1)
  local_free s h = cc

  all_free : (c : Code) → all_local c ≡ true → NoWhile c
  all_free done h = tt
  all_free (s ⨾ c) h = let g = both_true (is_local s) (all_local c) h in (local_free s g.0, all_free c g.1)

every_free : (test : Statement → Bool) → ((s : Statement) → test s ≡ true → NoWhileIn s) → (c : Code) → every test c ≡ true → NoWhile c
every_free test h done e = tt
every_free test h (s ⨾ c) e = let g = both_true (test s) (every test c) e in (h s g.0, every_free test h c g.1)

talks_free : (test : Who → Bool) (s : Statement) → talks_to test s ≡ true → NoWhileIn s
talks_free test (Assign x e) h = tt
talks_free test (Send c es u) h = tt
talks_free test (Recv c xs u) h = tt
talks_free test (If e a) h = local_free (If e a) h
talks_free test (IfElse e a b) h = local_free (IfElse e a b) h
talks_free test s h = cc

centre_free : (s : Statement) → in_centre s ≡ true → NoWhileIn s
centre_free (Assign x e) h = tt
centre_free (If e a) h = local_free (If e a) h
centre_free (IfElse e a b) h = local_free (IfElse e a b) h
centre_free (For v s k b) h = every_free (talks_to (is_named v)) (talks_free (is_named v)) b h
centre_free (Repeat s k (RecvAny c xs v t b ⨾ done)) h =
    (every_free (talks_to (is_named v)) (talks_free (is_named v)) b (both_true (same_name s t) (every (talks_to (is_named v)) b) h).1, tt)
centre_free s h = cc

-- the codes of all roles, if each role passes a test
codes_free : (test : RoleText → Bool) → ((r : RoleText) → test r ≡ true → NoWhile r.code) → (roles : List RoleText) → list_all test roles ≡ true → (u : Name) → NoWhile (codes (map first_thread roles) u)
codes_free test h [] e u = tt
codes_free test h (r ∷ rs) e u = let g = both_true (test r) (list_all test rs) e in go (same_name u r.name) (h r g.0) (codes_free test h rs g.1 u)
  where
    go : (b : Bool) → NoWhile r.code → NoWhile (codes (map first_thread rs) u) → NoWhile (code_in (if b then Some (first_thread r) else Rattle.brisk_state.specs.Symbolic.thread_named (map first_thread rs) u))
    go true x y = x
    go false x y = y

straight_role : (r : RoleText) → (not r.many && every (talks_to (λ u. true)) r.code) ≡ true → NoWhile r.code
straight_role r h = every_free (talks_to (λ u. true)) (talks_free (λ u. true)) r.code (both_true (not r.many) (every (talks_to (λ u. true)) r.code) h).1

star_role : (centre : Name) (r : RoleText) → fits_star centre r ≡ true → NoWhile r.code
star_role centre r h = go r.many h
  where
    go : (b : Bool) → every (if b then talks_to (is_named centre) else in_centre) r.code ≡ true → NoWhile r.code
    go true g = every_free (talks_to (is_named centre)) (talks_free (is_named centre)) r.code g
    go false g = every_free in_centre centre_free r.code g

star_free : (singles roles : List RoleText) → is_star_round singles roles ≡ true → (u : Name) → NoWhile (codes (map first_thread roles) u)
star_free (centre ∷ []) roles h u = codes_free (fits_star centre.name) (star_role centre.name) roles h u
star_free [] roles h u = cc
star_free (a ∷ b ∷ more) roles h u = cc

simple_free : (P : Program) → is_simple P ≡ true → (u : Name) → NoWhile (codes (initial P).threads u)
simple_free P h u = go (is_straight P) refl h
  where
    go : (b : Bool) → is_straight P ≡ b → (b || is_star P) ≡ true → NoWhile (codes (initial P).threads u)
    go true e g = codes_free (λ r. not r.many && every (talks_to (λ u. true)) r.code) straight_role P.roles (both_true (has_no_loose P) (list_all (λ r. not r.many && every (talks_to (λ u. true)) r.code) P.roles) e).1 u
    go false e g = star_free (filter (λ r. not r.many) P.roles) P.roles (both_true (has_no_loose P) (is_star_round (filter (λ r. not r.many) P.roles) P.roles) g).1 u

is_spent : Searched → Bool
is_spent found.Spent = true
is_spent o = false

answers : (P : Program) (o : Driven) → DriveGoesOn P top o → answer P o ≢ found.Spent
unfolding is_spent
answers P (Reached w left) g e = true≢false (sym (ap is_spent e))
answers P (Stuck w ts left) g e = true≢false (sym (ap is_spent e))
answers P drive.Spent g e = g

-- the first state of a straight program or a star is fit
pub fit_at_first : (P : Program) → IsProgramWellTyped P → is_simple P ≡ true → Fit P (initial P)
fit_at_first P typed simple = record { tidy = first_tidy P typed; free = simple_free P simple }

-- straight programs and stars are never spent
pub never_spent : (P : Program) (budget : ℕ) → IsProgramWellTyped P → is_simple P ≡ true → searched P budget ≢ found.Spent
never_spent P budget typed simple =
    subst (λ b. answer P (passes b P budget) ≢ found.Spent) (sym simple)
    (answers P (first_pass P None) (drivers_go_on P (λ around t rest. side_of t rest) 256 0 refl nothing_follows top (initial P) (fit_at_first P typed simple)))
