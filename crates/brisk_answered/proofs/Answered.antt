-- The search sequences a straight program, or the plain run at size one shows a deadlock.
use Rattle.std.proofs.Common.{◌≡◌, ◌⊎◌, inl, inr, ℕ, zero, suc, ◌+◌, ◌<◌, ◌≤◌, true, List, Some, None, refl, ap, ◌∙◌, subst, arith}
use Rattle.std.specs.Prelude.{◌||◌}
use Rattle.std.proofs.lemmas.Bool.{lt-ltb}
use Rattle.brisk_values.specs.Names.{Name}
use Rattle.brisk_values.proofs.Changes.{both_true}
use Rattle.brisk_syntax.specs.declared.program.Program.{Program}
use Rattle.brisk_syntax.specs.Classes.{has_no_loose, is_star}
use Rattle.brisk_syntax.specs.Counts.{program_statements}
use Rattle.brisk_async.specs.PlainRuns.{plain_instance, plain_schedule}
use Rattle.brisk_state.specs.Symbolic.{initial}
use Rattle.brisk_rules.specs.Derives.{sequential}
use Rattle.brisk_sound.proofs.Top.{sound}
use Rattle.brisk_rules.specs.Following.{nothing_follows}
use Rattle.brisk_sound.proofs.Strict.{IsStrict, none_loose}
use Rattle.brisk_search.specs.Drives.{top}
use Rattle.brisk_search.specs.Passes.{driver, enough, first_pass}
use Rattle.brisk_search.specs.Searched.{answer, passes, searched}
use Rattle.brisk_search.proofs.Valid.{rounds_lead, sequenced_is_valid}
use Rattle.brisk_search.proofs.Ways.{DriveLeads, DriverLeads}
use Rattle.brisk_answered.specs.Answered.{IsSequenced, IsRefused, NeverRefusedEmptily, DerivableExactly}
use Rattle.brisk_straight.proofs.Starts.{role_names, start_straightly}
use Rattle.brisk_straight.proofs.PlainFits.{plain_fits}
use Rattle.brisk_answered.proofs.Fuel.{enough_is}
use Rattle.brisk_answered.proofs.Rounds.{Ends, reached, waits, rounds_end}
use Rattle.brisk_answered.proofs.Sides.{own_sides}
use Rattle.brisk_straight.proofs.States.{left_in, IsStraightly, are_apart}
use Rattle.brisk_straight.proofs.Told.{stuck_is_told}
use Rattle.brisk_straight.proofs.Unfinished.{unfinished_has}

-- what drives in pass one goes by steps of a derivation
driver_leads : (P : Program) (n deep : ℕ) → n + deep ≡ 256 → DriverLeads P deep (driver P own_sides n)
driver_leads P zero deep e F d S left = rounds_lead deep record { program = P; below = None; side = own_sides d; follows = F } tt d (enough left S) S left
driver_leads P (suc n) deep e F d S left =
    rounds_lead deep record { program = P; below = Some (driver P own_sides n); side = own_sides d; follows = F }
    (lt-ltb deep 256 (omega (arith, e)), driver_leads P n (deep + 1) (omega (arith, e))) d (enough left S) S left

pub never_refused_emptily : NeverRefusedEmptily
never_refused_emptily P budget source = by (rounds_end P ns (program_statements P) few strict (enough None (initial P)) (initial P) start enough_rounds)
  where
    ns : List Name
    ns = role_names P.roles

    few : program_statements P < 1000000
    few = let h = source.statements in omega (arith, h)

    strict : IsStrict P
    strict = none_loose P.channels (both_true (has_no_loose P) _ source.straight).0

    start : IsStraightly (role_names P.roles) 256 (program_statements P) (initial P)
    start = start_straightly P source

    enough_rounds : left_in (initial P).threads + 1 ≤ enough None (initial P)
    enough_rounds = let fuel = enough_is (initial P) (are_apart (role_names P.roles) 256 (program_statements P) (initial P) start) in omega (arith, fuel)

    one_pass : searched P budget ≡ answer P (passes true P budget)
    one_pass = ap (λ b. answer P (passes (b || is_star P) P budget)) source.straight

    by : Ends P (role_names P.roles) (program_statements P) few strict (first_pass P None) → IsSequenced P budget ⊎ IsRefused P budget
    by (reached w is) = inl (w.steps, sequential P w.items, one_pass ∙ ap (answer P) is)
    by (waits w tries is st stuck goal) =
        let leads = subst (DriveLeads P 0 nothing_follows top (initial P)) is (driver_leads P 256 0 refl nothing_follows top (initial P) None) in
        let x = leads 2 in
        let has = unfinished_has (role_names P.roles) 256 (program_statements P) w.end.threads st.threads (are_apart (role_names P.roles) 256 (program_statements P) w.end st) goal in
        inr (
          record { steps = w.steps; tries = tries },
          one_pass ∙ ap (answer P) is,
          stuck_is_told P w.steps w.end source.typed source.tagged source.straight (let h = source.statements in omega (arith, h)) (record { items = w.items; state = w.end; line = x.0 }, x.1, refl) stuck has,
        )

pub derivable_exactly : DerivableExactly
derivable_exactly P source = (
  λ valid deadlocks. (sound P valid.0 valid.1 source.typed valid.2).never_deadlocked (plain_instance P 1) (plain_fits P 1 source.typed source.tagged (omega arith)) deadlocks.0 (plain_schedule P 1, deadlocks.1) deadlocks.2,
  λ none. elim (never_refused_emptily P 0 source) [
    | inl s ↦ (s.0, s.1, sequenced_is_valid P 0 s.0 s.1 s.2)
    | inr r ↦ absurd (none r.2)
  ],
)
