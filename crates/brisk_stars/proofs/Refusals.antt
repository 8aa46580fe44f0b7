-- Stars are never refused emptily: pass one ends at the end of all code, or with what a plain run shows.
use Rattle.std.proofs.Common.{◌≡◌, ◌⊎◌, inl, inr, Bool, true, false, List, [], ◌∷◌, filter, None, refl, ap, ◌∙◌}
use Rattle.std.specs.Prelude.{◌||◌, not}
use Rattle.brisk_values.proofs.Changes.{both_true}
use Rattle.brisk_syntax.specs.declared.program.Program.{Program}
use Rattle.brisk_syntax.specs.Classes.{has_no_loose, is_star, is_star_round, is_straight}
use Rattle.brisk_syntax.specs.Roles.{RoleText}
use Rattle.brisk_rules.specs.Derives.{sequential}
use Rattle.brisk_search.specs.Passes.{first_pass}
use Rattle.brisk_search.specs.Searched.{answer, passes, searched}
use Rattle.brisk_stars.specs.Sources.{IsCentre}
use Rattle.brisk_stars.specs.Stars.{IsRefused, IsSequenced, PassEnds, StarsAreNeverRefusedEmptily, reached, unserved, left_over}
use Rattle.brisk_stars.proofs.Ending.{unserved_stars_deadlock}
use Rattle.brisk_stars.proofs.Overtaken.{left_over_overtakes}
use Rattle.brisk_stars.proofs.Passes.{passes_end}
use Rattle.std.proofs.Math.Bool.{or-true}

-- a star has a centre
pub a_centre : (P : Program) → is_star P ≡ true → (r : RoleText) × IsCentre P r
a_centre P h = by (filter (λ (r : RoleText). not r.many) P.roles) refl (both_true (has_no_loose P) _ h).1
  where
    by : (rs : List RoleText) → filter (λ (r : RoleText). not r.many) P.roles ≡ rs → is_star_round rs P.roles ≡ true → (r : RoleText) × IsCentre P r
    by [] e g = cc
    by (r ∷ []) e g = (r, e)
    by (r ∷ (q ∷ rs)) e g = cc

pub stars_are_never_refused_emptily : StarsAreNeverRefusedEmptily
stars_are_never_refused_emptily P budget source = by (passes_end P c.0 source c.1)
  where
    c : (r : RoleText) × IsCentre P r
    c = a_centre P source.star

    one_pass : searched P budget ≡ answer P (first_pass P None)
    one_pass = ap (λ b. answer P (passes b P budget)) (ap (λ b. is_straight P || b) source.star ∙ or-true (is_straight P))

    by : PassEnds P c.0 → IsSequenced P budget ⊎ IsRefused P budget
    by (reached w is) = inl (w.steps, sequential P w.items, one_pass ∙ ap (answer P) is)
    by (unserved w tries is h) = inr (record { steps = w.steps; tries = tries }, one_pass ∙ ap (answer P) is, inl (unserved_stars_deadlock P c.0 source c.1 h))
    by (left_over w tries is h) = inr (record { steps = w.steps; tries = tries }, one_pass ∙ ap (answer P) is, inr (left_over_overtakes P c.0 source c.1 h))
