-- Lines of processes, one after another.
use Rattle.std.proofs.Common.{◌≡◌, ℕ, suc, ◌+◌, ◌-◌, ◌<◌, ◌++◌, ◌∷◌, List, length, drop, get_or, ap, sym, ◌∙◌, arith}
use Rattle.std.proofs.lemmas.List.{append_assoc, at_drop_more}
use Rattle.brisk_syntax.specs.declared.program.Role.{Role}
use Rattle.brisk_values.specs.declared.value.Pid.{Pid}
use Rattle.brisk_values.specs.Names.{member}
use Rattle.brisk_syntax.specs.Roles.{RoleText}
use Rattle.brisk_schedule.specs.Printing.{member_lines}

-- the lines of one member and then those of the later ones
pub next_member : (lines : RoleText → Pid → List ℕ) (r : RoleText) (k n : ℕ) → k < n →
    member_lines lines r k (n - k) ≡ lines r (member r.name k) ++ member_lines lines r (k + 1) (n - (k + 1))
next_member lines r k n less = let next : n - k ≡ suc (n - (k + 1)) = omega arith in ap (member_lines lines r k) next

-- what was written before one role, its own lines, and then those of the later roles
pub one_role_more : (lines : Role → List ℕ) (all : List Role → List ℕ) → ((r : Role) (rs : List Role) → all (r ∷ rs) ≡ lines r ++ all rs) →
    (items : List Role) (i : ℕ) (r : Role) (old new start whole : List ℕ) → i < length items → r ≡ get_or items i r → new ≡ old ++ lines r → old ++ all (drop i items) ≡ start ++ whole →
    new ++ all (drop (i + 1) items) ≡ start ++ whole
one_role_more lines all next items i r old new start whole less there written so_far =
    let later = drop (i + 1) items in
    ap (λ z. z ++ all later) written
    ∙ append_assoc old (lines r) (all later)
    ∙ ap (λ z. old ++ z) (sym (next r later) ∙ ap (λ z. all (z ∷ later)) there ∙ sym (at_drop_more all items i r less))
    ∙ so_far

-- what was written before one member, its own lines, and then those of the later members
pub one_member_more : (lines : RoleText → Pid → List ℕ) (r : RoleText) (k n : ℕ) (old new whole : List ℕ) → k < n → new ≡ old ++ lines r (member r.name k) →
    old ++ member_lines lines r k (n - k) ≡ whole → new ++ member_lines lines r (k + 1) (n - (k + 1)) ≡ whole
one_member_more lines r k n old new whole less written so_far =
    let later = member_lines lines r (k + 1) (n - (k + 1)) in
    ap (λ z. z ++ later) written
    ∙ append_assoc old (lines r (member r.name k)) later
    ∙ ap (λ z. old ++ z) (sym (next_member lines r k n less))
    ∙ so_far
