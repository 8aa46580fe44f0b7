-- Lists of items, one after another.
use Rattle.std.proofs.Common.{◌≡◌, refl, ap}
use Rattle.brisk_seq.specs.Items.{Items, nothing, ◌⨟◌, ◌followed_by◌}

pub followed_by-nothing : (a : Items) → a followed_by nothing ≡ a
followed_by-nothing nothing = refl
followed_by-nothing (q ⨟ a) = ap (λ b. q ⨟ b) (followed_by-nothing a)

pub followed_by_assoc : (a b c : Items) → (a followed_by b) followed_by c ≡ a followed_by (b followed_by c)
followed_by_assoc nothing b c = refl
followed_by_assoc (q ⨟ a) b c = ap (λ d. q ⨟ d) (followed_by_assoc a b c)
