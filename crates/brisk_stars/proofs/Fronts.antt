-- What holds of the statements of code holds of those at its front.
use Rattle.std.proofs.Common.{◌≡◌, Bool, true, refl}
use Rattle.std.specs.Prelude.{◌&&◌}
use Rattle.brisk_values.proofs.Changes.{both_true, both_hold}
use Rattle.brisk_syntax.specs.Classes.{every}
use Rattle.brisk_syntax.specs.Syntax.{Statement, Code, done, ◌⨾◌, ◌then◌}
use Rattle.brisk_syntax.specs.WellTyped.{all_unbegun, is_unbegun}

pub every_front : (test : Statement → Bool) (a b : Code) → every test (a then b) ≡ true → every test a ≡ true
every_front test done b h = refl
every_front test (x ⨾ a) b h = let k = both_true (test x) (every test (a then b)) h in both_hold (test x) (every test a) k.0 (every_front test a b k.1)

pub unbegun_front : (a b : Code) → all_unbegun (a then b) ≡ true → all_unbegun a ≡ true
unbegun_front done b h = refl
unbegun_front (x ⨾ a) b h = let k = both_true (is_unbegun x) (all_unbegun (a then b)) h in both_hold (is_unbegun x) (all_unbegun a) k.0 (unbegun_front a b k.1)
