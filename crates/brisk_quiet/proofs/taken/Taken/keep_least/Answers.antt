use Rattle.std.proofs.Common.{min, rules, ap, ◌∙◌}
use Rattle.std.specs.Prelude.{unwrap_or}
use Rattle.std.specs.Ordering.{nat_cmp}
use Rattle.std.specs.Cmp.Lexicographic.{slice_cmp}
use Rattle.std.specs.BTreeMap.{is_at}
use Rattle.std.specs.Map.{lookup}
use Rattle.brisk_quiet.specs.Left.{taken_at}
use Rattle.brisk_quiet.proofs.Counted.{retained, least_at}
use Rattle.brisk_quiet.proofs.taken.Taken.keep_least.Goals as goal

pub returns : goal.returns
returns c =
    let kept = retained _ (λ k v. min v (taken_at c.args.other.now k)) _ (λ k v b w f' t. search rules) c.args.self.now.counts.entries c.retain.new.self.entries c.retain.ensures.filtered in
    λ i q. (ap (λ es. unwrap_or (lookup (is_at (slice_cmp nat_cmp q)) es) 0) kept ∙ least_at (taken_at c.args.other.now) q c.args.self.now.counts.entries) i
