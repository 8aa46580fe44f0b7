use Rattle.std.proofs.Common.{None}
use Rattle.brisk_types.proofs.globals.globals.Goals as goal

pub returns : goal.returns
returns c = λ i own. record {
  is_enum = λ e. c.in_ok-known.ensures e i;
  is_tag = λ e t. c.in_ok-tags.ensures e t i;
  kinds_on = λ n. c.in_ok-by_name.ensures n i;
  is_set = λ s. c.in_ok-sets.ensures s i;
  is_single = λ s. c.in_ok-singles.ensures s i;
  place = λ n. c.requires n i;
  own = own;
  kind_of_variable = λ x. None;
}
