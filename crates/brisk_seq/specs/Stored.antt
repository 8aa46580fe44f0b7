-- How sequential programs are kept by proofs: as trees of numbers, of which each stands for one program.
use Rattle.std.specs.Prelude.{◌≡◌, refl}
use Rattle.std.proofs.Common.{ap}
use Rattle.std.specs.Coded.{Coded, coded_ℕ}
use base.Stored.{Gv, gnil, gnum, gcons}
use Rattle.brisk_values.specs.Places.{coded_name}
use Rattle.brisk_syntax.specs.Stored.{coded_expression, coded_expressions, coded_names, first, second}
use Rattle.brisk_seq.specs.Items.{Item, Pass, Fill, Take, If, While, For, ForAny, Pick, Repeat, Items, nothing, ◌⨟◌}

abbrev mutual
  pub item_stored : Item → Gv
  item_stored (Pass to xs from es) = gcons (gnum 0) (gcons (coded_name.code to) (gcons (coded_names.code xs) (gcons (coded_name.code from) (coded_expressions.code es))))
  item_stored (Fill n from to es) = gcons (gnum 1) (gcons (gnum n) (gcons (coded_name.code from) (gcons (coded_name.code to) (coded_expressions.code es))))
  item_stored (Take to xs n from) = gcons (gnum 2) (gcons (coded_name.code to) (gcons (coded_names.code xs) (gcons (gnum n) (coded_name.code from))))
  item_stored (If p e a b) = gcons (gnum 3) (gcons (coded_name.code p) (gcons (coded_expression.code e) (gcons (items_stored a) (items_stored b))))
  item_stored (While p e b) = gcons (gnum 4) (gcons (coded_name.code p) (gcons (coded_expression.code e) (items_stored b)))
  item_stored (For s b) = gcons (gnum 5) (gcons (coded_name.code s) (items_stored b))
  item_stored (ForAny s b) = gcons (gnum 6) (gcons (coded_name.code s) (items_stored b))
  item_stored (Pick s b) = gcons (gnum 7) (gcons (coded_name.code s) (items_stored b))
  item_stored (Repeat s b) = gcons (gnum 8) (gcons (coded_name.code s) (items_stored b))

  pub items_stored : Items → Gv
  items_stored nothing = gnil
  items_stored (q ⨟ b) = gcons (item_stored q) (items_stored b)

abbrev at1 : Gv → Gv
at1 g = first (second g)

abbrev at2 : Gv → Gv
at2 g = first (second (second g))

abbrev at3 : Gv → Gv
at3 g = first (second (second (second g)))

abbrev from2 : Gv → Gv
from2 g = second (second g)

abbrev from3 : Gv → Gv
from3 g = second (second (second g))

abbrev from4 : Gv → Gv
from4 g = second (second (second (second g)))

mutual
  pub same_item : (x y : Item) → item_stored x ≡ item_stored y → x ≡ y
  same_item (Pass t xs f es) (Pass u ys g fs) p = λ i. Pass (coded_name.inj t u (ap at1 p) i) (coded_names.inj xs ys (ap at2 p) i) (coded_name.inj f g (ap at3 p) i) (coded_expressions.inj es fs (ap from4 p) i)
  same_item (Fill n f t es) (Fill m g u fs) p = λ i. Fill (coded_ℕ.inj n m (ap at1 p) i) (coded_name.inj f g (ap at2 p) i) (coded_name.inj t u (ap at3 p) i) (coded_expressions.inj es fs (ap from4 p) i)
  same_item (Take t xs n f) (Take u ys m g) p = λ i. Take (coded_name.inj t u (ap at1 p) i) (coded_names.inj xs ys (ap at2 p) i) (coded_ℕ.inj n m (ap at3 p) i) (coded_name.inj f g (ap from4 p) i)
  same_item (If t e a c) (If u f b d) p = λ i. If (coded_name.inj t u (ap at1 p) i) (coded_expression.inj e f (ap at2 p) i) (same_items a b (ap at3 p) i) (same_items c d (ap from4 p) i)
  same_item (While t e a) (While u f b) p = λ i. While (coded_name.inj t u (ap at1 p) i) (coded_expression.inj e f (ap at2 p) i) (same_items a b (ap from3 p) i)
  same_item (For s a) (For t b) p = λ i. For (coded_name.inj s t (ap at1 p) i) (same_items a b (ap from2 p) i)
  same_item (ForAny s a) (ForAny t b) p = λ i. ForAny (coded_name.inj s t (ap at1 p) i) (same_items a b (ap from2 p) i)
  same_item (Pick s a) (Pick t b) p = λ i. Pick (coded_name.inj s t (ap at1 p) i) (same_items a b (ap from2 p) i)
  same_item (Repeat s a) (Repeat t b) p = λ i. Repeat (coded_name.inj s t (ap at1 p) i) (same_items a b (ap from2 p) i)
  same_item x y p = cc

  pub same_items : (x y : Items) → items_stored x ≡ items_stored y → x ≡ y
  same_items nothing nothing p = refl
  same_items (q ⨟ a) (r ⨟ b) p = λ i. same_item q r (ap first p) i ⨟ same_items a b (ap second p) i
  same_items x y p = cc

abbrev pub coded_items : Coded Items
coded_items = record { code = items_stored; inj = same_items }
