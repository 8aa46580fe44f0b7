-- What a guard teaches a thread, as functions from variables.
use Rattle.std.proofs.Common.{◌≡◌, Bool, true, false, Option, Some, None, sym, ◌∙◌}
use Rattle.std.specs.Prelude.{not}
use Rattle.brisk_values.specs.declared.operation.Op1.TheVariants.{Not}
use Rattle.brisk_values.specs.declared.operation.Op2.TheVariants.{Eq, Ne, And, Or}
use Rattle.brisk_values.specs.declared.value.Value.{Value}
use Rattle.brisk_values.specs.declared.value.Value.TheVariants as value
use Rattle.brisk_values.specs.Functions.{changed}
use Rattle.brisk_values.specs.Names.{Name, same_name}
use Rattle.brisk_syntax.specs.Syntax.{Expression, Var, Paren, Un, Bin}
use Rattle.brisk_facts.specs.Facts.{Facts, fact}
use Rattle.brisk_facts.specs.Learning.{variable_in, folded, learn, learn_equal}
use Rattle.brisk_sound.proofs.Lookups.{again, one_value}
use Rattle.brisk_sound.proofs.Loops.{facts_back}
use Rattle.brisk_rules.proofs.Readings.{learnt, learnt_equal}

equal_reads : (t : Name) (F : Facts) (x : Option Name) (w : Option Value) (y : Option Name) (v : Option Value) →
    fact (learn_equal t F x w y v) ≡ changed same_name (fact F) t (learnt_equal (fact F t) x w y v)
equal_reads t F (Some x) (Some w) y v = one_value t x (Some w) F
equal_reads t F (Some x) None (Some y) (Some v) = one_value t y (Some v) F
equal_reads t F (Some x) None (Some y) None = sym (facts_back (fact F) t)
equal_reads t F (Some x) None None v = sym (facts_back (fact F) t)
equal_reads t F None w (Some y) (Some v) = one_value t y (Some v) F
equal_reads t F None w (Some y) None = sym (facts_back (fact F) t)
equal_reads t F None w None v = sym (facts_back (fact F) t)

-- what is learnt at a thread changes what is known of this thread alone
pub learn_reads : (t : Name) (e : Expression) (b : Bool) (F : Facts) → fact (learn t F e b) ≡ changed same_name (fact F) t (learnt (fact F t) e b)
learn_reads t (Var x) b F = one_value t x (Some (value.Bool b)) F
learn_reads t (Paren e) b F = learn_reads t e b F
learn_reads t (Un Not e) b F = learn_reads t e (not b) F
learn_reads t (Bin And e f) true F =
    learn_reads t f true (learn t F e true) ∙ again F (learn t F e true) t (learnt (fact F t) e true) (λ g. learnt g f true) (learn_reads t e true F)
learn_reads t (Bin Or e f) false F =
    learn_reads t f false (learn t F e false) ∙ again F (learn t F e false) t (learnt (fact F t) e false) (λ g. learnt g f false) (learn_reads t e false F)
learn_reads t (Bin Eq e f) true F = equal_reads t F (variable_in e) (folded F t f) (variable_in f) (folded F t e)
learn_reads t (Bin Ne e f) false F = equal_reads t F (variable_in e) (folded F t f) (variable_in f) (folded F t e)
learn_reads t e b F = sym (facts_back (fact F) t)
