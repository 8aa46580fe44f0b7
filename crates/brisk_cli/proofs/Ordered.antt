-- How a sequential program ends on choices.
use Rattle.std.proofs.Common.{◌≡◌, ℕ, ◌≤◌, List, Result, Ok, refl, sym, subst, arith}
use Rattle.brisk_values.specs.declared.instance.Instance.{Instance as Given}
use Rattle.brisk_values.specs.Names.{Name}
use Rattle.brisk_instance.specs.Given.{FitsAsGiven, instance_of}
use Rattle.brisk_instance.specs.Starting.{most_weight}
use Rattle.brisk_schedule.specs.Printing.{order_text}
use Rattle.brisk_seq.specs.Answers.{Causes}
use Rattle.brisk_seq.specs.declared.fault.SeqFault.{SeqFault}
use Rattle.brisk_seq.specs.declared.fault.SeqFault.TheVariants as fault
use Rattle.brisk_seq.specs.declared.tree.SeqProgram.{SeqProgram}
use Rattle.brisk_seq.specs.Running.{Tells}
use Rattle.brisk_seq.specs.Sequential.{Stop, seq}
use Rattle.brisk_syntax.specs.Roles.{RoleText}
use Rattle.brisk_syntax.specs.Stores.{Store}
use Rattle.brisk_syntax.specs.Tokens.{weight}
use Rattle.brisk_cli.specs.declared.status.Status.{Status}
use Rattle.brisk_cli.specs.declared.status.Status.TheVariants.{Done}
use Rattle.brisk_cli.specs.Files.{Text}
use Rattle.brisk_cli.specs.Orders.{OfEnd}

-- where the program halts its store is answered
pub halted : (sizes : Name → ℕ) (roles : List RoleText) (end : Result Store Stop) (store : Store) (s : Status) (t : Text) → end ≡ Ok store → s ≡ Done → t ≡ order_text sizes roles store → OfEnd sizes roles end s t
halted sizes roles end store s t is done text = subst (λ (e : Result Store Stop). OfEnd sizes roles e s t) (sym is) (done, text)

-- a program whose instance fits isn't refused as one whose doesn't
pub not_unfit : (Q : SeqProgram) (g : Given) (choices : List ℕ) (turns : ℕ) (f : SeqFault) → FitsAsGiven Q.enums Q.roles g → Causes Q g choices turns f → f ≡ fault.BadInstance → ⊥
not_unfit Q g choices turns f fits h is = subst (λ (f : SeqFault). Causes Q g choices turns f) is h fits

-- one whose instance is light isn't refused as too heavy
pub not_heavy : (Q : SeqProgram) (g : Given) (choices : List ℕ) (turns : ℕ) (f : SeqFault) → weight Q.roles (instance_of g) ≤ most_weight → Causes Q g choices turns f → f ≡ fault.TooLarge → ⊥
not_heavy Q g choices turns f light h is = let heavy = subst (λ (f : SeqFault). Causes Q g choices turns f) is h in omega (arith, light, heavy.1)

-- the fault of a program that could begin tells what stopped it
pub stops : (Q : SeqProgram) (g : Given) (choices : List ℕ) (turns : ℕ) (f : SeqFault) → (f ≡ fault.BadInstance → ⊥) → (f ≡ fault.TooLarge → ⊥) → Causes Q g choices turns f → Tells (seq Q (instance_of g) choices turns) f
stops Q g choices turns fault.BadInstance fits light h = absurd (fits refl)
stops Q g choices turns fault.TooLarge fits light h = absurd (light refl)
stops Q g choices turns fault.NoMemory fits light h = tt
stops Q g choices turns (fault.BadChoice k) fits light h = h.1
stops Q g choices turns fault.ChoicesLeft fits light h = h.1
stops Q g choices turns fault.Turns fits light h = h.1
stops Q g choices turns (fault.BadBox k) fits light h = h.1
