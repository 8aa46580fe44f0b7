-- What the calls of a walk do, from what they call.
use Rattle.std.proofs.Common.{◌≡◌, ℕ, ◌+◌, List, [], ◌∷◌, ◌++◌, Option, Some, refl, sym, ap, ◌∙◌, subst, inl, inr}
use Rattle.std.specs.Prelude.{Result, Ok, Err, None, map, option_map}
use Rattle.std.proofs.lemmas.Option.{same_Some}
use Rattle.brisk_seq.specs.declared.tree.Seq.{Seq}
use Rattle.brisk_seq.specs.Items.{Item, Items, nothing, ◌⨟◌, ◌followed_by◌}
use Rattle.brisk_seq.specs.Seen.{item_of, items_of}
use Rattle.brisk_seq.proofs.Items.{followed_by-nothing}
use Rattle.brisk_state.specs.Symbolic.{Symbolic}
use Rattle.brisk_basic.specs.Basic.{Applied, apply}
use Rattle.brisk_basic.specs.Outcomes.{and_then, told_as}
use Rattle.brisk_basic.specs.Steps as basics
use Rattle.brisk_basic.specs.Steps.{fault_of}
use Rattle.brisk_basic.specs.declared.rule.Basic.{Basic}
use Rattle.brisk_basic.specs.declared.rule.RuleFault.{RuleFault}
use Rattle.brisk_basic.specs.declared.rule.RuleFault.TheVariants as basic_fault
use Rattle.brisk_derivation.specs.declared.fault.SideFault.{SideFault}
use Rattle.brisk_derivation.specs.declared.steps.BasicStep.{BasicStep}
use Rattle.brisk_rules.specs.declared.why.Why.TheVariants.{Rule}
use Rattle.brisk_rules.specs.Derives.{told_at, items_in, rule_of}
use Rattle.brisk_rules.specs.Following.{loose_fault}
use Rattle.brisk_rules.specs.Rules.{Outcome, fault_or}
use Rattle.brisk_loops.specs.Walk.{Walked, Called, line, follows, basic}
use Rattle.brisk_loops.specs.WalkKept.{kept}
use Rattle.brisk_loops.specs.WalkSeen.{Gives, Fails, told_by, told_first_by}

-- one item more
pub items_more : (xs : List Seq) (x : Seq) → items_of (xs ++ x ∷ []) ≡ items_of xs followed_by (item_of x ⨟ nothing)
items_more [] x = refl
items_more (y ∷ xs) x = ap (λ a. item_of y ⨟ a) (items_more xs x)

pub no_item_more : (xs : List Seq) → items_of xs ≡ items_of xs followed_by nothing
no_item_more xs = sym (followed_by-nothing (items_of xs))

-- what comes of a basic rule with its own tests alone
abbrev ran : Walked → Outcome Applied → Called
ran w x = and_then (told_at (line w) x) (λ z. Ok record w { state = z.next; items = w.items followed_by items_in z.statement; applied = w.applied + 1; counted = w.counted + 1 })

-- the fault of a basic rule on a loose channel
abbrev loosely : Walked → BasicStep → Option SideFault
loosely w b = loose_fault w.program (follows w.entered) w.state (rule_of b)

-- where it has none, a basic rule is as without the tests for loose channels
basic_quiet : (w : Walked) (b : BasicStep) → None ≡ loosely w b → basic w b ≡ ran w (told_as Rule (apply w.state (rule_of b)))
basic_quiet w b quiet = ap (ran w) (ap (λ o. and_then (told_as Rule (apply w.state (rule_of b))) (fault_or o)) (sym quiet) ∙ by (told_as Rule (apply w.state (rule_of b))))
  where
    by : (x : Outcome Applied) → and_then x (fault_or None) ≡ x
    by (Ok a) = refl
    by (Err why) = refl

-- a basic rule that is applied
basic_gives : (w : Walked) (b : BasicStep) (q : Option Seq) (S : Symbolic) → None ≡ loosely w b → basics.Gives (apply w.state (rule_of b)) q S →
    Gives (basic w b) record w { state = S; items = w.items followed_by items_in (option_map item_of q); applied = kept (w.applied + 1); counted = kept (w.counted + 1) }
basic_gives w b q S quiet e = (
  record w { state = S; items = w.items followed_by items_in (option_map item_of q); applied = w.applied + 1; counted = w.counted + 1 },
  basic_quiet w b quiet ∙ ap (λ (r : Result Applied RuleFault). ran w (told_as Rule r)) e,
  refl,
)

pub basic_ran : (w now : Walked) (b : BasicStep) (r : Basic) (q : Option Seq) (S : Symbolic) (X : Items) (a k : ℕ) → w ≡ now → r ≡ rule_of b → None ≡ loose_fault w.program (follows w.entered) w.state r → basics.Gives (apply w.state r) q S →
    X ≡ w.items followed_by items_in (option_map item_of q) → a ≡ kept (w.applied + 1) → k ≡ kept (w.counted + 1) → Gives (basic now b) record w { state = S; items = X; applied = a; counted = k }
basic_ran w now b r q S X a k same is quiet e items applied counted =
    subst (λ (z : Walked). Gives (basic z b) record w { state = S; items = X; applied = a; counted = k }) same
    (subst (Gives (basic w b)) (λ i. record w { state = S; items = sym items i; applied = sym applied i; counted = sym counted i })
    (basic_gives w b q S (quiet ∙ ap (loose_fault w.program (follows w.entered) w.state) is) (subst (λ (z : Basic). basics.Gives (apply w.state z) q S) is e)))

-- a basic rule that fails by its own test
own_fails : (w : Walked) (b : BasicStep) (why : RuleFault) → apply w.state (rule_of b) ≡ Err why → Fails (basic w b) (told_by w.counted why)
own_fails w b why e = elim why as (λ z. apply w.state (rule_of b) ≡ Err z → Fails (basic w b) (told_by w.counted z)) [
  | basic_fault.NoMemory ↦ λ f. tt
  | basic_fault.NoThread ↦ λ f. (w.counted + 2, call basic_fault.NoThread f, refl)
  | basic_fault.WrongHead ↦ λ f. (w.counted + 2, call basic_fault.WrongHead f, refl)
  | basic_fault.BoxInUse ↦ λ f. (w.counted + 2, call basic_fault.BoxInUse f, refl)
  | basic_fault.AlreadyPending ↦ λ f. (w.counted + 2, call basic_fault.AlreadyPending f, refl)
  | basic_fault.NothingPending ↦ λ f. (w.counted + 2, call basic_fault.NothingPending f, refl)
  | basic_fault.NotKnown ↦ λ f. (w.counted + 2, call basic_fault.NotKnown f, refl)
] e
  where
    call : (why : RuleFault) → apply w.state (rule_of b) ≡ Err why → basic w b ≡ Err record { line = line w; why = Rule why }
    call why e = ap (λ (x : Result Applied RuleFault). ran w (and_then (told_as Rule x) (fault_or (loosely w b)))) e

pub basic_fails : (w now : Walked) (b : BasicStep) (r : Basic) (why : RuleFault) → w ≡ now → r ≡ rule_of b → basics.Fails (apply w.state r) why → Fails (basic now b) (told_by w.counted why)
basic_fails w now b r why same is (inl e) = subst (λ (z : Walked). Fails (basic z b) (told_by w.counted why)) same (own_fails w b why (ap (λ (q : Basic). apply w.state q) (sym is) ∙ e))
basic_fails w now b r why same is (inr e) = subst (λ z. Fails (basic now b) (told_by w.counted z)) (sym e.0) tt

-- a basic rule that fails by a test for loose channels, unless its own tests fail
pub loosely_fails : (w now : Walked) (b : BasicStep) (r : Basic) (own : Option RuleFault) (fault : SideFault) → w ≡ now → r ≡ rule_of b → own ≡ fault_of (apply w.state r) → Some fault ≡ loose_fault w.program (follows w.entered) w.state r →
    Fails (basic now b) (told_first_by w.counted own fault)
loosely_fails w now b r own fault same is own_is loose =
    subst (λ (z : Walked). Fails (basic z b) (told_first_by w.counted own fault)) same
    (by own (apply w.state (rule_of b)) refl (own_is ∙ ap (λ (q : Basic). fault_of (apply w.state q)) is))
  where
    quiet : Some fault ≡ loosely w b
    quiet = loose ∙ ap (loose_fault w.program (follows w.entered) w.state) is

    by : (own : Option RuleFault) (x : Result Applied RuleFault) → apply w.state (rule_of b) ≡ x → own ≡ fault_of x → Fails (basic w b) (told_first_by w.counted own fault)
    by None (Ok a) e h = (w.counted + 2, ap (λ (x : Result Applied RuleFault). ran w (and_then (told_as Rule x) (fault_or (loosely w b)))) e ∙ ap (λ o. ran w (fault_or o a)) (sym quiet), refl)
    by (Some why) (Ok a) e h = absurd cc
    by None (Err why) e h = absurd cc
    by (Some why) (Err other) e h = own_fails w b why (e ∙ ap Err (sym (same_Some why other h)))

-- bodies whose items are seen alike are alike
abbrev as_items : List Item → Items
as_items [] = nothing
as_items (q ∷ qs) = q ⨟ as_items qs

items_by : (xs : List Seq) → items_of xs ≡ as_items (map item_of xs)
items_by [] = refl
items_by (x ∷ xs) = ap (λ a. item_of x ⨟ a) (items_by xs)

pub same_items : (xs ys : List Seq) → map item_of xs ≡ map item_of ys → items_of xs ≡ items_of ys
same_items xs ys h = items_by xs ∙ ap as_items h ∙ sym (items_by ys)
