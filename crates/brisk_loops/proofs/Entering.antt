-- Where the premise of a rule starts.
use Rattle.std.proofs.Common.{◌≡◌, ◌≢◌, Bool, true, false, cond, List, [], ◌∷◌, length, Option, Some, refl, sym, ap, ◌∙◌}
use Rattle.std.specs.Prelude.{zero, None, Ok, Err}
use Rattle.std.proofs.lemmas.Option.{same_Some}
use Rattle.brisk_values.specs.Names.{Name, same_name}
use Rattle.brisk_values.proofs.Changes.{exact_name}
use Rattle.brisk_syntax.specs.declared.program.Program.{Program}
use Rattle.brisk_syntax.specs.declared.tree.Stmt.{Stmt}
use Rattle.brisk_syntax.specs.Segments.{head_of}
use Rattle.brisk_syntax.specs.Statements.{statement_of, code_of}
use Rattle.brisk_syntax.specs.Syntax.{Expression, Statement, If, IfElse, While, Repeat, RecvAny, Code, done, ◌⨾◌}
use Rattle.brisk_facts.specs.Learning.{learn}
use Rattle.brisk_async.specs.Laws.{AnyReceive}
use Rattle.brisk_state.specs.declared.thread.Mode.{Mode}
use Rattle.brisk_state.specs.declared.thread.Mode.TheVariants.{One, At, Each}
use Rattle.brisk_state.specs.Symbolic.{Symbolic, thread_named, code_at, with_code, with_mode}
use Rattle.brisk_basic.specs.Basic.{at_thread}
use Rattle.brisk_basic.specs.Outcomes.{when, and_then, told_as}
use Rattle.brisk_basic.specs.Steps.{decided_by}
use Rattle.brisk_derivation.specs.declared.fault.SideFault.TheVariants.{SetIsFocused, MayBeEmpty}
use Rattle.brisk_derivation.specs.declared.steps.Fact.{Fact}
use Rattle.brisk_rules.specs.declared.why.Why.TheVariants.{Rule, Side}
use Rattle.brisk_loops.specs.EnterSeen.{StartsAt, SideAt, is_at}
use Rattle.brisk_rules.specs.Heads.{Fork, fork_of, while_of, repeat_of, any_of, gather_of, from_focus}
use Rattle.brisk_loops.specs.HeadsSeen.{fork_in, while_in, repeat_in, any_in, only_in, gather_in}
use Rattle.brisk_rules.specs.Rules.{Outcome, Entered, Parted, wanted, without_drops, side, entered_alone, entered_any, mode_of, is_nonempty, enter_branch, enter_while, enter_repeat, enter_gather, enter_pick}
use Rattle.brisk_rules.specs.Rules as rules

-- a thread that stands at such a code
pub at_code : {H A : Type 0} (S : Symbolic) (t : Name) (code : Code) (head : Code → Option H) (h : H) (go : H → Outcome A) → Some code ≡ code_at S t → head code ≡ Some h → rules.at_head S t head go ≡ go h
at_code S t code head h go at is =
    ap (λ (o : Option Code). and_then (told_as Rule (at_thread o (λ k. wanted (head k)))) go) (sym at) ∙ ap (λ o. and_then (told_as Rule (wanted o)) go) is

abbrev SideIs : Symbolic → Name → Expression → Bool → Code → Symbolic → Type 0
SideIs S t e truth code n = n ≡ record { threads = with_code t (decided_by truth code) S.threads; pending = S.pending; facts = learn t S.facts e truth }

abbrev parted : Symbolic → Name → Fork → Parted
parted S t f = record { first = side S t f.guard true f.first; second = side S t f.guard false f.second; owner = t; guard = f.guard }

side_of_fork : (S : Symbolic) (t : Name) (code : Code) (f : Fork) (truth : Bool) (n : Symbolic) → Some code ≡ code_at S t → fork_of code ≡ Some f → (decided_by true code ≡ f.first) → (decided_by false code ≡ f.second) → SideIs S t f.guard truth code n →
    SideAt truth (enter_branch S t) n
side_of_fork S t code f true n at is one two next = (parted S t f, at_code S t code fork_of f (λ f. Ok (parted S t f)) at is, sym (next ∙ (λ i. side S t f.guard true (one i))))
side_of_fork S t code f false n at is one two next = (parted S t f, at_code S t code fork_of f (λ f. Ok (parted S t f)) at is, sym (next ∙ (λ i. side S t f.guard false (two i))))

pub side_starts : (S : Symbolic) (t : Name) (code : Code) (e : Expression) (truth : Bool) (n : Symbolic) → Some code ≡ code_at S t → Some e ≡ fork_in (head_of code) → SideIs S t e truth code n → SideAt truth (enter_branch S t) n
side_starts S t (If f a ⨾ rest) e truth n at is next =
    side_of_fork S t (If f a ⨾ rest) _ truth n at refl refl refl (next ∙ (λ i. record S { threads = with_code t (decided_by truth (If f a ⨾ rest)) S.threads; facts = learn t S.facts (same_Some _ _ is i) truth }))
side_starts S t (IfElse f a b ⨾ rest) e truth n at is next =
    side_of_fork S t (IfElse f a b ⨾ rest) _ truth n at refl refl refl (next ∙ (λ i. record S { threads = with_code t (decided_by truth (IfElse f a b ⨾ rest)) S.threads; facts = learn t S.facts (same_Some _ _ is i) truth }))
side_starts S t code e truth n at is next = absurd cc

pub while_starts : (S : Symbolic) (t : Name) (drops : List Fact) (code : Code) (e : Expression) (b : Code) (n : Symbolic) → Some code ≡ code_at S t → Some (e, b) ≡ while_in (head_of code) →
    n ≡ record { threads = with_code t b S.threads; pending = S.pending; facts = learn t (without_drops drops S.facts) e true } → StartsAt (enter_while S t drops) n
while_starts S t drops (While f c ⨾ rest) e b n at is next = (
  entered_alone S t c rest (without_drops drops S.facts) (rules.While t f),
  at_code S t (While f c ⨾ rest) while_of _ (λ w. Ok (entered_alone S t w.body w.rest (without_drops drops S.facts) (rules.While t w.guard))) at refl,
  (λ i. record S { threads = with_code t (same_Some _ _ (sym is) i).1 S.threads; facts = learn t (without_drops drops S.facts) (same_Some _ _ (sym is) i).0 true }) ∙ sym next,
)
while_starts S t drops code e b n at is next = absurd cc

pub repeat_starts : (S : Symbolic) (t : Name) (drops : List Fact) (code : Code) (s : Name) (b : Code) (n : Symbolic) → Some code ≡ code_at S t → Some (s, b) ≡ repeat_in (head_of code) →
    n ≡ record { threads = with_code t b S.threads; pending = S.pending; facts = without_drops drops S.facts } → StartsAt (enter_repeat S t drops) n
repeat_starts S t drops (Repeat r zero c ⨾ rest) s b n at is next = (
  entered_alone S t c rest (without_drops drops S.facts) (rules.Repeat r),
  at_code S t (Repeat r zero c ⨾ rest) repeat_of _ (λ w. Ok (entered_alone S t w.body w.rest (without_drops drops S.facts) (rules.Repeat w.set))) at refl,
  (λ i. record S { threads = with_code t (same_Some _ _ (sym is) i).1 S.threads; facts = without_drops drops S.facts }) ∙ sym next,
)
repeat_starts S t drops code s b n at is next = absurd cc

-- a receive from any of a set that isn't in focus
open_set : {A : Type 0} (m : Option Mode) (x : Outcome A) → is_at m ≡ false → rules.not_focused m x ≡ x
open_set (Some At) x h = absurd cc
open_set (Some Each) x h = refl
open_set (Some One) x h = refl
open_set None x h = refl

focused_set : {A : Type 0} (m : Option Mode) (x : Outcome A) → is_at m ≡ true → rules.not_focused m x ≡ Err (Side SetIsFocused)
focused_set (Some At) x h = refl
focused_set (Some Each) x h = absurd cc
focused_set (Some One) x h = absurd cc
focused_set None x h = absurd cc

-- the receive, with what stands behind it
abbrev before_rest : AnyReceive → Code → AnyReceive
before_rest a rest = record a { rest = rest }

-- the code is at this receive, as a head tells
abbrev IsHeard : (Code → Option AnyReceive) → Code → AnyReceive → Type 0
IsHeard head code a = (rest : Code) × (head code ≡ Some (before_rest a rest))

pub any_heard : (code : Code) (a : AnyReceive) → Some a ≡ any_in (head_of code) → IsHeard any_of code a
any_heard (RecvAny c xs v s b ⨾ rest) a is = (rest, ap (λ (z : AnyReceive). Some (before_rest z rest)) (sym (same_Some _ _ is)))
any_heard code a is = absurd cc

over : (s r : Name) (c : Name) (xs : List Name) (v : Name) (b : Code) (a : AnyReceive) (x : Bool) → same_name s r ≡ x →
    Some a ≡ cond x (Some record { channel = c; variables = xs; binder = v; set = r; body = b; rest = done }) None → (x ≡ true) × (a ≡ record { channel = c; variables = xs; binder = v; set = r; body = b; rest = done })
over s r c xs v b a true e is = (refl, same_Some _ _ is)
over s r c xs v b a false e is = absurd cc

pub gather_heard : (code : Code) (a : AnyReceive) → Some a ≡ gather_in (head_of code) → IsHeard gather_of code a
gather_heard (Repeat s zero (RecvAny c xs v r b ⨾ done) ⨾ rest) a is =
    let h = over s r c xs v b a (same_name s r) refl is in (
      rest,
      (λ i. cond (h.0 i) (Some record { channel = c; variables = xs; binder = v; set = s; body = b; rest = rest }) None)
          ∙ (λ i. Some record { channel = c; variables = xs; binder = v; set = exact_name s r h.0 i; body = b; rest = rest }) ∙ ap (λ (z : AnyReceive). Some (before_rest z rest)) (sym h.1),
    )
gather_heard code a is = absurd cc

abbrev HearsAt : Symbolic → Name → List Fact → AnyReceive → Symbolic → Type 0
HearsAt S t drops a n = n ≡ record { threads = with_code t (from_focus a) (with_mode a.set At S.threads); pending = S.pending; facts = without_drops drops S.facts }

pub gather_starts : (S : Symbolic) (t : Name) (drops : List Fact) (code : Code) (a : AnyReceive) (n : Symbolic) → Some code ≡ code_at S t → Some a ≡ gather_in (head_of code) → is_at (mode_of (thread_named S.threads a.set)) ≡ false →
    HearsAt S t drops a n → StartsAt (enter_gather S t drops) n
gather_starts S t drops code a n at is free next =
    let h = gather_heard code a is in (
      entered_any S t (before_rest a h.0) drops (rules.Gather t a.set a.channel),
      at_code S t code gather_of (before_rest a h.0) (λ z. rules.not_focused (mode_of (thread_named S.threads z.set)) (Ok (entered_any S t z drops (rules.Gather t z.set z.channel)))) at h.1
          ∙ open_set (mode_of (thread_named S.threads a.set)) _ free,
      sym next,
    )

pub pick_starts : (P : Program) (S : Symbolic) (t : Name) (drops : List Fact) (code : Code) (a : AnyReceive) (n : Symbolic) → Some code ≡ code_at S t → Some a ≡ any_in (head_of code) → is_at (mode_of (thread_named S.threads a.set)) ≡ false →
    is_nonempty P a.set ≡ true → HearsAt S t drops a n → StartsAt (enter_pick P S t drops) n
pick_starts P S t drops code a n at is free some next =
    let h = any_heard code a is in (
      entered_any S t (before_rest a h.0) drops (rules.Pick a.set),
      at_code S t code any_of (before_rest a h.0) (λ z. rules.not_focused (mode_of (thread_named S.threads z.set)) (when (is_nonempty P z.set) (Side MayBeEmpty) (Ok (entered_any S t z drops (rules.Pick z.set))))) at h.1
          ∙ open_set (mode_of (thread_named S.threads a.set)) _ free ∙ (λ i. when (some i) (Side MayBeEmpty) (Ok (entered_any S t (before_rest a h.0) drops (rules.Pick a.set)))),
      sym next,
    )

-- and the refusals of these
pub gather_focused : (S : Symbolic) (t : Name) (drops : List Fact) (code : Code) (a : AnyReceive) → Some code ≡ code_at S t → Some a ≡ gather_in (head_of code) → is_at (mode_of (thread_named S.threads a.set)) ≡ true →
    enter_gather S t drops ≡ Err (Side SetIsFocused)
gather_focused S t drops code a at is full =
    let h = gather_heard code a is in
    at_code S t code gather_of (before_rest a h.0) (λ z. rules.not_focused (mode_of (thread_named S.threads z.set)) (Ok (entered_any S t z drops (rules.Gather t z.set z.channel)))) at h.1
    ∙ focused_set (mode_of (thread_named S.threads a.set)) _ full

pub pick_focused : (P : Program) (S : Symbolic) (t : Name) (drops : List Fact) (code : Code) (a : AnyReceive) → Some code ≡ code_at S t → Some a ≡ any_in (head_of code) → is_at (mode_of (thread_named S.threads a.set)) ≡ true →
    enter_pick P S t drops ≡ Err (Side SetIsFocused)
pick_focused P S t drops code a at is full =
    let h = any_heard code a is in
    at_code S t code any_of (before_rest a h.0) (λ z. rules.not_focused (mode_of (thread_named S.threads z.set)) (when (is_nonempty P z.set) (Side MayBeEmpty) (Ok (entered_any S t z drops (rules.Pick z.set))))) at h.1
    ∙ focused_set (mode_of (thread_named S.threads a.set)) _ full

pub pick_empty : (P : Program) (S : Symbolic) (t : Name) (drops : List Fact) (code : Code) (a : AnyReceive) → Some code ≡ code_at S t → Some a ≡ any_in (head_of code) → is_at (mode_of (thread_named S.threads a.set)) ≡ false →
    is_nonempty P a.set ≡ false → enter_pick P S t drops ≡ Err (Side MayBeEmpty)
pick_empty P S t drops code a at is free none =
    let h = any_heard code a is in
    at_code S t code any_of (before_rest a h.0) (λ z. rules.not_focused (mode_of (thread_named S.threads z.set)) (when (is_nonempty P z.set) (Side MayBeEmpty) (Ok (entered_any S t z drops (rules.Pick z.set))))) at h.1
    ∙ open_set (mode_of (thread_named S.threads a.set)) _ free ∙ (λ i. when (none i) (Side MayBeEmpty) (Ok (entered_any S t (before_rest a h.0) drops (rules.Pick a.set))))

-- more or fewer statements than one
two_only : (s t : Statement) (c : Code) → None ≡ only_in (s ⨾ t ⨾ c)
two_only (RecvAny d xs v r b) t c = refl
two_only s t c = refl

pub none_only : (xs : List Stmt) → (length xs ≢ 1) → None ≡ only_in (code_of xs)
none_only [] h = refl
none_only (x ∷ []) h = absurd (h refl)
none_only (x ∷ y ∷ xs) h = two_only (statement_of x) (statement_of y) (code_of xs)
