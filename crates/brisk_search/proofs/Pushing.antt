-- What comes of tries that fail: each rule is told once, and what is told of it holds.
use Rattle.std.proofs.Common.{◌≡◌, ℕ, zero, suc, ◌+◌, Bool, true, false, List, [], ◌∷◌, Option, Some, None, refl, sym, ap, ◌∙◌, true≢false}
use Rattle.std.specs.Prelude.{Ok, Err, ◌&&◌, not, nat_lt, if◌then◌else◌, is_some, is_none}
use Rattle.std.specs.List.{list_any}
use Rattle.brisk_values.specs.Names.{Name}
use Rattle.brisk_values.proofs.Changes.{name_laws}
use Rattle.brisk_syntax.specs.declared.program.Program.{Program}
use Rattle.brisk_syntax.specs.Syntax.{Code}
use Rattle.brisk_seq.specs.Items.{nothing, ◌⨟◌}
use Rattle.brisk_facts.specs.Facts.{common}
use Rattle.brisk_state.specs.Same.{same_code}
use Rattle.brisk_basic.specs.Outcomes.{when}
use Rattle.brisk_state.specs.Symbolic.{Symbolic, same_but_facts}
use Rattle.brisk_derivation.specs.declared.fault.SideFault.{SideFault}
use Rattle.brisk_derivation.specs.declared.fault.SideFault.TheVariants as side
use Rattle.brisk_derivation.specs.declared.steps.Fact.{Fact}
use Rattle.brisk_derivation.specs.Reports.{Tried, TryEnd, Fails, StuckFirst, StuckSecond, Tries}
use Rattle.brisk_derivation.specs.Steps.{Branch, Steps, no_steps}
use Rattle.brisk_rules.specs.declared.why.Why.{Why}
use Rattle.brisk_rules.specs.declared.why.Why.TheVariants.{Rule as BasicFault, Side}
use Rattle.brisk_rules.specs.Derives.{nested}
use Rattle.brisk_rules.specs.Rules.{looks, around, Outcome, Entered, Parted, close, enter_branch}
use Rattle.brisk_rules.specs.Standing.{focus_of, stands_at, has_code, owners_of, fault_aside, candidates}
use Rattle.brisk_rules.specs.Reports.{is_fault, moves, all_told, all_hold, try_holds, loop_holds, branch_holds, same_fault, is_failed, after_head}
use Rattle.brisk_rules.specs.Following.{Follow}
use Rattle.brisk_search.specs.Turns.{RulesLeft, Failures, Turn, Goes, Stays, Attempt, stay, due}
use Rattle.brisk_search.specs.Turns as turn
use Rattle.brisk_search.specs.Drives.{Drive, Way, Driven, Reached, Stuck, Driver, or_others, must_end, premise_of, side_of}
use Rattle.brisk_search.specs.Drives as drive
use Rattle.brisk_search.specs.Tries.{Rule, entered, refused, told, end_of, closed, driven, once, tries, nine_tries, at_risk, with_lost, joined, second_driven, first_driven, branch}
use Rattle.brisk_search.proofs.Heads.{IsRule, is_while, is_for, is_repeat, is_gather, is_pick}
use Rattle.brisk_search.proofs.Ways.{LeadsAlong}

-- what holds where a turn stays
abbrev pub WhereStays : (Failures → Type 0) → Turn → Type 0
WhereStays A (Goes step items next left) = Unit {0}
WhereStays A (Stays failures left) = A failures
WhereStays A turn.Spent = Unit {0}

pub fault_itself : (why : SideFault) → same_fault why why ≡ true
fault_itself side.TooDeep = refl
fault_itself side.SetIsFocused = refl
fault_itself side.MayBeEmpty = refl
fault_itself (side.OwnerUnfinished t) = name_laws.refl t
fault_itself (side.NotRestored t) = name_laws.refl t
fault_itself side.MailChanged = refl
fault_itself side.FactLost = refl
fault_itself side.MailLeft = refl
fault_itself side.NotQuiet = refl
fault_itself side.BranchesDiffer = refl
fault_itself (side.Unfinished t) = name_laws.refl t
fault_itself side.ManyPending = refl
fault_itself side.SenderNotQuiet = refl

module _ (P : Program) (deep : ℕ) (F : Follow) where
  -- A try of a rule with one premise that stays is told, as holds; or the rule has no such thread, or no such head.
  pub data Pushes (S : Symbolic) (rule : Rule) (fs : Failures) : Failures → Type 0 where
    pushes : (drops : List Fact) (a : Steps) (end : TryEnd) → try_holds P deep F S (Tried (rule.step drops a) end) ≡ true → Pushes S rule fs ((rule.at, Tried (rule.step drops a) end) ∷ fs)
    refuses : (drops : List Fact) (why : _) → rule.enter drops ≡ Err (BasicFault why) → Pushes S rule fs fs

  -- the same for a branch
  pub data Parts (S : Symbolic) (t : Name) (fs : Failures) : Failures → Type 0 where
    pushes : (a b : Steps) (end : TryEnd) → try_holds P deep F S (Tried (Branch t a b) end) ≡ true → Parts S t fs ((t, Tried (Branch t a b) end) ∷ fs)
    refuses : (why : _) → enter_branch S t ≡ Err (BasicFault why) → Parts S t fs fs

  -- the try of a rule with one premise holds as its end says
  pub holds_by : (S : Symbolic) (rule : Rule) → IsRule P F S rule → (drops : List Fact) (a : Steps) (end : TryEnd) →
      try_holds P deep F S (Tried (rule.step drops a) end) ≡ loop_holds P deep rule.follows (nested deep (rule.enter drops)) a end
  holds_by S rule (is_while t) drops a end = refl
  holds_by S rule (is_for t s ts busy) drops a end = refl
  holds_by S rule (is_repeat t) drops a end = refl
  holds_by S rule (is_gather t) drops a end = refl
  holds_by S rule (is_pick t) drops a end = refl

  -- in a stuck premise nothing goes on; where its owners are at their end, no candidate does
  pub record PremiseStuck (G : Follow) (r : Entered) (E : Symbolic) (ts : Tries) : Type 0 where
    pub waits : (premise_of r).goal E ≡ false
    pub all : list_any (has_code E) (must_end r) ≡ true → all_told P G false E ts ≡ true
    pub some : list_any (has_code E) (must_end r) ≡ false → list_any (moves P G E) (candidates r E) ≡ false
    pub hold : all_hold P (deep + 1) G E ts ≡ true

  owners_end : (f : Name → Bool) (ts more : List Name) → list_any f (or_others ts more) ≡ false → list_any f ts ≡ false
  owners_end f [] more e = refl
  owners_end f (t ∷ ts) more e = e

  failing : (G : Follow) (r : Entered) (E : Symbolic) (ts : Tries) (why : SideFault) → PremiseStuck G r E ts → list_any (has_code E) (must_end r) ≡ false → fault_aside r E ≡ Some why → is_failed P G r why E ≡ true
  failing G r E ts why g e h =
      λ i. not (owners_end (has_code E) (owners_of r) (focus_of (looks r.kind)) e i) && (ap (λ f. is_fault f why) h ∙ fault_itself why) i && not (g.some e i)

  -- how a stuck premise is told
  ends : (G : Entered → Follow) (r : Entered) (w : Way) (ts : Tries) → LeadsAlong P (deep + 1) (G r) r.start w → PremiseStuck (G r) r w.end ts →
      (b : Bool) → list_any (has_code w.end) (must_end r) ≡ b → (f : Option SideFault) → fault_aside r w.end ≡ f → loop_holds P deep G (Ok r) w.steps (told (if b then None else f) ts) ≡ true
  ends G r w ts leads g true e f h = let (end, l) = leads 2 in rw l (λ i. g.all e i && g.hold i)
  ends G r w ts leads g false e (Some why) h = let (end, l) = leads 2 in rw l (failing (G r) r w.end ts why g e h)
  ends G r w ts leads g false e None h = absurd (true≢false (sym (λ i. not (e i) && is_none (h i)) ∙ g.waits))

  -- what drives that come to their ends, or are stuck
  abbrev pub PremiseTells : Follow → Entered → Driven → Type 0
  PremiseTells G r (Reached w left) = Unit {0}
  PremiseTells G r (Stuck w ts left) = LeadsAlong P (deep + 1) G r.start w × PremiseStuck G r w.end ts
  PremiseTells G r drive.Spent = Unit {0}

  -- what drives the premises of rules here tells what holds; or rules are nested too deep
  abbrev pub BelowTells : Option Driver → Follow → Entered → Type 0
  BelowTells None G r = nat_lt deep 256 ≡ false
  BelowTells (Some driver) G r = (nat_lt deep 256 ≡ true) × ((left : RulesLeft) → PremiseTells G r (driver G (premise_of r) r.start left))

  inside : {A : Type 0} (o : Outcome A) → nat_lt deep 256 ≡ true → nested deep o ≡ o
  inside o e = rw e refl

  too_deep : {A : Type 0} (o : Outcome A) → nat_lt deep 256 ≡ false → nested deep o ≡ Err (Side side.TooDeep)
  too_deep o e = rw e refl

  refusing : (S : Symbolic) (rule : Rule) → IsRule P F S rule → (drops : List Fact) → nat_lt deep 256 ≡ true → (why : Why) → rule.enter drops ≡ Err why → (fs : Failures) (left : RulesLeft) →
      WhereStays (Pushes S rule fs) (refused rule.at (rule.step drops no_steps) why fs left)
  refusing S rule is drops fits (Side why) e fs left =
      pushes drops no_steps (Fails why) (holds_by S rule is drops no_steps (Fails why) ∙ ap (λ o. loop_holds P deep rule.follows o no_steps (Fails why)) (inside (rule.enter drops) fits ∙ e) ∙ fault_itself why)
  refusing S rule is drops fits (BasicFault why) e fs left = refuses drops why e

  once_pushes : (S : Symbolic) (rule : Rule) → IsRule P F S rule → (below : Option Driver) → ((drops : List Fact) (r : Entered) → rule.enter drops ≡ Ok r → BelowTells below (rule.follows r) r) → (nat_lt deep 256 ≡ is_some below) →
      (again : Entered → Symbolic → Attempt) → (drops : List Fact) →
      ((driver : Driver) → below ≡ Some driver → (r : Entered) → rule.enter drops ≡ Ok r → (left left' : RulesLeft) (w : Way) → driver (rule.follows r) (premise_of r) r.start left ≡ Reached w left' → (why : Why) → close r w.end ≡ Err why → (fs : Failures) →
      WhereStays (Pushes S rule fs) (again r w.end fs left')) →
      (fs : Failures) (left : RulesLeft) → WhereStays (Pushes S rule fs) (once below again rule drops fs left)
  once_pushes S rule is None b fits again drops next fs left =
      pushes drops no_steps (Fails side.TooDeep) (holds_by S rule is drops no_steps (Fails side.TooDeep) ∙ ap (λ o. loop_holds P deep rule.follows o no_steps (Fails side.TooDeep)) (too_deep (rule.enter drops) fits))
  once_pushes S rule is (Some driver) b fits again drops next fs left = go (rule.enter drops) refl
    where
      closing : (r : Entered) (w : Way) (left' : RulesLeft) → ((why : Why) → close r w.end ≡ Err why → WhereStays (Pushes S rule fs) (again r w.end fs left')) → (o : Outcome Symbolic) → close r w.end ≡ o →
          WhereStays (Pushes S rule fs) (closed (again r w.end) (rule.step drops w.steps) (around r.kind w.items ⨟ nothing) o fs left')
      closing r w None h (Ok S') e = tt
      closing r w (Some zero) h (Ok S') e = tt
      closing r w (Some (suc n)) h (Ok S') e = tt
      closing r w left' h (Err why) e = h why e

      driving : (r : Entered) → rule.enter drops ≡ Ok r → (o : Driven) → driver (rule.follows r) (premise_of r) r.start left ≡ o → PremiseTells (rule.follows r) r o → WhereStays (Pushes S rule fs) (driven again rule drops r o fs)
      driving r e (Reached w left') d t = closing r w left' (λ why c. next driver refl r e left left' w d why c fs) (close r w.end) refl
      driving r e (Stuck w ts left') d (leads, stuck) =
          pushes drops w.steps (end_of r w.end ts) (
          holds_by S rule is drops w.steps (end_of r w.end ts)
          ∙ ap (λ o. loop_holds P deep rule.follows o w.steps (end_of r w.end ts)) (inside (rule.enter drops) fits ∙ e)
          ∙ ends rule.follows r w ts leads stuck (list_any (has_code w.end) (must_end r)) refl (fault_aside r w.end) refl
          )
      driving r e drive.Spent d t = tt

      go : (entry : Outcome Entered) → rule.enter drops ≡ entry →
          WhereStays (Pushes S rule fs) (entered (Some driver) entry (λ why. refused rule.at (rule.step drops no_steps) why fs left) (λ below r. driven again rule drops r (below (rule.follows r) (premise_of r) r.start left) fs))
      go (Ok r) e = driving r e (driver (rule.follows r) (premise_of r) r.start left) refl ((b drops r e).1 left)
      go (Err why) e = refusing S rule is drops fits why e fs left

  -- where the last try comes to its goal, it is closed
  abbrev pub LastCloses : Symbolic → Rule → Option Driver → Type 0
  LastCloses S rule below =
      (driver : Driver) → below ≡ Some driver → (r : Entered) → rule.enter (at_risk P S) ≡ Ok r → (left left' : RulesLeft) (w : Way) → driver (rule.follows r) (premise_of r) r.start left ≡ Reached w left' →
      (why : Why) → close r w.end ≡ Err why → ⊥

  module _ (S : Symbolic) (rule : Rule) (is : IsRule P F S rule) (below : Option Driver) (b : (drops : List Fact) (r : Entered) → rule.enter drops ≡ Ok r → BelowTells below (rule.follows r) r) (fits : nat_lt deep 256 ≡ is_some below)
      (last : LastCloses S rule below) where
    tries_push : (n : ℕ) (drops : List Fact) (fs : Failures) (left : RulesLeft) → WhereStays (Pushes S rule fs) (tries P below S rule n drops fs left)
    tries_push zero drops fs left = once_pushes S rule is below b fits (λ r E. stay) (at_risk P S) (λ driver h r e left left' w d why c fs. absurd (last driver h r e left left' w d why c)) fs left
    tries_push (suc n) drops fs left =
        once_pushes S rule is below b fits (λ r E. tries P below S rule n (with_lost P r E drops)) drops (λ driver h r e left left' w d why c fs. tries_push n (with_lost P r w.end drops) fs left') fs left

    pub nine_push : (fs : Failures) (left : RulesLeft) → WhereStays (Pushes S rule fs) (nine_tries P below S rule fs left)
    nine_push = tries_push 8 []

  -- what the drive of a branch's side comes to, whose owner is to stand at this code
  abbrev pub SideTells : Name → Code → Symbolic → Driven → Type 0
  SideTells t rest start (Reached w left) = LeadsAlong P (deep + 1) F start w × (same_code (stands_at w.end t) rest ≡ true)
  SideTells t rest start (Stuck w ts left) = LeadsAlong P (deep + 1) F start w × (all_told P F false w.end ts ≡ true) × (all_hold P (deep + 1) F w.end ts ≡ true)
  SideTells t rest start drive.Spent = Unit {0}

  abbrev pub SidesTell : Option Driver → Name → Code → Symbolic → Type 0
  SidesTell None t rest start = nat_lt deep 256 ≡ false
  SidesTell (Some driver) t rest start = (nat_lt deep 256 ≡ true) × ((left : RulesLeft) → SideTells t rest start (driver F (side_of t rest) start left))

  branch_is : (S : Symbolic) (t : Name) (a b : Steps) (end : TryEnd) (o : Outcome Parted) → nested deep (enter_branch S t) ≡ o →
      branch_holds P deep F t (after_head (stands_at S t)) o a b end ≡ true → try_holds P deep F S (Tried (Branch t a b) end) ≡ true
  branch_is S t a b end o e h = ap (λ z. branch_holds P deep F t (after_head (stands_at S t)) z a b end) e ∙ h

  module _ (S : Symbolic) (t : Name) (fits : nat_lt deep 256 ≡ true) (p : Parted) (e : enter_branch S t ≡ Ok p) where
    abbrev rest : Code
    rest = after_head (stands_at S t)

    parted : nested deep (enter_branch S t) ≡ Ok p
    parted = inside (enter_branch S t) fits ∙ e

    joining : (x y : Way) → SideTells t rest p.first (Reached x None) → SideTells t rest p.second (Reached y None) → (same : Bool) → same_but_facts x.end y.end ≡ same → (fs : Failures) (left : RulesLeft) →
        WhereStays (Parts S t fs) (joined t p x y (when same (Side side.BranchesDiffer) (Ok record x.end { facts = common x.end.facts y.end.facts })) fs left)
    joining x y g h true q fs None = tt
    joining x y g h true q fs (Some zero) = tt
    joining x y g h true q fs (Some (suc n)) = tt
    joining x y (gl, g) (hl, h) false q fs left =
        pushes x.steps y.steps (Fails side.BranchesDiffer) (
        branch_is S t x.steps y.steps (Fails side.BranchesDiffer) (Ok p) parted (
        let (i1, l) = gl 2 in let (i2, m) = hl 2 in rw l (rw m (λ i. g i && (h i && not (q i))))))

    second_side : (x : Way) → SideTells t rest p.first (Reached x None) → (o : Driven) → SideTells t rest p.second o → (fs : Failures) → WhereStays (Parts S t fs) (second_driven t p x o fs)
    second_side x g (Reached y left) h fs = joining x y g h (same_but_facts x.end y.end) refl fs left
    second_side x (gl, g) (Stuck y ts left) (hl, told, hold) fs =
        pushes x.steps y.steps (StuckSecond ts) (
        branch_is S t x.steps y.steps (StuckSecond ts) (Ok p) parted (let (i1, l) = gl 2 in let (i2, m) = hl 2 in rw l (rw m (λ i. g i && (told i && hold i)))))
    second_side x g drive.Spent h fs = tt

    first_side : (driver : Driver) → ((left : RulesLeft) → SideTells t rest p.second (driver F (side_of t rest) p.second left)) → (o : Driven) → SideTells t rest p.first o → (fs : Failures) →
        WhereStays (Parts S t fs) (first_driven driver F (side_of t rest) t p o fs)
    first_side driver b (Reached x left) g fs = second_side x g (driver F (side_of t rest) p.second left) (b left) fs
    first_side driver b (Stuck x ts left) (gl, told, hold) fs =
        pushes x.steps no_steps (StuckFirst ts) (branch_is S t x.steps no_steps (StuckFirst ts) (Ok p) parted (let (i1, l) = gl 2 in rw l (λ i. told i && hold i)))
    first_side driver b drive.Spent g fs = tt

  pub branch_pushes : (S : Symbolic) (t : Name) (below : Option Driver) → nat_lt deep 256 ≡ is_some below →
      ((p : Parted) → enter_branch S t ≡ Ok p → SidesTell below t (after_head (stands_at S t)) p.first × SidesTell below t (after_head (stands_at S t)) p.second) →
      (fs : Failures) (left : RulesLeft) → WhereStays (Parts S t fs) (branch below F (side_of t (after_head (stands_at S t))) S t fs left)
  branch_pushes S t None fits b fs left =
      pushes no_steps no_steps (Fails side.TooDeep) (branch_is S t no_steps no_steps (Fails side.TooDeep) (Err (Side side.TooDeep)) (too_deep (enter_branch S t) fits) refl)
  branch_pushes S t (Some driver) fits b fs left = go (enter_branch S t) refl
    where
      go : (entry : Outcome Parted) → enter_branch S t ≡ entry →
          WhereStays (Parts S t fs) (entered (Some driver) entry (λ why. refused t (Branch t no_steps no_steps) why fs left) (λ below p. first_driven below F (side_of t (after_head (stands_at S t))) t p (below F (side_of t (after_head (stands_at S t))) p.first left) fs))
      go (Ok p) e = let (f, g) = b p e in first_side S t fits p e driver g.1 (driver F (side_of t (after_head (stands_at S t))) p.first left) (f.1 left) fs
      go (Err (Side why)) e = pushes no_steps no_steps (Fails why) (branch_is S t no_steps no_steps (Fails why) (Err (Side why)) (inside (enter_branch S t) fits ∙ e) (fault_itself why))
      go (Err (BasicFault why)) e = refuses why e
