-- Where reading stops is the first token at fault, whatever the language is that is read.
use Rattle.std.proofs.Common.{◌≡◌, ◌⊎◌, inl, inr, ℕ, zero, suc, ◌-◌, ◌<◌, ◌≤◌, List, [], ◌∷◌, ◌++◌, length, Ok, Err, refl, sym, ap, subst, ◌∙◌, append_assoc, append-nil, length-append, arith}
use Rattle.std.proofs.lemmas.Bool.{cases_lt}
use Rattle.brisk_lex.specs.declared.token.Token.{Token}
use Rattle.brisk_parse.specs.declared.fault.Stop.{Stop}
use Rattle.brisk_parse.specs.declared.fault.Stop.TheVariants.{Syntax, TooDeep, TooMany, NoMemory}
use Rattle.brisk_parse.specs.Answers.{fault_at}
use Rattle.brisk_parse.specs.Declarations.{at_end, ended}
use Rattle.brisk_parse.specs.Faults.{Language, Begins, IsStuck, PassesLater, IsPassed, IsFault}
use Rattle.brisk_parse.specs.Input.{Input, at, first}
use Rattle.brisk_parse.specs.Limits.{Limits}
use Rattle.brisk_parse.specs.Outcomes.{Outcome, Parser}
use Rattle.brisk_parse.specs.Passing.{Passing, Nowhere, DeepAt, ManyAt}
use Rattle.brisk_parse.proofs.Enough.{AtLeast, Enough}
use Rattle.brisk_parse.proofs.Judged.{judged}
use Rattle.brisk_parse.proofs.Predictive.{any, plus, Family, Completes, Took, Passed, Rule, Shape, plus_more, plus-zero}
use Rattle.brisk_parse.proofs.PredictStatements.{slack}
use Rattle.brisk_parse.proofs.PredictPrograms.{at_last}

ok_err : {A : Type 0} (r : Outcome A) (x : A × Input) (d : Stop) → r ≡ Ok x → r ≡ Err d → ⊥
ok_err r x d h g = cc

ok_same : {A : Type 0} (r : Outcome A) (x y : A × Input) → r ≡ Ok x → r ≡ Ok y → x ≡ y
ok_same r x y h g = cc

no_cons : (t : Token) (k : List Token) → t ∷ k ≡ [] → ⊥
no_cons t k h = cc

plus_least : (n m : ℕ) → n ≤ plus n m
plus_least zero m = omega arith
plus_least (suc n) m = omega (arith, plus_least n m)

at_least : (l : Limits) (m : ℕ) → AtLeast m (slack l m)
at_least l m = record {
  tokens = plus_more l.tokens m;
  places = plus_more l.places m;
  kinds = plus_more l.kinds m;
  tags = plus_more l.tags m;
  declarations = plus_more l.declarations m;
  enums = plus_more l.enums m;
  channels = plus_more l.channels m;
  roles = plus_more l.roles m;
  statements = plus_more l.statements m;
  nesting = plus_more l.nesting m;
}

slack-zero : (l : Limits) → slack l 0 ≡ l
slack-zero l = λ i. record {
  tokens = plus-zero l.tokens i;
  places = plus-zero l.places i;
  kinds = plus-zero l.kinds i;
  tags = plus-zero l.tags i;
  declarations = plus-zero l.declarations i;
  enums = plus-zero l.enums i;
  channels = plus-zero l.channels i;
  roles = plus-zero l.roles i;
  statements = plus-zero l.statements i;
  nesting = plus-zero l.nesting i;
}

place_of : (front rest tokens : List Token) (left : ℕ) → tokens ≡ front ++ rest → left ≡ length rest → length front ≡ length tokens - left
place_of front rest tokens left e f = omega (arith, ap length e, length-append front rest, f)

-- what a stop tells of where a limit is passed
judged_deep : {A : Type 0} (p : Passing) (i : List Token) (x : A × Input) (n : ℕ) → judged p i (Ok x) ≡ Err (TooDeep n) → 1 ≤ n → p ≡ DeepAt (length i - n)
judged_deep Nowhere i x n h le = absurd cc
judged_deep (DeepAt k) i x n h le = let e : length i - k ≡ n = cc in ap (λ k. DeepAt k) (omega (arith, e, le))
judged_deep (ManyAt k) i x n h le = absurd cc

judged_many : {A : Type 0} (p : Passing) (i : List Token) (x : A × Input) (n : ℕ) → judged p i (Ok x) ≡ Err (TooMany n) → 1 ≤ n → p ≡ ManyAt (length i - n)
judged_many Nowhere i x n h le = absurd cc
judged_many (DeepAt k) i x n h le = absurd cc
judged_many (ManyAt k) i x n h le = let e : length i - k ≡ n = cc in ap (λ k. ManyAt k) (omega (arith, e, le))

same_tail : (x y : Token) (k l : List Token) → x ∷ k ≡ y ∷ l → (x ≡ y) × (k ≡ l)
same_tail x y k l h = (cc, cc)

-- of two beginnings of one list the shorter begins the longer
longer : (front more before rest : List Token) (t : Token) → front ++ more ≡ before ++ (t ∷ rest) → length before < length front → (z : List Token) × (front ≡ before ++ (t ∷ z))
longer [] more before rest t e lt = absurd (omega (arith, lt))
longer (x ∷ front) more [] rest t e lt = (front, ap (λ u. u ∷ front) (same_tail x t (front ++ more) rest e).0)
longer (x ∷ front) more (y ∷ before) rest t e lt =
    let same = same_tail x y (front ++ more) (before ++ (t ∷ rest)) e in
    let found = longer front more before rest t same.1 (omega (arith, lt)) in
    (found.0, λ i. same.0 i ∷ found.1 i)

-- trees that are read just as they are spelled, where they are levelled and within the limits
module _ (Tree : Type 0) (spelling : Tree → List Token) (Levelled : Tree → Type 0) (Within : Limits → Tree → Type 0) (used : Tree → ℕ) (whole : Limits → Parser Tree)
    (enough : (P : Tree) → Enough (λ l. Within l P))
    (only : (l : Limits) (P : Tree) → Levelled P → Within l P → whole l (at (spelling P) 0 l.statements) ≡ Ok (P, at [] 0 (l.statements - used P)))
    (found : (l : Limits) (i : Input) (P : Tree) (j : Input) → whole l i ≡ Ok (P, j) → (i.rest ≡ spelling P ++ j.rest) × Levelled P)
    (rule : (l : Limits) → Rule any (λ m. whole (slack l m)) at_last)
    (passing : Limits → Tree → Passing)
    (whole_judged : (l : Limits) (P : Tree) → Levelled P → whole l (at (spelling P) 0 l.statements) ≡ judged (passing l P) (spelling P) (Ok (P, at [] 0 (l.statements - used P))))
    (l : Limits) where
  abbrev trees : Language
  trees = record { Tree = Tree; spelling = spelling; Levelled = Levelled; passing = passing l }

  abbrev top : Family Tree
  top m = whole (slack l m)

  -- a tree is read under limits that are great enough
  record IsRead (P : Tree) (i : List Token) : Type 0 where
    slack : ℕ
    left : ℕ
    is : top slack (at i 0 (plus l.statements slack)) ≡ Ok (P, at [] 0 left)

  reads_tree : (P : Tree) (i : List Token) → Levelled P → spelling P ≡ i → IsRead P i
  reads_tree P i levelled e =
      let some = enough P in
      let n = some.bound in
      record {
        slack = n;
        left = plus l.statements n - used P;
        is = ap (λ z. top n (at z 0 (plus l.statements n))) (sym e) ∙ only (slack l n) P levelled (some.holds (slack l n) (at_least l n));
      }

  -- what is read under any limits is a tree
  begins : (m r n : ℕ) (front more : List Token) (P : Tree) (j : Input) → top m (at (front ++ more) r n) ≡ Ok (P, j) → j.rest ≡ [] → Begins trees front
  begins m r n front more P j h g =
      let f = found (slack l m) (at (front ++ more) r n) P j h in
      record { tree = P; more = more; levelled = f.1; spelled = sym (f.0 ∙ ap (λ z. spelling P ++ z) g ∙ append-nil (spelling P)) }

  completes : (i : Input) (front : List Token) (G : List Token → Type 0) → Completes G top at_last front → Begins trees front
  completes i front G s =
      let r = s.reads s.bound s.bound s.bound [] (omega arith) (omega arith) (omega arith) refl in
      begins s.bound s.bound s.bound front (s.more ++ []) s.value (at [] r.room r.statements) r.is refl

  refused_stuck : (n : ℕ) (front rest : List Token) → n ≤ l.statements → ((m r c : ℕ) (k : List Token) → 0 ≤ r → n ≤ c → first k ≡ first rest → top m (at (front ++ k) r c) ≡ Err (Syntax (length k))) → IsStuck trees front rest
  refused_stuck n front [] le again = λ p.
      let r = reads_tree p.tree front p.levelled p.spelled in
      let bad : top r.slack (at front 0 (plus l.statements r.slack)) ≡ Err (Syntax 0) = ap (λ z. top r.slack (at z 0 (plus l.statements r.slack))) (sym (append-nil front)) ∙ again r.slack 0 (plus l.statements r.slack) [] (omega arith) (omega (arith, le, plus_least l.statements r.slack)) refl in
      ok_err (top r.slack (at front 0 (plus l.statements r.slack))) (p.tree, at [] 0 r.left) (Syntax 0) r.is bad
  refused_stuck n front (t ∷ rest) le again = λ b.
      let r = reads_tree b.tree (front ++ (t ∷ b.more)) b.levelled (b.spelled ∙ append_assoc front (t ∷ []) b.more) in
      let bad = again r.slack 0 (plus l.statements r.slack) (t ∷ b.more) (omega arith) (omega (arith, le, plus_least l.statements r.slack)) refl in
      ok_err (top r.slack (at (front ++ (t ∷ b.more)) 0 (plus l.statements r.slack))) (b.tree, at [] 0 r.left) (Syntax (length (t ∷ b.more))) r.is bad

  -- more than a tree is no beginning of one
  took_stuck : (i : Input) (x : Tree) (t : Token) (rest : List Token) (room statements : ℕ) (s : Took any top at_last i x (at (t ∷ rest) room statements)) → i.room ≡ 0 → i.statements ≤ l.statements → Begins trees (s.text ++ t ∷ []) → ⊥
  took_stuck i x t rest room statements s e le b =
      let r = reads_tree b.tree (s.text ++ (t ∷ b.more)) b.levelled (b.spelled ∙ append_assoc s.text (t ∷ []) b.more) in
      let n = plus l.statements r.slack in
      let other = s.again r.slack 0 0 n (n - s.counted) (t ∷ b.more) (omega (arith, s.rooms, e)) (omega (arith, s.counts, le, plus_least l.statements r.slack)) (omega (arith, s.rooms, e)) (omega (arith, s.counts, le, plus_least l.statements r.slack)) (inl refl) in
      let same = ok_same (top r.slack (at (s.text ++ (t ∷ b.more)) 0 n)) (x, at (t ∷ b.more) 0 (n - s.counted)) (b.tree, at [] 0 r.left) other r.is in
      no_cons t b.more (ap (λ (p : Tree × Input). p.1.rest) same)

  took_begins : (i : Input) (x : Tree) (j : Input) (s : Took any top at_last i x j) → Begins trees s.text
  took_begins i x j s = begins 0 i.room i.statements s.text [] x (at [] j.room j.statements) (s.again 0 i.room j.room i.statements j.statements [] s.rooms s.counts (omega arith) (omega arith) (inr refl)) refl

  -- ---- limits

  abbrev begin : List Token → Input
  begin tokens = at tokens 0 l.statements

  -- a tree is judged by its spelling, and so is what begins it
  judged_at : (P : Tree) (tokens : List Token) → Levelled P → spelling P ≡ tokens → top 0 (begin tokens) ≡ judged (passing l P) tokens (Ok (P, at [] 0 (l.statements - used P)))
  judged_at P tokens levelled e =
      ap (λ l. whole l (begin tokens)) (slack-zero l) ∙ subst (λ z. whole l (begin z) ≡ judged (passing l P) z (Ok (P, at [] 0 (l.statements - used P)))) e (whole_judged l P levelled)

  -- where a limit is passed, each tree that begins so passes it
  passed_at : (kind : ℕ → Stop) (limit : ℕ → Passing) → ((p : Passing) (i : List Token) (x : Tree × Input) (n : ℕ) → judged p i (Ok x) ≡ Err (kind n) → 1 ≤ n → p ≡ limit (length i - n))
      → (tokens : List Token) (left : ℕ) (s : Passed any top at_last kind (begin tokens) left) (b : Begins trees (s.before ++ s.token ∷ [])) → passing l b.tree ≡ limit (length s.before)
  passed_at kind limit tells tokens left s b =
      let text = s.before ++ (s.token ∷ b.more) in
      let spelled = b.spelled ∙ append_assoc s.before (s.token ∷ []) b.more in
      let same = sym (judged_at b.tree text b.levelled spelled) ∙ s.again (s.token ∷ b.more) refl in
      let place : length text - length (s.token ∷ b.more) ≡ length s.before = omega (arith, length-append s.before (s.token ∷ b.more)) in
      tells (passing l b.tree) text (b.tree, at [] 0 (l.statements - used b.tree)) (length (s.token ∷ b.more)) same (omega arith) ∙ ap limit place

  -- reading doesn't stop at a limit within these tokens, whatever comes after them
  passes_before : (kind : ℕ → Stop) (front rest more : List Token) (left : ℕ) (s : Passed any top at_last kind (begin (front ++ more)) left) → length more < left → (n : ℕ) × (top 0 (begin (front ++ rest)) ≡ Err (kind n))
  passes_before kind front rest more left s lt =
      let shorter : length s.before < length front = omega (arith, lt, s.place, ap length s.parts, length-append front more, length-append s.before (s.token ∷ s.rest)) in
      let found = longer front more s.before s.rest s.token s.parts shorter in
      let text : front ++ rest ≡ s.before ++ (s.token ∷ (found.0 ++ rest)) = ap (λ z. z ++ rest) found.1 ∙ append_assoc s.before (s.token ∷ found.0) rest in
      (length (s.token ∷ (found.0 ++ rest)), ap (λ z. top 0 (begin z)) text ∙ s.again (s.token ∷ (found.0 ++ rest)) refl)

  -- where reading stops at no limit, no tree that begins so passes one before
  module _ (front rest : List Token) (no_deep : (n : ℕ) → top 0 (begin (front ++ rest)) ≡ Err (TooDeep n) → ⊥) (no_many : (n : ℕ) → top 0 (begin (front ++ rest)) ≡ Err (TooMany n) → ⊥) where
    not_before : (kind : ℕ → Stop) → ((n : ℕ) → top 0 (begin (front ++ rest)) ≡ Err (kind n) → ⊥) → (more : List Token) (n : ℕ) → Passed any top at_last kind (begin (front ++ more)) (length (front ++ more) - n) → (n < length front) ⊎ (length front ≤ n) → length front ≤ n
    not_before kind never more n s (inl lt) =
        let bad = passes_before kind front rest more (length (front ++ more) - n) s (omega (arith, lt, length-append front more)) in
        absurd (never bad.0 bad.1)
    not_before kind never more n s (inr ge) = ge

    clear_by : (p : Passing) (more : List Token) (x : Tree × Input) → top 0 (begin (front ++ more)) ≡ judged p (front ++ more) (Ok x) → PassesLater (length front) p
    clear_by Nowhere more x h = tt
    clear_by (DeepAt n) more x h = not_before (λ n. TooDeep n) no_deep more n (subst (Shape any top at_last (begin (front ++ more))) h ((rule l).predicts (begin (front ++ more)))) (cases_lt n (length front))
    clear_by (ManyAt n) more x h = not_before (λ n. TooMany n) no_many more n (subst (Shape any top at_last (begin (front ++ more))) h ((rule l).predicts (begin (front ++ more)))) (cases_lt n (length front))

    clear_before : (b : Begins trees front) → PassesLater (length front) (passing l b.tree)
    clear_before b = clear_by (passing l b.tree) b.more (b.tree, at [] 0 (l.statements - used b.tree)) (judged_at b.tree (front ++ b.more) b.levelled b.spelled)

  -- ---- the answer

  -- the fault that reading stops with
  abbrev IsStop : List Token → Stop → Type 0
  IsStop tokens d = IsFault trees tokens (fault_at (length tokens) d)

  passes : (kind : ℕ → Stop) (limit : ℕ → Passing) → ((p : Passing) (i : List Token) (x : Tree × Input) (n : ℕ) → judged p i (Ok x) ≡ Err (kind n) → 1 ≤ n → p ≡ limit (length i - n))
      → (tokens : List Token) (left : ℕ) → Passed any top at_last kind (begin tokens) left → IsPassed trees tokens (length tokens - left) (limit (length tokens - left))
  passes kind limit tells tokens left s =
      let place = place_of s.before (s.token ∷ s.rest) tokens left s.parts s.place in
      record {
        front = s.before;
        token = s.token;
        rest = s.rest;
        parts = s.parts;
        place = place;
        begins = completes (begin tokens) (s.before ++ s.token ∷ []) _ s.viable;
        passed = λ b. passed_at kind limit tells tokens left s b ∙ ap limit place;
      }

  ok_stops : (o : Outcome Tree) (x : Tree × Input) (d : Stop) → o ≡ Ok x → o ≡ Err d → ⊥
  ok_stops o x d h g = cc

  syntax_deep : (o : Outcome Tree) (k n : ℕ) → o ≡ Err (Syntax k) → o ≡ Err (TooDeep n) → ⊥
  syntax_deep o k n h g = cc

  syntax_many : (o : Outcome Tree) (k n : ℕ) → o ≡ Err (Syntax k) → o ≡ Err (TooMany n) → ⊥
  syntax_many o k n h g = cc

  abbrev Clear : List Token → ℕ → Type 0
  Clear front k = (b : Begins trees front) → PassesLater k (passing l b.tree)

  at_place : (front : List Token) (k : ℕ) → length front ≡ k → Clear front (length front) → Clear front k
  at_place front k e h = subst (Clear front) e h

  -- what is left is at fault
  ended_fault : (tokens rest : List Token) (x : Tree) (room statements : ℕ) (d : Stop) → top 0 (begin tokens) ≡ Ok (x, at rest room statements) → Took any top at_last (begin tokens) x (at rest room statements) → at_end x rest ≡ Err d → IsStop tokens d
  ended_fault tokens [] x room statements d is s h = absurd cc
  ended_fault tokens (t ∷ rest) x room statements d is s h =
      let same : d ≡ Syntax (length (t ∷ rest)) = cc in
      let place = place_of s.text (t ∷ rest) tokens (length (t ∷ rest)) s.parts refl in
      let read : top 0 (begin (s.text ++ (t ∷ rest))) ≡ Ok (x, at (t ∷ rest) room statements) = ap (λ z. top 0 (begin z)) (sym s.parts) ∙ is in
      rw same (record {
        front = s.text;
        rest = t ∷ rest;
        parts = s.parts;
        place = place;
        begins = took_begins (begin tokens) x (at (t ∷ rest) room statements) s;
        stuck = took_stuck (begin tokens) x t rest room statements s refl (omega arith);
        clear = at_place s.text (length tokens - length (t ∷ rest)) place (clear_before s.text (t ∷ rest) (λ n g. ok_stops _ _ _ read g) (λ n g. ok_stops _ _ _ read g));
      })

  stops : (tokens : List Token) (o : Outcome Tree) (d : Stop) → top 0 (begin tokens) ≡ o → Shape any top at_last (begin tokens) o → ended o ≡ Err d → IsStop tokens d
  stops tokens (Ok x) d is s h = ended_fault tokens x.1.rest x.0 x.1.room x.1.statements d is s h
  stops tokens (Err (Syntax left)) d is s h =
      let same : d ≡ Syntax left = cc in
      let place = place_of s.before s.rest tokens left s.parts s.place in
      let read : top 0 (begin (s.before ++ s.rest)) ≡ Err (Syntax left) = ap (λ z. top 0 (begin z)) (sym s.parts) ∙ is in
      rw same (record {
        front = s.before;
        rest = s.rest;
        parts = s.parts;
        place = place;
        begins = completes (begin tokens) s.before _ s.viable;
        stuck = refused_stuck l.statements s.before s.rest (omega arith) s.again;
        clear = at_place s.before (length tokens - left) place (clear_before s.before s.rest (λ n g. syntax_deep _ left n read g) (λ n g. syntax_many _ left n read g));
      })
  stops tokens (Err (TooMany left)) d is s h = let same : d ≡ TooMany left = cc in rw same (passes (λ l. TooMany l) (λ k. ManyAt k) judged_many tokens left s)
  stops tokens (Err (TooDeep left)) d is s h = let same : d ≡ TooDeep left = cc in rw same (passes (λ l. TooDeep l) (λ k. DeepAt k) judged_deep tokens left s)
  stops tokens (Err NoMemory) d is s h = absurd s

  pub stops_at : (tokens : List Token) (d : Stop) → ended (whole l (begin tokens)) ≡ Err d → IsStop tokens d
  stops_at tokens d h = stops tokens (top 0 (begin tokens)) d refl ((rule l).predicts (begin tokens)) (ap (λ l. ended (whole l (begin tokens))) (slack-zero l) ∙ h)
