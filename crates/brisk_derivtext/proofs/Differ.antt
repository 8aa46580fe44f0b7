-- Two legal lines with one text are the same, and no line has a byte 10.
use Rattle.std.proofs.Common.{◌≡◌, ◌<◌, ℕ, true, false, List, [], ◌∷◌, ◌++◌, map, refl, sym, ap, subst, ◌∙◌, arith}
use Rattle.std.specs.Prelude.{codes}
use Rattle.std.specs.Fmt.{decimal}
use Rattle.std.specs.List.{list_all, AllByRecursion}
use Rattle.std.proofs.lemmas.List.Folds.{list_all-append}
use Rattle.brisk_lex.specs.Spelled.{IsName}
use Rattle.brisk_lex.proofs.Printed.{is_plain}
use Rattle.brisk_text.specs.Values.{Text}
use Rattle.brisk_values.specs.Names.{Name, same_name}
use Rattle.brisk_values.proofs.Changes.{name_laws, both_true}
use Rattle.brisk_derivation.specs.declared.steps.BasicStep.{BasicStep}
use Rattle.brisk_derivation.specs.declared.steps.BasicStep.TheVariants as basic
use Rattle.brisk_derivation.specs.declared.steps.Fact.{Fact}
use Rattle.brisk_lines.specs.Pieces.{differs, Lacks, Begins}
use Rattle.brisk_lines.proofs.Cuts.{cut_once, clash}
use Rattle.brisk_lines.proofs.Decimals.{decimal_same}
use Rattle.brisk_lines.proofs.Plain.{name_lacks, both_lack, decimal_lacks}
use Rattle.brisk_derivtext.specs.declared.line.Format.TheVariants.{Format1, Format2}
use Rattle.brisk_derivtext.specs.declared.line.Loop.{Loop}
use Rattle.brisk_derivtext.specs.declared.line.Loop.TheVariants.{While, For, Repeat, Gather, Pick}
use Rattle.brisk_derivtext.specs.declared.line.Line.{Line}
use Rattle.brisk_derivtext.specs.declared.line.Line.TheVariants.{Head, Plain, Fork, Enter, Else, Join, Close, End, Part, EndPart, Use}
use Rattle.brisk_derivtext.specs.Lines.{fact_text, drop_words, first_word, more_words, spaced, line_text, IsLegalFact, IsLegalBasic, IsLegalLoop, IsLegal}
use Rattle.brisk_derivtext.specs.Laws.{LinesDiffer, LinesAreCut}

-- ---- words lack the space and byte 10

module _ (c : ℕ) (plain : is_plain c ≡ true) (low : c < 46) (dot : differs c 46 ≡ true) (by_lacks : Lacks c (codes "by")) (drop_lacks : Lacks c (codes "drop")) (head_lacks : Lacks c (codes "derivation")) (one_lacks : Lacks c (codes "1")) (two_lacks : Lacks c (codes "2")) where
  name_so : (x : Name) → IsName x → Lacks c x
  name_so = name_lacks c plain (omega arith)

  fact_so : (f : Fact) → IsLegalFact f → Lacks c (fact_text f)
  fact_so f h = both_lack c f.at (46 ∷ f.variable) (name_so f.at h.0) (both_lack c (46 ∷ []) f.variable (rw dot refl) (name_so f.variable h.1))

  facts_so : (drops : List Fact) → AllByRecursion IsLegalFact drops → AllByRecursion (Lacks c) (map fact_text drops)
  facts_so [] h = tt
  facts_so (f ∷ drops) h = (fact_so f h.0, facts_so drops h.1)

  names_so : (ts : List Name) (more : List Text) → AllByRecursion IsName ts → AllByRecursion (Lacks c) more → AllByRecursion (Lacks c) (ts ++ more)
  names_so [] more h k = k
  names_so (t ∷ ts) more h k = (name_so t h.0, names_so ts more h.1 k)

  drops_so : (drops : List Fact) → AllByRecursion IsLegalFact drops → AllByRecursion (Lacks c) (drop_words drops)
  drops_so drops h = (drop_lacks, facts_so drops h)

  words_so : (l : Line) → IsLegal l → AllByRecursion (Lacks c) (more_words l)
  words_so (Head Format1) h = (head_lacks, (one_lacks, tt))
  words_so (Head Format2) h = (head_lacks, (two_lacks, tt))
  words_so (Plain (basic.Assign t)) h = (name_so t h, tt)
  words_so (Plain (basic.Fill t u k n)) h = (name_so t h.0, (name_so u h.1, (name_so k h.2, (decimal_lacks c (omega arith) n (let few = h.4 in omega arith), tt))))
  words_so (Plain (basic.Pass t u k)) h = (name_so t h.0, (name_so u h.1, (name_so k h.2, tt)))
  words_so (Plain (basic.Take t u k)) h = (name_so t h.0, (name_so u h.1, (name_so k h.2, tt)))
  words_so (Plain (basic.Known t)) h = (name_so t h, tt)
  words_so (Fork t) h = (name_so t h, tt)
  words_so (Enter (While t drops)) h = (name_so t h.0, drops_so drops h.1)
  words_so (Enter (For s ts drops)) h = (name_so s h.0, (by_lacks, names_so ts (drop_words drops) h.1 (drops_so drops h.2)))
  words_so (Enter (Repeat t drops)) h = (name_so t h.0, drops_so drops h.1)
  words_so (Enter (Gather t drops)) h = (name_so t h.0, drops_so drops h.1)
  words_so (Enter (Pick t drops)) h = (name_so t h.0, drops_so drops h.1)
  words_so Else h = tt
  words_so Join h = tt
  words_so Close h = tt
  words_so End h = tt
  words_so (Part n) h = (name_so n h, tt)
  words_so EndPart h = tt
  words_so (Use n) h = (name_so n h, tt)

pub no_space : (l : Line) → IsLegal l → AllByRecursion (Lacks 32) (more_words l)
no_space = words_so 32 refl (omega arith) refl refl refl refl refl refl

pub fact_no_space : (f : Fact) → IsLegalFact f → Lacks 32 (fact_text f)
fact_no_space = fact_so 32 refl (omega arith) refl refl refl refl refl refl

no_end : (l : Line) → IsLegal l → AllByRecursion (Lacks 10) (more_words l)
no_end = words_so 10 refl (omega arith) refl refl refl refl refl refl

pub first_no_space : (l : Line) → Lacks 32 (first_word l)
first_no_space (Plain (basic.Assign t)) = refl
first_no_space (Plain (basic.Fill t u k n)) = refl
first_no_space (Plain (basic.Pass t u k)) = refl
first_no_space (Plain (basic.Take t u k)) = refl
first_no_space (Plain (basic.Known t)) = refl
first_no_space (Enter (While t drops)) = refl
first_no_space (Enter (For s ts drops)) = refl
first_no_space (Enter (Repeat t drops)) = refl
first_no_space (Enter (Gather t drops)) = refl
first_no_space (Enter (Pick t drops)) = refl
first_no_space l = refl

first_no_end : (l : Line) → Lacks 10 (first_word l)
first_no_end (Plain (basic.Assign t)) = refl
first_no_end (Plain (basic.Fill t u k n)) = refl
first_no_end (Plain (basic.Pass t u k)) = refl
first_no_end (Plain (basic.Take t u k)) = refl
first_no_end (Plain (basic.Known t)) = refl
first_no_end (Enter (While t drops)) = refl
first_no_end (Enter (For s ts drops)) = refl
first_no_end (Enter (Repeat t drops)) = refl
first_no_end (Enter (Gather t drops)) = refl
first_no_end (Enter (Pick t drops)) = refl
first_no_end l = refl

-- ---- words are known by their text

pub spaced_begins : (ws : List Text) → Begins 32 (spaced ws)
spaced_begins [] = tt
spaced_begins (w ∷ ws) = refl

words_known : (ws vs : List Text) → AllByRecursion (Lacks 32) ws → AllByRecursion (Lacks 32) vs → spaced ws ≡ spaced vs → ws ≡ vs
words_known [] [] h k e = refl
words_known [] (v ∷ vs) h k e = absurd (let wrong = e in cc)
words_known (w ∷ ws) [] h k e = absurd (let wrong = e in cc)
words_known (w ∷ ws) (v ∷ vs) h k e =
    let rest : w ++ spaced ws ≡ v ++ spaced vs = cc in
    let r = cut_once 32 w (spaced ws) v (spaced vs) h.0 (spaced_begins ws) k.0 (spaced_begins vs) rest in
    let more = words_known ws vs h.1 k.1 r.1 in
    λ i. r.0 i ∷ more i

line_words : (l m : Line) → IsLegal l → IsLegal m → line_text l ≡ line_text m → (first_word l ≡ first_word m) × (more_words l ≡ more_words m)
line_words l m h k e =
    let r = cut_once 32 (first_word l) (spaced (more_words l)) (first_word m) (spaced (more_words m)) (first_no_space l) (spaced_begins (more_words l)) (first_no_space m) (spaced_begins (more_words m)) e in
    (r.0, words_known (more_words l) (more_words m) (no_space l h) (no_space m k) r.1)

-- ---- facts

fact_same : (f g : Fact) → IsLegalFact f → IsLegalFact g → fact_text f ≡ fact_text g → f ≡ g
fact_same f g h k e =
    let lacks = name_lacks 46 refl (omega arith) in
    let r = cut_once 46 f.at (46 ∷ f.variable) g.at (46 ∷ g.variable) (lacks f.at h.0) refl (lacks g.at k.0) refl e in
    let v : f.variable ≡ g.variable = (let t = r.1 in cc) in
    λ i. record { at = r.0 i; variable = v i }

facts_same : (F G : List Fact) → AllByRecursion IsLegalFact F → AllByRecursion IsLegalFact G → map fact_text F ≡ map fact_text G → F ≡ G
facts_same [] [] h k e = refl
facts_same [] (g ∷ G) h k e = absurd (let wrong = e in cc)
facts_same (f ∷ F) [] h k e = absurd (let wrong = e in cc)
facts_same (f ∷ F) (g ∷ G) h k e =
    let one = fact_same f g h.0 k.0 (let t = e in cc) in
    let more = facts_same F G h.1 k.1 (let t = e in cc) in
    λ i. one i ∷ more i

drops_same : (F G : List Fact) → AllByRecursion IsLegalFact F → AllByRecursion IsLegalFact G → drop_words F ≡ drop_words G → F ≡ G
drops_same F G h k e = facts_same F G h k (let t = e in cc)

-- a fact has a dot, so that it isn't the word `drop`
fact_is_no_drop : (f : Fact) → fact_text f ≡ codes "drop" → ⊥
fact_is_no_drop f e = holds_it 46 f.at f.variable (subst (Lacks 46) (sym e) refl)
  where
    holds_it : (c : ℕ) (a b : Text) → Lacks c (a ++ c ∷ b) → ⊥
    holds_it c a b h =
        let k = both_true (list_all (differs c) a) (list_all (differs c) (c ∷ b)) (sym (list_all-append (differs c) a (c ∷ b)) ∙ h) in
        clash c c (both_true (differs c c) (list_all (differs c) b) k.1).0 refl

-- so the word `drop` behind owners isn't among facts
no_drop : (F G : List Fact) (ts : List Name) → map fact_text F ≡ ts ++ drop_words G → ⊥
no_drop [] G [] e = let wrong = e in cc
no_drop [] G (t ∷ ts) e = let wrong = e in cc
no_drop (f ∷ F) G [] e = fact_is_no_drop f (let t = e in cc)
no_drop (f ∷ F) G (t ∷ ts) e = no_drop F G ts (let k = e in cc)

owners_same : (ts us : List Name) (F G : List Fact) → AllByRecursion IsLegalFact F → AllByRecursion IsLegalFact G → ts ++ drop_words F ≡ us ++ drop_words G → (ts ≡ us) × (F ≡ G)
owners_same [] [] F G h k e = (refl, drops_same F G h k e)
owners_same [] (u ∷ us) F G h k e = absurd (no_drop F G us (let t = e in cc))
owners_same (t ∷ ts) [] F G h k e = absurd (no_drop G F ts (let k = sym e in cc))
owners_same (t ∷ ts) (u ∷ us) F G h k e =
    let one : t ≡ u = cc in
    let more = owners_same ts us F G h k (let w = e in cc) in
    (λ i. one i ∷ more.0 i, more.1)

-- ---- lines

apart : {a b : Text} → a ≡ b → same_name a b ≡ false → ⊥
apart {a} {b} e h = let wrong : true ≡ false = sym (name_laws.refl a) ∙ ap (same_name a) e ∙ h in cc

basic_same : (b d : BasicStep) → IsLegalBasic b → IsLegalBasic d → first_word (Plain b) ≡ first_word (Plain d) → more_words (Plain b) ≡ more_words (Plain d) → b ≡ d
basic_same (basic.Assign t) (basic.Assign u) h k e w = ap basic.Assign (let r = w in cc)
basic_same (basic.Known t) (basic.Known u) h k e w = ap basic.Known (let r = w in cc)
basic_same (basic.Pass t u c) (basic.Pass v x d) h k e w = let r = w in cc
basic_same (basic.Take t u c) (basic.Take v x d) h k e w = let r = w in cc
basic_same (basic.Fill t u c m) (basic.Fill v x d n) h k e w =
    let one : t ≡ v = (let r = w in cc) in
    let two : u ≡ x = (let r = w in cc) in
    let three : c ≡ d = (let r = w in cc) in
    let four : decimal m ≡ decimal n = (let r = w in cc) in
    let number : m ≡ n = (let a = h.4 in let b = k.4 in decimal_same m n (omega arith) (omega arith) four) in
    λ i. basic.Fill (one i) (two i) (three i) (number i)
basic_same b d h k e w = absurd (apart e refl)

loop_same : (b d : Loop) → IsLegalLoop b → IsLegalLoop d → first_word (Enter b) ≡ first_word (Enter d) → more_words (Enter b) ≡ more_words (Enter d) → b ≡ d
loop_same (While t F) (While u G) h k e w =
    let one : t ≡ u = (let r = w in cc) in
    let more = drops_same F G h.1 k.1 (let r = w in cc) in
    λ i. While (one i) (more i)
loop_same (Repeat t F) (Repeat u G) h k e w =
    let one : t ≡ u = (let r = w in cc) in
    let more = drops_same F G h.1 k.1 (let r = w in cc) in
    λ i. Repeat (one i) (more i)
loop_same (Gather t F) (Gather u G) h k e w =
    let one : t ≡ u = (let r = w in cc) in
    let more = drops_same F G h.1 k.1 (let r = w in cc) in
    λ i. Gather (one i) (more i)
loop_same (Pick t F) (Pick u G) h k e w =
    let one : t ≡ u = (let r = w in cc) in
    let more = drops_same F G h.1 k.1 (let r = w in cc) in
    λ i. Pick (one i) (more i)
loop_same (For s ts F) (For r us G) h k e w =
    let one : s ≡ r = (let q = w in cc) in
    let more = owners_same ts us F G h.2 k.2 (let q = w in cc) in
    λ i. For (one i) (more.0 i) (more.1 i)
loop_same b d h k e w = absurd (apart e refl)

-- a basic step begins as no rule
no_rule : (b : BasicStep) (r : Loop) → first_word (Plain b) ≡ first_word (Enter r) → ⊥
no_rule (basic.Assign t) (While s F) e = apart e refl
no_rule (basic.Assign t) (For s ts F) e = apart e refl
no_rule (basic.Assign t) (Repeat s F) e = apart e refl
no_rule (basic.Assign t) (Gather s F) e = apart e refl
no_rule (basic.Assign t) (Pick s F) e = apart e refl
no_rule (basic.Known t) (While s F) e = apart e refl
no_rule (basic.Known t) (For s ts F) e = apart e refl
no_rule (basic.Known t) (Repeat s F) e = apart e refl
no_rule (basic.Known t) (Gather s F) e = apart e refl
no_rule (basic.Known t) (Pick s F) e = apart e refl
no_rule (basic.Pass t u c) (While s F) e = apart e refl
no_rule (basic.Pass t u c) (For s ts F) e = apart e refl
no_rule (basic.Pass t u c) (Repeat s F) e = apart e refl
no_rule (basic.Pass t u c) (Gather s F) e = apart e refl
no_rule (basic.Pass t u c) (Pick s F) e = apart e refl
no_rule (basic.Take t u c) (While s F) e = apart e refl
no_rule (basic.Take t u c) (For s ts F) e = apart e refl
no_rule (basic.Take t u c) (Repeat s F) e = apart e refl
no_rule (basic.Take t u c) (Gather s F) e = apart e refl
no_rule (basic.Take t u c) (Pick s F) e = apart e refl
no_rule (basic.Fill t u c n) (While s F) e = apart e refl
no_rule (basic.Fill t u c n) (For s ts F) e = apart e refl
no_rule (basic.Fill t u c n) (Repeat s F) e = apart e refl
no_rule (basic.Fill t u c n) (Gather s F) e = apart e refl
no_rule (basic.Fill t u c n) (Pick s F) e = apart e refl

abbrev second : List Text → Text
second (v ∷ w ∷ ws) = w
second ws = []

-- a basic step begins as no other line, and so does a rule
plain_alone : (b : BasicStep) (m : Line) → IsLegal (Plain b) → IsLegal m → first_word (Plain b) ≡ first_word m → more_words (Plain b) ≡ more_words m → Plain b ≡ m
plain_alone b (Plain d) h k e w = ap Plain (basic_same b d h k e w)
plain_alone b (Enter r) h k e w = absurd (no_rule b r e)
plain_alone (basic.Assign t) m h k e w = absurd (apart e refl)
plain_alone (basic.Known t) m h k e w = absurd (apart e refl)
plain_alone (basic.Pass t u c) m h k e w = absurd (apart e refl)
plain_alone (basic.Take t u c) m h k e w = absurd (apart e refl)
plain_alone (basic.Fill t u c n) m h k e w = absurd (apart e refl)

enter_alone : (r : Loop) (m : Line) → IsLegal (Enter r) → IsLegal m → first_word (Enter r) ≡ first_word m → more_words (Enter r) ≡ more_words m → Enter r ≡ m
enter_alone r (Enter q) h k e w = ap Enter (loop_same r q h k e w)
enter_alone r (Plain b) h k e w = sym (plain_alone b (Enter r) k h (sym e) (sym w))
enter_alone (While t F) m h k e w = absurd (apart e refl)
enter_alone (For s ts F) m h k e w = absurd (apart e refl)
enter_alone (Repeat t F) m h k e w = absurd (apart e refl)
enter_alone (Gather t F) m h k e w = absurd (apart e refl)
enter_alone (Pick t F) m h k e w = absurd (apart e refl)

words_same : (l m : Line) → IsLegal l → IsLegal m → first_word l ≡ first_word m → more_words l ≡ more_words m → l ≡ m
words_same (Plain b) m h k e w = plain_alone b m h k e w
words_same (Enter r) m h k e w = enter_alone r m h k e w
words_same l (Plain d) h k e w = sym (plain_alone d l k h (sym e) (sym w))
words_same l (Enter q) h k e w = sym (enter_alone q l k h (sym e) (sym w))
words_same (Head Format1) (Head Format1) h k e w = refl
words_same (Head Format2) (Head Format2) h k e w = refl
words_same (Head Format1) (Head Format2) h k e w = absurd (apart (ap second w) refl)
words_same (Head Format2) (Head Format1) h k e w = absurd (apart (ap second w) refl)
words_same (Fork t) (Fork u) h k e w = ap Fork (let r = w in cc)
words_same (Part t) (Part u) h k e w = ap Part (let r = w in cc)
words_same (Use t) (Use u) h k e w = ap Use (let r = w in cc)
words_same Else Else h k e w = refl
words_same Join Join h k e w = refl
words_same Close Close h k e w = refl
words_same End End h k e w = refl
words_same EndPart EndPart h k e w = refl
words_same l m h k e w = absurd (apart e refl)

pub lines_differ : LinesDiffer
lines_differ l m h k e = let r = line_words l m h k e in words_same l m h k r.0 r.1

-- ---- no line has a byte 10

spaced_unended : (ws : List Text) → AllByRecursion (Lacks 10) ws → Lacks 10 (spaced ws)
spaced_unended [] h = refl
spaced_unended (w ∷ ws) h = both_lack 10 w (spaced ws) h.0 (spaced_unended ws h.1)

pub line_unended : (l : Line) → IsLegal l → Lacks 10 (line_text l)
line_unended l h = both_lack 10 (first_word l) (spaced (more_words l)) (first_no_end l) (spaced_unended (more_words l) (no_end l h))

pub lines_are_cut : LinesAreCut
lines_are_cut l m a b h k e =
    let s = cut_once 10 (line_text l) (10 ∷ a) (line_text m) (10 ∷ b) (line_unended l h) refl (line_unended m k) refl e in
    let behind : a ≡ b = (let t = s.1 in cc) in
    (lines_differ l m h k s.0, behind)
