-- The words at the front of bytes.
use Rattle.std.proofs.Common.{◌≡◌, ◌==◌, ℕ, Bool, true, false, not, List, [], ◌∷◌, ◌++◌, map, length, Option, None, refl, sym, ap, subst, ◌∙◌, append_assoc, append-nil, length-append, arith}
use Rattle.std.proofs.lemmas.List.{map-append}
use Rattle.std.specs.Prelude.{codes}
use Rattle.std.specs.Option.{MatchOption}
use Rattle.std.specs.List.{list_all, AllByRecursion}
use Rattle.std.proofs.lemmas.List.Folds.{list_all-append}
use Rattle.std.specs.Fmt.{decimal}
use Rattle.brisk_lex.specs.Spelled.{IsName}
use Rattle.brisk_lines.specs.Pieces.{differs, Lacks, Begins, IsCut}
use Rattle.brisk_lines.proofs.Cuts.{clash, cut_once}
use Rattle.brisk_lines.proofs.Plain.{decimal_lacks, name_lacks}
use Rattle.brisk_text.specs.Values.{Text}
use Rattle.brisk_values.specs.Names.{Name, same_name}
use Rattle.brisk_values.proofs.Changes.{name_laws, exact_name, both_true}
use Rattle.brisk_derivation.specs.declared.steps.Fact.{Fact}
use Rattle.brisk_derivtext.specs.Lines.{drop_words, fact_text, spaced, IsLegalFact}
use Rattle.brisk_derivtext.specs.Pieces.{facts_text, fill_text, for_text, message_text, owners_text, rule_text, AreNames, AreOwners, BeginsWithFact, BeginsWithName, BeginsWithWord, IsFill, IsFor, IsMessage, IsRule, NoNameFollows}
use Rattle.brisk_derivtext.proofs.Appended.{spaced_append}
use Rattle.brisk_derivtext.proofs.Drop.{drop_is_name}
use Rattle.brisk_derivtext.proofs.Differ.{fact_no_space, spaced_begins}

-- there is nothing, for this reason
pub nothing : {A : Type 0} {P : Type 0} (Q : A → Type 0) (r : Option A) → r ≡ None → P → MatchOption r P Q
nothing {A} {P} Q r e p = subst (λ (x : Option A). MatchOption x P Q) (sym e) p

some_bytes : {c : ℕ} {a : Text} → c ∷ a ≡ [] → ⊥
some_bytes e = let wrong = e in cc

pub name_no_space : (t : Name) → IsName t → Lacks 32 t
name_no_space t h = name_lacks 32 refl (omega arith) t h

-- ---- words stand in one way

pub one_word : {b w m v n : Text} → BeginsWithWord b w m → BeginsWithWord b v n → (w ≡ v) × (m ≡ n)
one_word {b} {w} {m} {v} {n} h k =
    let e : w ++ m ≡ v ++ n = (let p = sym h.whole ∙ k.whole in cc) in
    cut_once 32 w m v n h.word h.ends k.word k.ends e

pub word_of_name : {b : Text} {t : Name} {m : Text} → BeginsWithName b t m → BeginsWithWord b t m
word_of_name {b} {t} {m} h = record { whole = h.whole; word = name_no_space t h.name; ends = h.ends }

pub word_of_fact : {b : Text} {f : Fact} {m : Text} → BeginsWithFact b f m → BeginsWithWord b (fact_text f) m
word_of_fact {b} {f} {m} h = record { whole = h.whole; word = fact_no_space f h.fact; ends = h.ends }

-- a word that is no name, or no fact
pub no_name_here : {b w m : Text} → BeginsWithWord b w m → (IsName w → ⊥) → NoNameFollows b
no_name_here h none = λ t more k. none (subst IsName (sym (one_word h (word_of_name k)).0) k.name)

pub no_fact_here : {b w m : Text} → BeginsWithWord b w m → ((f : Fact) → IsLegalFact f → w ≡ fact_text f → ⊥) → (f : Fact) (more : Text) → BeginsWithFact b f more → ⊥
no_fact_here h none = λ f more k. none f k.fact (one_word h (word_of_fact k)).0

-- ---- names

pub one_name : {b : Text} {t u : Name} {m n : Text} → BeginsWithName b t m → BeginsWithName b u n → (t ≡ u) × (m ≡ n)
one_name h k = one_word (word_of_name h) (word_of_name k)

-- behind the only name nothing stands
pub only : {b w m : Text} → BeginsWithWord b w m → (m ≡ [] → ⊥) → (u : Name) → IsName u → b ≡ 32 ∷ (u ++ []) → ⊥
only h some u k e = some (one_word h (record { whole = e; word = name_no_space u k; ends = tt })).1

pub message_words : {b w m v n : Text} → BeginsWithWord b w m → BeginsWithWord m v n → (x : Name × Name × Name) → IsMessage x → b ≡ message_text x → (w ≡ x.0) × (v ≡ x.1) × (n ≡ spaced (x.2 ∷ []))
message_words h k x legal e =
    let first = one_word h (record { whole = e; word = name_no_space x.0 legal.0; ends = refl }) in
    let second = one_word k (record { whole = first.1; word = name_no_space x.1 legal.1; ends = refl }) in
    (first.0, second.0, second.1)

-- ---- words one after another

pub all_append : {A : Type 0} (P : A → Type 0) (xs : List A) (y : A) → AllByRecursion P xs → P y → AllByRecursion P (xs ++ y ∷ [])
all_append P [] y h k = (k, tt)
all_append P (x ∷ xs) y h k = (h.0, all_append P xs y h.1 k)

pub one_more_word : (b : Text) (ws : List Text) (w rest more : Text) → b ≡ spaced ws ++ rest → rest ≡ 32 ∷ (w ++ more) → b ≡ spaced (ws ++ w ∷ []) ++ more
one_more_word b ws w rest more e h =
    e
    ∙ ap (λ z. spaced ws ++ z) (h ∙ ap (λ z. 32 ∷ (z ++ more)) (sym (append-nil w)))
    ∙ sym (append_assoc (spaced ws) (32 ∷ (w ++ [])) more)
    ∙ ap (λ z. z ++ more) (sym (spaced_append ws (w ∷ [])))

-- ---- facts

-- the parts of a fact, which are cut at its dot
pub fact_parts : (b front rest : Text) → IsCut 46 b front rest → (f : Fact) → IsLegalFact f → b ≡ fact_text f → (front ≡ f.at) × (rest ≡ 46 ∷ f.variable)
fact_parts b front rest cut f legal e =
    cut_once 46 front rest f.at (46 ∷ f.variable) cut.front_lacks cut.rest_begins (name_lacks 46 refl (omega arith) f.at legal.0) refl (sym cut.whole ∙ e)

pub one_more_fact : (b : Text) (F : List Fact) (f : Fact) (rest more : Text) → b ≡ facts_text F ++ rest → rest ≡ 32 ∷ (fact_text f ++ more) → b ≡ facts_text (F ++ f ∷ []) ++ more
one_more_fact b F f rest more e h =
    one_more_word b (map fact_text F) (fact_text f) rest more e h
    ∙ ap (λ z. spaced z ++ more) (sym (map-append fact_text F (f ∷ [])))

words_begin : (ws : List Text) (more : Text) → Begins 32 more → Begins 32 (spaced ws ++ more)
words_begin [] more h = h
words_begin (w ∷ ws) more h = refl

-- bytes that begin with facts, behind which there is something but no fact, aren't facts
facts_differ : (F G : List Fact) (rest : Text) → AllByRecursion IsLegalFact F → Begins 32 rest → ((f : Fact) (more : Text) → BeginsWithFact rest f more → ⊥) → (rest ≡ [] → ⊥) → AllByRecursion IsLegalFact G → facts_text F ++ rest ≡ facts_text G → ⊥
facts_differ [] [] rest h ends none some k e = absurd (some e)
facts_differ [] (g ∷ G) rest h ends none some k e = none g (facts_text G) (record { whole = e; fact = k.0; ends = spaced_begins (map fact_text G) })
facts_differ (f ∷ F) [] rest h ends none some k e = some_bytes e
facts_differ (f ∷ F) (g ∷ G) rest h ends none some k e =
    let r = cut_once 32 (fact_text f) (facts_text F ++ rest) (fact_text g) (facts_text G) (fact_no_space f h.0) (words_begin (map fact_text F) rest ends) (fact_no_space g k.0) (spaced_begins (map fact_text G)) (sym (append_assoc (fact_text f) (facts_text F) rest) ∙ (let p = e in cc)) in
    facts_differ F G rest h.1 ends none some k.1 r.1

pub no_facts : (b : Text) (F : List Fact) (rest w m : Text) → b ≡ facts_text F ++ rest → AllByRecursion IsLegalFact F → Begins 32 rest → BeginsWithWord rest w m → ((f : Fact) → IsLegalFact f → w ≡ fact_text f → ⊥) → (G : List Fact) → AllByRecursion IsLegalFact G → b ≡ facts_text G → ⊥
no_facts b F rest w m e h ends word none G k g = facts_differ F G rest h ends (no_fact_here word none) (λ nothing_left. some_bytes (sym word.whole ∙ nothing_left)) k (sym e ∙ g)

-- ---- names

-- the names so far, and what is left
pub record NamesSoFar (b : Text) (ts : List Name) (rest : Text) : Type 0 where
  pub whole : b ≡ spaced ts ++ rest
  pub names : AllByRecursion IsName ts
  pub ends : Begins 32 rest

pub one_more_name : (b : Text) (ts us : List Name) (rest w more : Text) (t : Name) → NamesSoFar b ts rest → BeginsWithWord rest w more → (t ≡ w) × IsName w → us ≡ ts ++ t ∷ [] → NamesSoFar b us more
one_more_name b ts us rest w more t h word name e =
    let u = ts ++ t ∷ [] in
    subst (λ z. NamesSoFar b z more) (sym e) (record {
      whole = one_more_word b ts t rest more h.whole (word.whole ∙ ap (λ z. 32 ∷ (z ++ more)) (sym name.0));
      names = all_append IsName ts t h.names (subst IsName (sym name.0) name.1);
      ends = word.ends;
    })

pub record FactsSoFar (b : Text) (F : List Fact) (rest : Text) : Type 0 where
  pub whole : b ≡ facts_text F ++ rest
  pub facts : AllByRecursion IsLegalFact F
  pub ends : Begins 32 rest

pub one_fact_more : (b : Text) (F G : List Fact) (rest w more : Text) (f : Fact) → FactsSoFar b F rest → BeginsWithWord rest w more → (w ≡ fact_text f) × IsLegalFact f → G ≡ F ++ f ∷ [] → FactsSoFar b G more
one_fact_more b F G rest w more f h word fact e =
    subst (λ z. FactsSoFar b z more) (sym e) (record {
      whole = one_more_fact b F f rest more h.whole (word.whole ∙ ap (λ z. 32 ∷ (z ++ more)) fact.0);
      facts = all_append IsLegalFact F f h.facts fact.1;
      ends = word.ends;
    })

pub no_bytes : (m : Text) → (length m == 0) ≡ false → m ≡ [] → ⊥
no_bytes m some e = let wrong : true ≡ false = ap (λ z. length z == 0) (sym e) ∙ some in cc

-- a fact has a dot, and no name
fact_is_no_name : (f : Fact) → IsName (fact_text f) → ⊥
fact_is_no_name f h = dot 46 f.at f.variable (name_lacks 46 refl (omega arith) (fact_text f) h)
  where
    dot : (c : ℕ) (a b : Text) → Lacks c (a ++ c ∷ b) → ⊥
    dot c a b k =
        let two = both_true (list_all (differs c) a) (list_all (differs c) (c ∷ b)) (sym (list_all-append (differs c) a (c ∷ b)) ∙ k) in
        clash c c (both_true (differs c c) (list_all (differs c) b) two.1).0 refl

no_name_in_facts : (F : List Fact) → AllByRecursion IsLegalFact F → NoNameFollows (facts_text F)
no_name_in_facts [] h = λ t more k. some_bytes (sym k.whole)
no_name_in_facts (f ∷ F) h = no_name_here (record { whole = refl; word = fact_no_space f h.0; ends = spaced_begins (map fact_text F) }) (fact_is_no_name f)

names_same : (ts us : List Name) (r q : Text) → AllByRecursion IsName ts → AllByRecursion IsName us → Begins 32 r → Begins 32 q → NoNameFollows r → NoNameFollows q → spaced ts ++ r ≡ spaced us ++ q → (ts ≡ us) × (r ≡ q)
names_same [] [] r q h k rb qb rn qn e = (refl, e)
names_same [] (u ∷ us) r q h k rb qb rn qn e = absurd (rn u (spaced us ++ q) (record { whole = e ∙ ap (λ z. 32 ∷ z) (append_assoc u (spaced us) q); name = k.0; ends = words_begin us q qb }))
names_same (t ∷ ts) [] r q h k rb qb rn qn e = absurd (qn t (spaced ts ++ r) (record { whole = sym e ∙ ap (λ z. 32 ∷ z) (append_assoc t (spaced ts) r); name = h.0; ends = words_begin ts r rb }))
names_same (t ∷ ts) (u ∷ us) r q h k rb qb rn qn e =
    let same : t ++ (spaced ts ++ r) ≡ u ++ (spaced us ++ q) = sym (append_assoc t (spaced ts) r) ∙ (let p = e in cc) ∙ append_assoc u (spaced us) q in
    let one = cut_once 32 t (spaced ts ++ r) u (spaced us ++ q) (name_no_space t h.0) (words_begin ts r rb) (name_no_space u k.0) (words_begin us q qb) same in
    let more = names_same ts us r q h.1 k.1 rb qb rn qn one.1 in
    (λ i. one.0 i ∷ more.0 i, more.1)

-- ---- owners

owners_cut : (p : List Name × List Fact) → owners_text p ≡ spaced (p.0 ++ codes "drop" ∷ []) ++ facts_text p.1
owners_cut p = ap spaced (sym (append_assoc p.0 (codes "drop" ∷ []) (map fact_text p.1))) ∙ spaced_append (p.0 ++ codes "drop" ∷ []) (map fact_text p.1)

pub owners_parts : {b : Text} {ts : List Name} {rest : Text} → AreNames b ts rest → (p : List Name × List Fact) → AreOwners p → b ≡ owners_text p → (ts ≡ p.0 ++ codes "drop" ∷ []) × (rest ≡ facts_text p.1)
owners_parts {b} {ts} {rest} h p k e =
    names_same ts (p.0 ++ codes "drop" ∷ []) rest (facts_text p.1) h.names (all_append IsName p.0 (codes "drop") k.0 drop_is_name) h.ends (spaced_begins (map fact_text p.1)) h.last (no_name_in_facts p.1 k.1) (sym h.whole ∙ e ∙ owners_cut p)

all_front : {A : Type 0} (P : A → Type 0) (xs : List A) (y : A) → AllByRecursion P (xs ++ y ∷ []) → AllByRecursion P xs
all_front P [] y h = tt
all_front P (x ∷ xs) y h = (h.0, all_front P xs y h.1)

pub owners_read : {b : Text} {ts : List Name} {rest : Text} (us : List Name) (t : Name) (F : List Fact) → AreNames b ts rest → ts ≡ us ++ t ∷ [] → t ≡ codes "drop" → (rest ≡ facts_text F) × AllByRecursion IsLegalFact F → (b ≡ owners_text (us, F)) × AreOwners (us, F)
owners_read {b} {ts} {rest} us t F h e d f =
    let names : ts ≡ us ++ codes "drop" ∷ [] = e ∙ ap (λ z. us ++ z ∷ []) d in
    (h.whole ∙ ap (λ z. spaced z ++ rest) names ∙ ap (λ z. spaced (us ++ codes "drop" ∷ []) ++ z) f.0 ∙ sym (owners_cut (us, F)), (all_front IsName us t (subst (AllByRecursion IsName) e h.names), f.1))

last_same : (us vs : List Name) (t s : Name) → us ++ t ∷ [] ≡ vs ++ s ∷ [] → t ≡ s
last_same [] [] t s e = let p = e in cc
last_same [] (v ∷ []) t s e = absurd (let p = e in cc)
last_same [] (v ∷ x ∷ vs) t s e = absurd (let p = e in cc)
last_same (u ∷ []) [] t s e = absurd (let p = e in cc)
last_same (u ∷ x ∷ us) [] t s e = absurd (let p = e in cc)
last_same (u ∷ us) (v ∷ vs) t s e = last_same us vs t s (let p = e in cc)

pub no_owners_named : (us vs : List Name) (t : Name) → us ++ t ∷ [] ≡ vs ++ codes "drop" ∷ [] → t ≡ codes "drop"
no_owners_named us vs t e = last_same us vs t (codes "drop") e

no_length : {A : Type 0} (xs : List A) (y : A) → length (xs ++ y ∷ []) ≡ 0 → ⊥
no_length xs y e = let k = length-append xs (y ∷ []) in omega (arith, k, e)

pub no_last : (ts vs : List Name) (t : Name) → length ts ≡ 0 → ts ≡ vs ++ t ∷ [] → ⊥
no_last ts vs t none e = no_length vs t (ap length (sym e) ∙ none)

pub same_word : (a b : Text) → true ≡ same_name a b → a ≡ b
same_word a b e = exact_name a b (sym e)

pub other_word : (a b : Text) → false ≡ same_name a b → a ≡ b → ⊥
other_word a b e h = let wrong : false ≡ true = e ∙ ap (λ z. same_name z b) h ∙ name_laws.refl b in cc

-- ---- the words of a fill, a rule and a `for`

pub fill_words : {b w1 m1 w2 m2 w3 m3 w4 m4 : Text} → BeginsWithWord b w1 m1 → BeginsWithWord m1 w2 m2 → BeginsWithWord m2 w3 m3 → BeginsWithWord m3 w4 m4 → (f : Name × Name × Name × ℕ) → IsFill f → b ≡ fill_text f → (w1 ≡ f.0) × (w2 ≡ f.1) × (w3 ≡ f.2) × (w4 ≡ decimal f.3) × (m4 ≡ [])
fill_words h1 h2 h3 h4 f legal e =
    let few = legal.4 in
    let e1 = one_word h1 (record { whole = e; word = name_no_space f.0 legal.0; ends = refl }) in
    let e2 = one_word h2 (record { whole = e1.1; word = name_no_space f.1 legal.1; ends = refl }) in
    let e3 = one_word h3 (record { whole = e2.1; word = name_no_space f.2 legal.2; ends = refl }) in
    let e4 = one_word h4 (record { whole = e3.1; word = decimal_lacks 32 (omega arith) f.3 (omega (arith, few)); ends = tt }) in
    (e1.0, e2.0, e3.0, e4.0, e4.1)

pub fill_third : {b w1 m1 w2 m2 : Text} → BeginsWithWord b w1 m1 → BeginsWithWord m1 w2 m2 → (f : Name × Name × Name × ℕ) → IsFill f → b ≡ fill_text f → m2 ≡ spaced (f.2 ∷ decimal f.3 ∷ [])
fill_third h1 h2 f legal e =
    let e1 = one_word h1 (record { whole = e; word = name_no_space f.0 legal.0; ends = refl }) in
    (one_word h2 (record { whole = e1.1; word = name_no_space f.1 legal.1; ends = refl })).1

pub fill_fourth : {b w1 m1 w2 m2 w3 m3 : Text} → BeginsWithWord b w1 m1 → BeginsWithWord m1 w2 m2 → BeginsWithWord m2 w3 m3 → (f : Name × Name × Name × ℕ) → IsFill f → b ≡ fill_text f → m3 ≡ spaced (decimal f.3 ∷ [])
fill_fourth h1 h2 h3 f legal e = (one_word h3 (record { whole = fill_third h1 h2 f legal e; word = name_no_space f.2 legal.2; ends = refl })).1

pub rule_words : {b w m : Text} → BeginsWithWord b w m → (p : Name × List Fact) → IsRule p → b ≡ rule_text p → (w ≡ p.0) × (m ≡ owners_text ([], p.1))
rule_words h p legal e = one_word h (record { whole = e; word = name_no_space p.0 legal.0; ends = refl })

pub for_name : {b w m : Text} → BeginsWithWord b w m → (p : Name × List Name × List Fact) → IsFor p → b ≡ for_text p → (w ≡ p.0) × (m ≡ spaced (codes "by" ∷ (p.1 ++ drop_words p.2)))
for_name h p legal e = one_word h (record { whole = e; word = name_no_space p.0 legal.0; ends = refl })

pub for_words : {b w m v n : Text} → BeginsWithWord b w m → BeginsWithWord m v n → (p : Name × List Name × List Fact) → IsFor p → b ≡ for_text p → (w ≡ p.0) × (v ≡ codes "by") × (n ≡ owners_text (p.1, p.2))
for_words h k p legal e =
    let one = one_word h (record { whole = e; word = name_no_space p.0 legal.0; ends = refl }) in
    let two = one_word k (record { whole = one.1; word = refl; ends = spaced_begins (p.1 ++ drop_words p.2) }) in
    (one.0, two.0, two.1)

no_front : (ns : List Name) (t : Name) → ns ++ t ∷ [] ≡ t ∷ [] → ns ≡ []
no_front [] t e = refl
no_front (n ∷ ns) t e = absurd (let k = ap length e in let l = length-append ns (t ∷ []) in omega (arith, k, l))

-- where there are no owners, none are read
pub owners_none : (ns : List Name) (F G : List Fact) → AreOwners (ns, F) → AllByRecursion IsLegalFact G → owners_text (ns, F) ≡ owners_text ([], G) → ns ≡ []
owners_none ns F G h k e =
    let names = all_append IsName ns (codes "drop") h.0 drop_is_name in
    let one = names_same (ns ++ codes "drop" ∷ []) (codes "drop" ∷ []) (facts_text F) (facts_text G) names (drop_is_name, tt) (spaced_begins (map fact_text F)) (spaced_begins (map fact_text G)) (no_name_in_facts F h.1) (no_name_in_facts G k) (sym (owners_cut (ns, F)) ∙ e ∙ owners_cut ([], G)) in
    no_front ns (codes "drop") one.0

pub not_not : (b : Bool) → true ≡ not b → false ≡ b
not_not true e = sym e
not_not false e = refl
