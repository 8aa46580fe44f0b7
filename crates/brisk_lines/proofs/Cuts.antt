-- Bytes are cut in one way.
use Rattle.std.proofs.Common.{◌≡◌, ◌<◌, ◌≤◌, ◌+◌, ℕ, true, not, ◌==◌, [], ◌∷◌, ◌++◌, length, take, drop, get_or, Option, None, refl, sym, ap, subst, ◌∙◌, eq-eqb, append-nil, drop-cons}
use Rattle.std.specs.List.{list_all}
use Rattle.std.proofs.lemmas.Bool.{ne_eqb}
use Rattle.std.proofs.lemmas.List.{take-append-drop, take_more, take_all}
use Rattle.std.proofs.lemmas.List.Folds.{list_all-append}
use Rattle.brisk_text.specs.Values.{Text}
use Rattle.brisk_lines.specs.Lines.{Reads}
use Rattle.brisk_lines.specs.Pieces.{differs, Lacks, Begins, IsCut}
use Rattle.brisk_values.proofs.Changes.{both_true}

pub clash : (c x : ℕ) → differs c x ≡ true → x ≡ c → ⊥
clash c x d e = let k : (x == c) ≡ true = eq-eqb x c e in let no : not true ≡ true = ap not (sym k) ∙ d in cc

pub cut_once : (c : ℕ) (f r g s : Text) → Lacks c f → Begins c r → Lacks c g → Begins c s → f ++ r ≡ g ++ s → (f ≡ g) × (r ≡ s)
cut_once c [] r [] s a b d e h = (refl, h)
cut_once c [] [] (x ∷ g) s a b d e h = absurd (let k = h in cc)
cut_once c [] (y ∷ r) (x ∷ g) s a b d e h =
    let k : x ≡ c = (let q : y ≡ x = cc in sym q ∙ b) in
    absurd (clash c x (both_true (differs c x) (list_all (differs c) g) d).0 k)
cut_once c (x ∷ f) r [] [] a b d e h = absurd (let k = h in cc)
cut_once c (x ∷ f) r [] (y ∷ s) a b d e h =
    let k : x ≡ c = (let q : x ≡ y = cc in q ∙ e) in
    absurd (clash c x (both_true (differs c x) (list_all (differs c) f) a).0 k)
cut_once c (x ∷ f) r (y ∷ g) s a b d e h =
    let u = both_true (differs c x) (list_all (differs c) f) a in
    let v = both_true (differs c y) (list_all (differs c) g) d in
    let head : x ≡ y = cc in
    let tail : f ++ r ≡ g ++ s = cc in
    let w = cut_once c f r g s u.1 b v.1 e tail in
    (λ i. head i ∷ w.0 i, w.1)

-- where a text lacks the byte and another begins with it, bytes that are cut there are these two
module _ {A B : Type 0} (c : ℕ) (text : A → Text) (behind : B → Text) (IsA : A → Type 0) (lacks : (x : A) → IsA x → Lacks c (text x)) (begins : (y : B) → Begins c (behind y)) where
  pub parts : (b front rest : Text) → IsCut c b front rest → (x : A) (y : B) → IsA x → b ≡ text x ++ behind y → (front ≡ text x) × (rest ≡ behind y)
  parts b front rest cut x y legal e = cut_once c front rest (text x) (behind y) cut.front_lacks cut.rest_begins (lacks x legal) (begins y) (sym cut.whole ∙ e)

-- ---- cutting

pub lacks_more : (c i : ℕ) (b : Text) → i < length b → Lacks c (take i b) → (get_or b i 0 ≡ c → ⊥) → Lacks c (take (i + 1) b)
lacks_more c i b lt so_far other =
    let one : differs c (get_or b i 0) ≡ true = ap not (ne_eqb (get_or b i 0) c other) in
    rw (take_more b i 0 lt, list_all-append, so_far, one) refl

pub cut_here : (c i : ℕ) (b front rest : Text) → i < length b → Lacks c (take i b) → get_or b i 0 ≡ c → front ≡ take i b → rest ≡ drop i b → IsCut c b front rest
cut_here c i b front rest lt so_far there f r = record {
  whole = sym (ap (λ l. l ++ rest) f ∙ ap (λ l. take i b ++ l) r ∙ take-append-drop i b);
  front_lacks = subst (Lacks c) (sym f) so_far;
  rest_begins = subst (Begins c) (sym (r ∙ drop-cons b i 0 lt)) there;
}

pub cut_nowhere : (c i : ℕ) (b rest : Text) → length b ≤ i → Lacks c (take i b) → rest ≡ [] → IsCut c b b rest
cut_nowhere c i b rest le so_far r = record {
  whole = sym (ap (λ l. b ++ l) r ∙ append-nil b);
  front_lacks = subst (Lacks c) (take_all i b le) so_far;
  rest_begins = subst (Begins c) (sym r) tt;
}

-- ---- nothing is read

pub nothing_read : {A : Type 0} (text : A → Text) (legal : A → Type 0) (b : Text) (r : Option A) → r ≡ None → ((x : A) → legal x → b ≡ text x → ⊥) → Reads text legal b r
nothing_read {A} text legal b r e none = subst (Reads {A = A} text legal b) (sym e) none
