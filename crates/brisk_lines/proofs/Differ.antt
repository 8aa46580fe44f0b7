-- Two legal lines with one text are the same.
use Rattle.std.proofs.Common.{◌≡◌, ◌<◌, ◌≤◌, ◌^◌, ℕ, ℤ, pos, negsuc, suc, Bool, true, false, [], ◌∷◌, ◌++◌, Option, Some, None, IfSome, FitsSigned, refl, sym, ap, subst, ◌∙◌, append_assoc, arith}
use Rattle.std.specs.Prelude.{codes}
use Rattle.std.specs.Int.{w64}
use Rattle.std.specs.Fmt.{decimal, signed_decimal}
use Rattle.std.specs.List.{list_all}
use Rattle.std.proofs.lemmas.List.{append_cancel_left, append_cancel_right}
use Rattle.std.proofs.lemmas.List.Folds.{list_all-append}
use Rattle.brisk_lex.specs.Spelled.{IsName, is_numeral}
use Rattle.brisk_lex.proofs.Printed.{decimal_is}
use Rattle.brisk_text.specs.Values.{Text, value_text}
use Rattle.brisk_values.specs.Names.{Name}
use Rattle.brisk_values.specs.declared.value.Value.{Value}
use Rattle.brisk_values.specs.declared.value.Value.TheVariants as value
use Rattle.brisk_lines.specs.declared.line.Line.TheVariants as line
use Rattle.brisk_lines.specs.declared.line.Process.{Process}
use Rattle.brisk_lines.specs.Lines.{member_text, process_text, sender_text, place_text, IsShort, IsLegalProcess, IsLegalValue}
use Rattle.brisk_lines.specs.Pieces.{differs, Lacks, Begins, end_text, given_text, size_text}
use Rattle.brisk_lines.specs.Laws.{LinesDiffer}
use Rattle.brisk_lines.proofs.Cuts.{cut_once, clash}
use Rattle.brisk_lines.proofs.Decimals.{decimal_same, short}
use Rattle.brisk_lines.proofs.Plain.{name_lacks, process_lacks, decimal_lacks}
use Rattle.brisk_lines.proofs.Sides.{member_begins, place_begins, end_begins, apart, some_bytes, regroup}
use Rattle.brisk_values.proofs.Changes.{both_true}

-- where a text lacks the byte and another begins with it, the two are known by the bytes of both
module _ {A B : Type 0} (c : ℕ) (text : A → Text) (behind : B → Text) (IsA : A → Type 0) (lacks : (x : A) → IsA x → Lacks c (text x)) (begins : (y : B) → Begins c (behind y)) where
  sides : (x z : A) (y w : B) → IsA x → IsA z → text x ++ behind y ≡ text z ++ behind w → (text x ≡ text z) × (behind y ≡ behind w)
  sides x z y w h k e = cut_once c (text x) (behind y) (text z) (behind w) (lacks x h) (begins y) (lacks z k) (begins w) e

-- ---- numbers

holds_it : (c : ℕ) (a b : Text) → Lacks c (a ++ c ∷ b) → ⊥
holds_it c a b h =
    let k = both_true (list_all (differs c) a) (list_all (differs c) (c ∷ b)) (sym (list_all-append (differs c) a (c ∷ b)) ∙ h) in
    clash c c (both_true (differs c c) (list_all (differs c) b) k.1).0 refl

unsigned : (m n : ℕ) → m < 2 ^ 64 → decimal m ≡ 45 ∷ decimal n → ⊥
unsigned m n h e = holds_it 45 [] (decimal n) (subst (Lacks 45) e (decimal_lacks 45 (omega arith) m h))

signed_same : (m n : ℤ) → FitsSigned w64 m → FitsSigned w64 n → signed_decimal m ≡ signed_decimal n → m ≡ n
signed_same (pos m) (pos n) h k e =
    let a : m < 2 ^ 64 = (let s = short (pos m) h in omega arith) in
    let b : n < 2 ^ 64 = (let s = short (pos n) k in omega arith) in
    ap (λ x. pos x) (decimal_same m n a b e)
signed_same (pos m) (negsuc n) h k e =
    let a : m < 2 ^ 64 = (let s = short (pos m) h in omega arith) in
    absurd (unsigned m (suc n) a e)
signed_same (negsuc m) (pos n) h k e =
    let b : n < 2 ^ 64 = (let s = short (pos n) k in omega arith) in
    absurd (unsigned n (suc m) b (sym e))
signed_same (negsuc m) (negsuc n) h k e =
    let a : suc m < 2 ^ 64 = (let s = short (negsuc m) h in omega arith) in
    let b : suc n < 2 ^ 64 = (let s = short (negsuc n) k in omega arith) in
    let t : suc m ≡ suc n = decimal_same (suc m) (suc n) a b (append_cancel_left (45 ∷ []) (decimal (suc m)) (decimal (suc n)) e) in
    let same : m ≡ n = omega arith in
    ap (λ x. negsuc x) same

-- ---- values

signed_lacks : (n : ℤ) → FitsSigned w64 n → Lacks 46 (signed_decimal n)
signed_lacks (pos n) h = decimal_lacks 46 (omega arith) n (let s = short (pos n) h in omega arith)
signed_lacks (negsuc n) h = decimal_lacks 46 (omega arith) (suc n) (let s = short (negsuc n) h in omega arith)

no_tag : (b e x : Text) → Lacks 46 b → b ≡ e ++ codes "." ++ x → ⊥
no_tag b e x h k = holds_it 46 e x (subst (Lacks 46) (k ∙ append_assoc e (codes ".") x) h)

no_word : (n : ℤ) (w : Text) → FitsSigned w64 n → is_numeral w ≡ false → ((a : Text) → w ≡ 45 ∷ a → ⊥) → signed_decimal n ≡ w → ⊥
no_word (pos n) w h none sign e =
    let a : n < 2 ^ 64 = (let s = short (pos n) h in omega arith) in
    let wrong : true ≡ false = sym (decimal_is n a).0 ∙ ap is_numeral e ∙ none in
    cc
no_word (negsuc n) w h none sign e = sign (decimal (suc n)) (sym e)

no_truth : (n : ℤ) (b : Bool) → FitsSigned w64 n → signed_decimal n ≡ value_text (value.Bool b) → ⊥
no_truth n true h e = no_word n (codes "true") h refl (λ a k. apart k refl) e
no_truth n false h e = no_word n (codes "false") h refl (λ a k. apart k refl) e

truth_lacks : (b : Bool) → Lacks 46 (value_text (value.Bool b))
truth_lacks true = refl
truth_lacks false = refl

value_same : (v w : Value) → IsLegalValue v → IsLegalValue w → value_text v ≡ value_text w → v ≡ w
value_same (value.Int m) (value.Int n) h k e = ap (λ x. value.Int x) (signed_same m n h k e)
value_same (value.Int m) (value.Bool b) h k e = absurd (no_truth m b h e)
value_same (value.Int m) (value.Tag t x) h k e = absurd (no_tag (signed_decimal m) t x (signed_lacks m h) e)
value_same (value.Bool b) (value.Int n) h k e = absurd (no_truth n b k (sym e))
value_same (value.Bool true) (value.Bool true) h k e = refl
value_same (value.Bool true) (value.Bool false) h k e = absurd (apart e refl)
value_same (value.Bool false) (value.Bool true) h k e = absurd (apart e refl)
value_same (value.Bool false) (value.Bool false) h k e = refl
value_same (value.Bool b) (value.Tag t x) h k e = absurd (no_tag (value_text (value.Bool b)) t x (truth_lacks b) e)
value_same (value.Tag t x) (value.Int n) h k e = absurd (no_tag (signed_decimal n) t x (signed_lacks n k) (sym e))
value_same (value.Tag t x) (value.Bool b) h k e = absurd (no_tag (value_text (value.Bool b)) t x (truth_lacks b) (sym e))
value_same (value.Tag t x) (value.Tag u y) h k e =
    let s = sides 46 (λ a. a) (λ a. codes "." ++ a) IsName (name_lacks 46 refl (omega arith)) (λ a. refl) t u x y h.0 k.0 (sym (append_assoc t (codes ".") x) ∙ e ∙ append_assoc u (codes ".") y) in
    let same : x ≡ y = append_cancel_left (codes ".") x y s.1 in
    λ i. value.Tag (s.0 i) (same i)

-- ---- processes

member_same : (k l : Option ℕ) → IfSome k IsShort → IfSome l IsShort → member_text k ≡ member_text l → k ≡ l
member_same None None h g e = refl
member_same None (Some l) h g e = absurd (some_bytes (sym e))
member_same (Some k) None h g e = absurd (some_bytes e)
member_same (Some k) (Some l) h g e =
    ap (λ x. Some x) (decimal_same k l (omega arith) (omega arith) (append_cancel_right (decimal k) (decimal l) (codes "]") (append_cancel_left (codes "[") (decimal k ++ codes "]") (decimal l ++ codes "]") e)))

process_same : (p q : Process) → IsLegalProcess p → IsLegalProcess q → process_text p ≡ process_text q → p ≡ q
process_same p q h k e =
    let s = sides 91 (λ a. a) member_text IsName (name_lacks 91 refl (omega arith)) member_begins p.role q.role p.member q.member h.0 k.0 e in
    let same = member_same p.member q.member h.1 k.1 s.1 in
    λ i. record { role = s.0 i; member = same i }

place_same : (m n : Option ℕ) → IfSome m IsShort → IfSome n IsShort → place_text m ≡ place_text n → m ≡ n
place_same None None h k e = refl
place_same None (Some n) h k e = absurd (some_bytes (sym e))
place_same (Some m) None h k e = absurd (some_bytes e)
place_same (Some m) (Some n) h k e = ap (λ x. Some x) (decimal_same m n (omega arith) (omega arith) (append_cancel_left (codes " at ") (decimal m) (decimal n) e))

-- a sender and a place
unsent : (p : Process) (m n : Option ℕ) → sender_text (Some p) ++ place_text m ≡ place_text n → ⊥
unsent p m None e = some_bytes e
unsent p m (Some n) e = apart (let t : 102 ∷ (codes "rom " ++ process_text p ++ place_text m) ≡ 97 ∷ (codes "t " ++ decimal n) = cc in t) refl

end_same : (p q : Option Process) (m n : Option ℕ) → IfSome p IsLegalProcess → IfSome q IsLegalProcess → IfSome m IsShort → IfSome n IsShort → sender_text p ++ place_text m ≡ sender_text q ++ place_text n → (p ≡ q) × (m ≡ n)
end_same None None m n h k f g e = (refl, place_same m n f g e)
end_same None (Some q) m n h k f g e = absurd (unsent q n m (sym e))
end_same (Some p) None m n h k f g e = absurd (unsent p m n e)
end_same (Some p) (Some q) m n h k f g e =
    let s = sides 32 process_text place_text IsLegalProcess (process_lacks 32 refl (omega arith)) place_begins p q m n h k (append_cancel_left (codes " from ") (process_text p ++ place_text m) (process_text q ++ place_text n) e) in
    (ap (λ x. Some x) (process_same p q h k s.0), place_same m n f g s.1)

-- ---- lines

size_same : (s t : Name) (m n : ℕ) → IsName s → IsName t → m ≤ 1000000 → n ≤ 1000000 → (s ++ codes " ") ++ decimal m ≡ (t ++ codes " ") ++ decimal n → (s ≡ t) × (m ≡ n)
size_same s t m n h k f g e =
    let r = sides 32 (λ a. a) size_text IsName (name_lacks 32 refl (omega arith)) (λ a. refl) s t m n h k (sym (append_assoc s (codes " ") (decimal m)) ∙ e ∙ append_assoc t (codes " ") (decimal n)) in
    (r.0, decimal_same m n (omega arith) (omega arith) (append_cancel_left (codes " ") (decimal m) (decimal n) r.1))

input_same : (p q : Process) (x y : Name) (v w : Value) → IsLegalProcess p → IsLegalProcess q → IsName x → IsName y → IsLegalValue v → IsLegalValue w → (((process_text p ++ codes ".") ++ x) ++ codes " = ") ++ value_text v ≡ (((process_text q ++ codes ".") ++ y) ++ codes " = ") ++ value_text w → (p ≡ q) × (x ≡ y) × (v ≡ w)
input_same p q x y v w h k f g a b e =
    let r = sides 46 process_text given_text IsLegalProcess (process_lacks 46 refl (omega arith)) (λ c. refl) p q (x, v) (y, w) h k (sym (regroup (process_text p) (codes ".") x (codes " = ") (value_text v)) ∙ e ∙ regroup (process_text q) (codes ".") y (codes " = ") (value_text w)) in
    let inner : (x ++ codes " = ") ++ value_text v ≡ (y ++ codes " = ") ++ value_text w = append_cancel_left (codes ".") ((x ++ codes " = ") ++ value_text v) ((y ++ codes " = ") ++ value_text w) r.1 in
    let s = sides 32 (λ c. c) (λ c. codes " = " ++ value_text c) IsName (name_lacks 32 refl (omega arith)) (λ c. refl) x y v w f g (sym (append_assoc x (codes " = ") (value_text v)) ∙ inner ∙ append_assoc y (codes " = ") (value_text w)) in
    (process_same p q h k r.0, s.0, value_same v w a b (append_cancel_left (codes " = ") (value_text v) (value_text w) s.1))

event_same : (p q : Process) (s t : Option Process) (m n : Option ℕ) → IsLegalProcess p → IsLegalProcess q → IfSome s IsLegalProcess → IfSome t IsLegalProcess → IfSome m IsShort → IfSome n IsShort → (process_text p ++ sender_text s) ++ place_text m ≡ (process_text q ++ sender_text t) ++ place_text n → (p ≡ q) × (s ≡ t) × (m ≡ n)
event_same p q s t m n h k f g a b e =
    let r = sides 32 process_text end_text IsLegalProcess (process_lacks 32 refl (omega arith)) (λ x. end_begins x.0 x.1) p q (s, m) (t, n) h k (sym (append_assoc (process_text p) (sender_text s) (place_text m)) ∙ e ∙ append_assoc (process_text q) (sender_text t) (place_text n)) in
    let w = end_same s t m n f g a b r.1 in
    (process_same p q h k r.0, w.0, w.1)

pub lines_differ : LinesDiffer
lines_differ line.Schedule line.Schedule h k e = refl
lines_differ line.Choices line.Choices h k e = refl
lines_differ line.End line.End h k e = refl
lines_differ (line.Size s m) (line.Size t n) h k e =
    let r = size_same s t m n h.0 k.0 h.1 k.1 (append_cancel_left (codes "size ") ((s ++ codes " ") ++ decimal m) ((t ++ codes " ") ++ decimal n) e) in
    λ i. line.Size (r.0 i) (r.1 i)
lines_differ (line.Input p x v) (line.Input q y w) h k e =
    let r = input_same p q x y v w h.0 k.0 h.1 k.1 h.2 k.2 (append_cancel_left (codes "input ") ((((process_text p ++ codes ".") ++ x) ++ codes " = ") ++ value_text v) ((((process_text q ++ codes ".") ++ y) ++ codes " = ") ++ value_text w) e) in
    λ i. line.Input (r.0 i) (r.1 i) (r.2 i)
lines_differ (line.Event p s m) (line.Event q t n) h k e =
    let r = event_same p q s t m n h.0 k.0 h.1 k.1 h.2 k.2 (append_cancel_left (codes "event ") ((process_text p ++ sender_text s) ++ place_text m) ((process_text q ++ sender_text t) ++ place_text n) e) in
    λ i. line.Event (r.0 i) (r.1 i) (r.2 i)
lines_differ (line.Turns m) (line.Turns n) h k e = ap (λ x. line.Turns x) (decimal_same m n h k (append_cancel_left (codes "turns ") (decimal m) (decimal n) e))
lines_differ (line.Choose m) (line.Choose n) h k e = ap (λ x. line.Choose x) (decimal_same m n (omega arith) (omega arith) (append_cancel_left (codes "choose ") (decimal m) (decimal n) e))
lines_differ line.Schedule line.Choices h k e = absurd (apart (let t : 115 ∷ codes "chedule 1" ≡ 99 ∷ codes "hoices 1" = cc in t) refl)
lines_differ line.Choices line.Schedule h k e = absurd (apart (let t : 99 ∷ codes "hoices 1" ≡ 115 ∷ codes "chedule 1" = cc in t) refl)
lines_differ line.End (line.Event q t n) h k e = absurd (apart (let r : 110 ∷ codes "d" ≡ 118 ∷ (codes "ent " ++ process_text q ++ sender_text t ++ place_text n) = cc in r) refl)
lines_differ (line.Event p s m) line.End h k e = absurd (apart (let r : 118 ∷ (codes "ent " ++ process_text p ++ sender_text s ++ place_text m) ≡ 110 ∷ codes "d" = cc in r) refl)
lines_differ l m h k e = absurd (apart e refl)
