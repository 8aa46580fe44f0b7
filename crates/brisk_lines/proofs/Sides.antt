-- What stands on either side where the bytes of a text are cut.
use Rattle.std.proofs.Common.{◌≡◌, ◌<◌, ◌^◌, ◌⊎◌, inl, inr, true, false, ℕ, ℤ, FitsSigned, [], ◌∷◌, ◌++◌, Option, Some, None, IfSome, refl, sym, subst, ◌∙◌, append_assoc, eq-eqb, ◌==◌, arith}
use Rattle.std.specs.Prelude.{codes}
use Rattle.std.specs.Int.{w64}
use Rattle.std.specs.Fmt.{decimal, signed_decimal}
use Rattle.brisk_lex.specs.Spelled.{IsName}
use Rattle.brisk_text.specs.Values.{Text, value_text}
use Rattle.brisk_values.specs.Names.{Name}
use Rattle.brisk_values.specs.declared.value.Value.{Value}
use Rattle.brisk_values.specs.declared.value.Value.TheVariants as value
use Rattle.brisk_lines.specs.declared.line.Line.{Line}
use Rattle.brisk_lines.specs.declared.line.Line.TheVariants as line
use Rattle.brisk_lines.specs.declared.line.Process.{Process}
use Rattle.brisk_lines.specs.Lines.{member_text, process_text, sender_text, place_text, line_text, IsShort, IsLegalProcess, IsLegalValue, IsLegal}
use Rattle.brisk_lines.specs.Pieces.{Begins, IsCut, end_text, IsLegalEnd, given_text, IsLegalGiven, tag_text, IsLegalTag, size_text, IsSize}
use Rattle.brisk_lines.proofs.Cuts.{parts}
use Rattle.brisk_lines.proofs.Plain.{name_lacks, process_lacks}

-- ---- processes and tags

pub member_begins : (k : Option ℕ) → Begins 91 (member_text k)
member_begins None = tt
member_begins (Some k) = refl

pub process_parts : (b front rest : Text) → IsCut 91 b front rest → (p : Process) → IsLegalProcess p → b ≡ process_text p → (front ≡ p.role) × (rest ≡ member_text p.member)
process_parts b front rest cut p legal e = parts 91 (λ x. x) member_text IsName (name_lacks 91 refl (omega arith)) member_begins b front rest cut p.role p.member legal.0 e

pub tag_parts : (b front rest : Text) → IsCut 46 b front rest → (t : Name × Name) → IsLegalTag t → b ≡ tag_text t → (front ≡ t.0) × (rest ≡ codes "." ++ t.1)
tag_parts b front rest cut t legal e =
    parts 46 (λ x. x) (λ x. codes "." ++ x) IsName (name_lacks 46 refl (omega arith)) (λ x. refl) b front rest cut t.0 t.1 legal.0 (e ∙ append_assoc t.0 (codes ".") t.1)

-- ---- values

pub no_value : (b : Text) → ((n : ℤ) → FitsSigned w64 n → b ≡ signed_decimal n → ⊥) → (b ≡ codes "true" → ⊥) → (b ≡ codes "false" → ⊥) → ((t : Name × Name) → IsLegalTag t → b ≡ tag_text t → ⊥) → (v : Value) → IsLegalValue v → b ≡ value_text v → ⊥
no_value b number holds fails tag (value.Int n) legal e = number n legal e
no_value b number holds fails tag (value.Bool true) legal e = holds e
no_value b number holds fails tag (value.Bool false) legal e = fails e
no_value b number holds fails tag (value.Tag k x) legal e = tag (k, x) legal e

-- ---- lines

pub apart : {c d : ℕ} {a b : Text} → c ∷ a ≡ d ∷ b → (c == d) ≡ false → ⊥
apart {c} {d} e h = let k : c ≡ d = cc in let t : (c == d) ≡ true = eq-eqb c d k in let wrong : true ≡ false = sym t ∙ h in cc

pub some_bytes : {c : ℕ} {a : Text} → c ∷ a ≡ [] → ⊥
some_bytes e = let k = e in cc

pub regroup : (a b c d e : Text) → (((a ++ b) ++ c) ++ d) ++ e ≡ a ++ (((b ++ c) ++ d) ++ e)
regroup a b c d e = simp append_assoc

pub given_parts : (after front rest : Text) → IsCut 32 after front rest → (g : Name × Value) → IsLegalGiven g → codes "." ++ after ≡ given_text g → (front ≡ g.0) × (rest ≡ codes " = " ++ value_text g.1)
given_parts after front rest cut g legal e =
    let t : after ≡ (g.0 ++ codes " = ") ++ value_text g.1 = cc in
    parts 32 (λ x. x) (λ v. codes " = " ++ value_text v) IsName (name_lacks 32 refl (omega arith)) (λ v. refl) after front rest cut g.0 g.1 legal.0 (t ∙ append_assoc g.0 (codes " = ") (value_text g.1))

pub place_begins : (n : Option ℕ) → Begins 32 (place_text n)
place_begins None = tt
place_begins (Some n) = refl

pub end_begins : (q : Option Process) (n : Option ℕ) → Begins 32 (sender_text q ++ place_text n)
end_begins None n = place_begins n
end_begins (Some q) n = refl

pub no_end : (after front rest : Text) → IsCut 32 after front rest → ((p : Process) → IsLegalProcess p → front ≡ process_text p → ⊥) ⊎ ((n : Option ℕ) → IfSome n IsShort → rest ≡ place_text n → ⊥) → (q : Option Process) (n : Option ℕ) → IfSome q IsLegalProcess → IfSome n IsShort → codes " from " ++ after ≡ sender_text q ++ place_text n → ⊥
no_end after front rest cut why None None h l e = some_bytes e
no_end after front rest cut why None (Some n) h l e = apart (let t : 102 ∷ (codes "rom " ++ after) ≡ 97 ∷ (codes "t " ++ decimal n) = cc in t) refl
no_end after front rest cut why (Some p) n h l e =
    let t : after ≡ process_text p ++ place_text n = cc in
    let k = parts 32 process_text place_text IsLegalProcess (process_lacks 32 refl (omega arith)) place_begins after front rest cut p n h t in
    elim why as (λ _. ⊥) [
      | inl none ↦ none p h k.0
      | inr none ↦ none n l k.1
    ]

-- where no sender is told, the place is
pub no_place : (b : Text) → ((rest : Text) → b ≡ codes " from " ++ rest → ⊥) → ((n : Option ℕ) → IfSome n IsShort → b ≡ place_text n → ⊥) → (q : Option Process) (n : Option ℕ) → IfSome n IsShort → b ≡ sender_text q ++ place_text n → ⊥
no_place b untold none None n l e = none n l e
no_place b untold none (Some p) n l e = untold (process_text p ++ place_text n) (e ∙ append_assoc (codes " from ") (process_text p) (place_text n))

pub no_size : (rest front end : Text) → IsCut 32 rest front end → (IsName front → ⊥) ⊎ ((n : ℕ) → IsSize n → end ≡ size_text n → ⊥) → (l : Line) → IsLegal l → codes "size " ++ rest ≡ line_text l → ⊥
no_size rest front end cut why (line.Size s n) legal e =
    let t : rest ≡ (s ++ codes " ") ++ decimal n = cc in
    let k = parts 32 (λ x. x) size_text IsName (name_lacks 32 refl (omega arith)) (λ n. refl) rest front end cut s n legal.0 (t ∙ append_assoc s (codes " ") (decimal n)) in
    elim why as (λ _. ⊥) [
      | inl none ↦ none (subst IsName (sym k.0) legal.0)
      | inr none ↦ none n legal.1 k.1
    ]
no_size rest front end cut why l legal e = apart e refl

pub no_input : (rest front end : Text) → IsCut 46 rest front end → ((p : Process) → IsLegalProcess p → front ≡ process_text p → ⊥) ⊎ ((g : Name × Value) → IsLegalGiven g → end ≡ given_text g → ⊥) → (l : Line) → IsLegal l → codes "input " ++ rest ≡ line_text l → ⊥
no_input rest front end cut why (line.Input p x v) legal e =
    let t : rest ≡ (((process_text p ++ codes ".") ++ x) ++ codes " = ") ++ value_text v = cc in
    let k = parts 46 process_text given_text IsLegalProcess (process_lacks 46 refl (omega arith)) (λ g. refl) rest front end cut p (x, v) legal.0 (t ∙ regroup (process_text p) (codes ".") x (codes " = ") (value_text v)) in
    elim why as (λ _. ⊥) [
      | inl none ↦ none p legal.0 k.0
      | inr none ↦ none (x, v) (legal.1, legal.2) k.1
    ]
no_input rest front end cut why l legal e = apart e refl

pub no_event : (rest front end : Text) → IsCut 32 rest front end → ((p : Process) → IsLegalProcess p → front ≡ process_text p → ⊥) ⊎ ((x : Option Process × Option ℕ) → IsLegalEnd x → end ≡ end_text x → ⊥) → (l : Line) → IsLegal l → codes "event " ++ rest ≡ line_text l → ⊥
no_event rest front end cut why (line.Event p q n) legal e =
    let t : rest ≡ (process_text p ++ sender_text q) ++ place_text n = cc in
    let k = parts 32 process_text end_text IsLegalProcess (process_lacks 32 refl (omega arith)) (λ x. end_begins x.0 x.1) rest front end cut p (q, n) legal.0 (t ∙ append_assoc (process_text p) (sender_text q) (place_text n)) in
    elim why as (λ _. ⊥) [
      | inl none ↦ none p legal.0 k.0
      | inr none ↦ none (q, n) (legal.1, legal.2) k.1
    ]
no_event rest front end cut why line.End legal e = apart (let t : 118 ∷ (codes "ent " ++ rest) ≡ 110 ∷ codes "d" = cc in t) refl
no_event rest front end cut why l legal e = apart e refl

pub no_turns : (rest : Text) → ((n : ℕ) → n < 2 ^ 64 → rest ≡ decimal n → ⊥) → (l : Line) → IsLegal l → codes "turns " ++ rest ≡ line_text l → ⊥
no_turns rest none (line.Turns n) legal e = none n legal (let t : rest ≡ decimal n = cc in t)
no_turns rest none l legal e = apart e refl

pub no_choose : (rest : Text) → ((n : ℕ) → IsShort n → rest ≡ decimal n → ⊥) → (l : Line) → IsLegal l → codes "choose " ++ rest ≡ line_text l → ⊥
no_choose rest none (line.Choose n) legal e = none n legal (let t : rest ≡ decimal n = cc in t)
no_choose rest none l legal e = apart e refl
