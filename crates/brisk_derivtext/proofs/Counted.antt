-- The bytes of lines are counted.
use Rattle.std.proofs.Common.{◌≡◌, ◌<◌, ◌≤◌, ◌+◌, ℕ, List, [], ◌∷◌, ◌++◌, length, Option, Some, None, sym, ap, ◌∙◌, length-append, append_assoc, arith}
use Rattle.std.specs.Prelude.{if◌then◌else◌, Ok, Err}
use Rattle.std.proofs.lemmas.Bool.{lt-ltb, le-ltb}
use Rattle.brisk_derivation.specs.Depths.{steps_depth}
use Rattle.brisk_derivation.specs.Steps.{Steps}
use Rattle.brisk_derivtext.specs.declared.line.Line.{Line}
use Rattle.brisk_derivtext.specs.declared.refusal.Refusal.{Refusal}
use Rattle.brisk_derivtext.specs.declared.refusal.Refusal.TheVariants.{NoLine, TooLong, NoMemory}
use Rattle.brisk_derivtext.specs.Kept.{Counts, Keeps, Stands}
use Rattle.brisk_derivtext.specs.Lines.{line_text}
use Rattle.brisk_derivtext.specs.Reading.{Body, Reading, ◌then◌, put, lines_around, lines_so_far, with_body, with_steps, used, within_bytes, bounded}
use Rattle.brisk_derivtext.specs.Reading as text
use Rattle.brisk_derivtext.specs.Texts.{lines_of, text_of_lines, most_bytes, most_nested}
use Rattle.brisk_derivtext.proofs.Appended.{texts_append}
use Rattle.brisk_derivtext.proofs.Putting.{grows, lines_then}

-- how many bytes lines have
abbrev bytes_of : List Line → ℕ
bytes_of ls = length (text_of_lines ls)

bytes_append : (xs ys : List Line) → bytes_of (xs ++ ys) ≡ bytes_of xs + bytes_of ys
bytes_append xs ys = ap length (texts_append xs ys) ∙ length-append (text_of_lines xs) (text_of_lines ys)

line_bytes : (l : Line) → bytes_of (l ∷ []) ≡ length (line_text l) + 1
line_bytes l = length-append (line_text l) (10 ∷ [])

-- where steps don't go on so, the line is refused so
pub refused : (R : Reading) (o : Option Body) (e : Refusal) → Keeps o (Err e) → Stands (bounded (with_steps R o)) (Err e)
refused R o NoLine h = ap (λ z. bounded (with_steps R z)) h
refused R o TooLong h = absurd h
refused R o NoMemory h = tt

-- a line of steps has its bytes and the byte 10
pub line_counts : (l : Line) (b c : Body) (n m : ℕ) → Counts n b → m ≡ length (line_text l) + 1 → put l b ≡ Some c → Counts (n + m) c
line_counts l b c n m h k e =
    let grown : bytes_of (lines_so_far c) ≡ bytes_of (lines_so_far b ++ l ∷ []) = ap bytes_of (grows l b c e) in
    let both = bytes_append (lines_so_far b) (l ∷ []) in
    let one = line_bytes l in
    omega arith

used_lines : (b : Body) (a : Steps) → lines_so_far (record b { steps = b.steps then a }) ≡ lines_so_far b ++ lines_of a
used_lines b a = ap (λ z. lines_around b.entered ++ z) (lines_then b.steps a) ∙ sym (append_assoc (lines_around b.entered) (lines_of b.steps) (lines_of a))

-- the steps of a part have their bytes
pub part_counts : (b : Body) (a : Steps) (n m : ℕ) → Counts n b → m ≡ length (text_of_lines (lines_of a)) → Counts (n + m) (record b { steps = b.steps then a })
part_counts b a n m h k =
    let grown : bytes_of (lines_so_far (record b { steps = b.steps then a })) ≡ bytes_of (lines_so_far b ++ lines_of a) = ap bytes_of (used_lines b a) in
    let both = bytes_append (lines_so_far b) (lines_of a) in
    omega arith

used_here : (b : Body) (o : Option Steps) (a : Steps) → o ≡ Some a → length b.entered + steps_depth a ≤ most_nested → used b o ≡ Some (record b { steps = b.steps then a })
used_here b o a e h =
    ap (used b) e
    ∙ ap (λ t. if t then None else Some (record b { steps = b.steps then a })) (le-ltb most_nested (length b.entered + steps_depth a) h)

-- the steps of a part have too many bytes here
pub part_too_long : (R : Reading) (o : Option Steps) (a : Steps) (n m : ℕ) → o ≡ Some a → length R.body.entered + steps_depth a ≤ most_nested → Counts n R.body → m ≡ length (text_of_lines (lines_of a)) → most_bytes < n + m → bounded (with_steps R (used R.body o)) ≡ Err text.TooLong
part_too_long R o a n m e d h k many =
    let next : Body = record R.body { steps = R.body.steps then a } in
    let count : Counts (n + m) next = part_counts R.body a n m h k in
    let long : most_bytes < bytes_of (lines_so_far next) = omega arith in
    ap (λ z. bounded (with_steps R z)) (used_here R.body o a e d)
    ∙ ap (λ t. if t then Err text.TooLong else Ok (with_body R next)) (lt-ltb most_bytes (bytes_of (lines_so_far next)) long)
