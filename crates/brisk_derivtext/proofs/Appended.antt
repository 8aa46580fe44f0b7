-- The texts of words and of lines one after another.
use Rattle.std.proofs.Common.{◌≡◌, ◌+◌, ◌<◌, ℕ, List, [], ◌∷◌, ◌++◌, drop, get_or, length, suc, refl, sym, ap, ◌∙◌, append_assoc, add-one, drop-cons}
use Rattle.std.specs.Prelude.{codes}
use Rattle.brisk_text.specs.Values.{Text}
use Rattle.brisk_values.specs.Names.{Name}
use Rattle.brisk_derivation.specs.declared.steps.Fact.{Fact}
use Rattle.brisk_derivation.specs.declared.steps.Step as tree
use Rattle.brisk_derivation.specs.Seen.{step_of, steps_of}
use Rattle.brisk_derivation.specs.Steps.{Step, Branch, Steps}
use Rattle.brisk_derivtext.specs.declared.line.Line.{Line}
use Rattle.brisk_derivtext.specs.declared.line.Line.TheVariants.{Fork, Else, Join}
use Rattle.brisk_derivtext.specs.Lines.{drop_words, line_text, spaced}
use Rattle.brisk_derivtext.specs.Texts.{first_line, lines_in, lines_of, text_of_lines}

pub texts_append : (xs ys : List Line) → text_of_lines (xs ++ ys) ≡ text_of_lines xs ++ text_of_lines ys
texts_append [] ys = refl
texts_append (x ∷ xs) ys = ap (λ z. line_text x ++ 10 ∷ z) (texts_append xs ys) ∙ sym (append_assoc (line_text x) (10 ∷ text_of_lines xs) (text_of_lines ys))

pub spaced_append : (ws vs : List Text) → spaced (ws ++ vs) ≡ spaced ws ++ spaced vs
spaced_append [] vs = refl
spaced_append (w ∷ ws) vs = ap (λ z. 32 ∷ (w ++ z)) (spaced_append ws vs) ∙ ap (λ z. 32 ∷ z) (sym (append_assoc w (spaced ws) (spaced vs)))

-- the lines of a rule with one premise, behind these bytes
pub premise_text : (out : Text) (first : Line) (inner : List Line) (last : Line) → (out ++ text_of_lines (first ∷ [])) ++ text_of_lines (inner ++ last ∷ []) ≡ out ++ text_of_lines (first ∷ (inner ++ last ∷ []))
premise_text out first inner last =
    append_assoc out (text_of_lines (first ∷ [])) (text_of_lines (inner ++ last ∷ []))
    ∙ ap (λ z. out ++ z) (sym (texts_append (first ∷ []) (inner ++ last ∷ [])))

pub two_texts : (out : Text) (xs ys : List Line) → (out ++ text_of_lines xs) ++ text_of_lines ys ≡ out ++ text_of_lines (xs ++ ys)
two_texts out xs ys = append_assoc out (text_of_lines xs) (text_of_lines ys) ∙ ap (λ z. out ++ z) (sym (texts_append xs ys))

-- those of a branch
pub sides_text : (out : Text) (first : Line) (a : List Line) (middle : Line) (b : List Line) (last : Line) → ((((out ++ text_of_lines (first ∷ [])) ++ text_of_lines a) ++ text_of_lines (middle ∷ [])) ++ text_of_lines b) ++ text_of_lines (last ∷ []) ≡ out ++ text_of_lines (first ∷ (a ++ middle ∷ (b ++ last ∷ [])))
sides_text out first a middle b last =
    two_texts (((out ++ text_of_lines (first ∷ [])) ++ text_of_lines a) ++ text_of_lines (middle ∷ [])) b (last ∷ [])
    ∙ two_texts ((out ++ text_of_lines (first ∷ [])) ++ text_of_lines a) (middle ∷ []) (b ++ last ∷ [])
    ∙ two_texts (out ++ text_of_lines (first ∷ [])) a (middle ∷ (b ++ last ∷ []))
    ∙ two_texts out (first ∷ []) (a ++ middle ∷ (b ++ last ∷ []))

-- the words of the first line of a `for`, behind these bytes
pub for_words : (out : Text) (set : Name) (owners : List Name) (drops : List Fact) → ((((out ++ codes "for") ++ spaced (set ∷ [])) ++ codes " by") ++ spaced owners) ++ spaced (drop_words drops) ≡ out ++ (codes "for" ++ spaced (set ∷ codes "by" ∷ (owners ++ drop_words drops)))
for_words out set owners drops =
    append_assoc (((out ++ codes "for") ++ spaced (set ∷ [])) ++ codes " by") (spaced owners) (spaced (drop_words drops))
    ∙ ap (λ z. (((out ++ codes "for") ++ spaced (set ∷ [])) ++ codes " by") ++ z) (sym (spaced_append owners (drop_words drops)))
    ∙ append_assoc ((out ++ codes "for") ++ spaced (set ∷ [])) (codes " by") (spaced (owners ++ drop_words drops))
    ∙ append_assoc (out ++ codes "for") (spaced (set ∷ [])) (spaced (codes "by" ∷ (owners ++ drop_words drops)))
    ∙ ap (λ z. (out ++ codes "for") ++ z) (sym (spaced_append (set ∷ []) (codes "by" ∷ (owners ++ drop_words drops))))
    ∙ append_assoc out (codes "for") (spaced (set ∷ codes "by" ∷ (owners ++ drop_words drops)))

-- a branch, written line by line
pub branch_written : (out o1 o2 o3 o4 o5 : Text) (s : Step) (t : Name) (a b : Steps) → s ≡ Branch t a b → o1 ≡ out ++ text_of_lines (first_line s ∷ []) → o2 ≡ o1 ++ text_of_lines (lines_of a) → o3 ≡ o2 ++ codes "else\n" → o4 ≡ o3 ++ text_of_lines (lines_of b) → o5 ≡ o4 ++ codes "join\n" → o5 ≡ out ++ text_of_lines (lines_in s)
branch_written out o1 o2 o3 o4 o5 s t a b is e1 e2 e3 e4 e5 =
    e5
    ∙ ap (λ z. z ++ codes "join\n") (e4 ∙ ap (λ z. z ++ text_of_lines (lines_of b)) (e3 ∙ ap (λ z. z ++ codes "else\n") (e2 ∙ ap (λ z. z ++ text_of_lines (lines_of a)) (e1 ∙ ap (λ z. out ++ text_of_lines (first_line z ∷ [])) is))))
    ∙ sides_text out (Fork t) (lines_of a) Else (lines_of b) Join
    ∙ ap (λ z. out ++ text_of_lines (lines_in z)) (sym is)

-- a step, written before those that are left
pub steps_written : (out next whole : Text) (s : tree.Step) (rest ss : List tree.Step) → ss ≡ s ∷ rest → out ++ text_of_lines (lines_of (steps_of ss)) ≡ whole → next ≡ out ++ text_of_lines (lines_in (step_of s)) → next ++ text_of_lines (lines_of (steps_of rest)) ≡ whole
steps_written out next whole s rest ss e h n =
    ap (λ z. z ++ text_of_lines (lines_of (steps_of rest))) n
    ∙ two_texts out (lines_in (step_of s)) (lines_of (steps_of rest))
    ∙ ap (λ z. out ++ text_of_lines (lines_of (steps_of z))) (sym e)
    ∙ h

-- the element at an index, and those behind it
pub here_and_behind : {A : Type 0} (xs : List A) (i : ℕ) (x : A) → i < length xs → x ≡ get_or xs i x → drop i xs ≡ x ∷ drop (i + 1) xs
here_and_behind xs i x lt e = drop-cons xs i x lt ∙ ap (λ z. z ∷ drop (suc i) xs) (sym e) ∙ ap (λ z. x ∷ drop z xs) (sym (add-one i))
