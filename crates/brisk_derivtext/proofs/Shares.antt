-- The texts of parts and of their uses, one after another.
use Rattle.std.proofs.Common.{◌≡◌, ◌+◌, ◌<◌, ℕ, List, [], ◌∷◌, ◌++◌, drop, take, get_or, length, map, suc, refl, sym, ap, ◌∙◌, append_assoc, append-nil, add-one, drop-cons}
use Rattle.std.proofs.Math.Seq.{take-suc}
use Rattle.std.proofs.lemmas.List.{map-append}
use Rattle.std.specs.Borrow.{Bor}
use Rattle.std.specs.Prelude.{codes}
use Rattle.brisk_text.specs.Values.{Text}
use Rattle.brisk_derivation.specs.declared.steps.Step as tree
use Rattle.brisk_derivation.specs.Seen.{step_of, steps_of}
use Rattle.brisk_derivation.specs.Steps.{Step, Branch, Steps}
use Rattle.brisk_derivtext.specs.declared.line.Format.TheVariants.{Format2}
use Rattle.brisk_derivtext.specs.declared.line.Line.{Line}
use Rattle.brisk_derivtext.specs.declared.line.Line.TheVariants.{Head, Fork, Else, Join, End, Part, EndPart}
use Rattle.brisk_derivtext.specs.Parts.{part_lines, parts_lines, place_lines, places_lines}
use Rattle.brisk_derivtext.specs.Shared.{name_of, opened, part, part_name, parts_of, second_text, shared, used, written}
use Rattle.brisk_derivtext.specs.SharedKept.{steps_at}
use Rattle.brisk_derivtext.specs.Texts.{first_line, text_of_lines}
use Rattle.brisk_derivtext.proofs.Appended.{sides_text, two_texts}

-- a branch with the uses of parts in it, written line by line
pub fork_written : (ps : List Step) (out o1 o2 o3 o4 o5 : Text) (s : Step) (t : _) (a b : Steps) → s ≡ Branch t a b → o1 ≡ out ++ text_of_lines (first_line s ∷ []) → o2 ≡ o1 ++ text_of_lines (places_lines (shared ps a)) → o3 ≡ o2 ++ codes "else\n" → o4 ≡ o3 ++ text_of_lines (places_lines (shared ps b)) → o5 ≡ o4 ++ codes "join\n" → o5 ≡ out ++ text_of_lines (place_lines (opened ps s))
fork_written ps out o1 o2 o3 o4 o5 s t a b is e1 e2 e3 e4 e5 =
    e5
    ∙ ap (λ z. z ++ codes "join\n") (e4 ∙ ap (λ z. z ++ text_of_lines (places_lines (shared ps b))) (e3 ∙ ap (λ z. z ++ codes "else\n") (e2 ∙ ap (λ z. z ++ text_of_lines (places_lines (shared ps a))) (e1 ∙ ap (λ z. out ++ text_of_lines (first_line z ∷ [])) is))))
    ∙ sides_text out (Fork t) (places_lines (shared ps a)) Else (places_lines (shared ps b)) Join
    ∙ ap (λ z. out ++ text_of_lines (place_lines (opened ps z))) (sym is)

-- a step's place, written before those that are left
pub place_written : (ps : List Step) (out next whole : Text) (s : tree.Step) (rest ss : List tree.Step) → ss ≡ s ∷ rest → out ++ text_of_lines (places_lines (shared ps (steps_of ss))) ≡ whole → next ≡ out ++ text_of_lines (place_lines (used (name_of ps (step_of s)) (opened ps (step_of s)))) → next ++ text_of_lines (places_lines (shared ps (steps_of rest))) ≡ whole
place_written ps out next whole s rest ss e h n =
    ap (λ z. z ++ text_of_lines (places_lines (shared ps (steps_of rest)))) n
    ∙ two_texts out (place_lines (used (name_of ps (step_of s)) (opened ps (step_of s)))) (places_lines (shared ps (steps_of rest)))
    ∙ ap (λ z. out ++ text_of_lines (places_lines (shared ps (steps_of z)))) (sym e)
    ∙ h

-- a part, written line by line
pub part_written : (before : List Step) (p : Step) (out o1 o2 o3 : Text) (n : ℕ) → n ≡ length before + 1 → o1 ≡ out ++ text_of_lines (Part (part_name n) ∷ []) → o2 ≡ o1 ++ text_of_lines (place_lines (opened before p)) → o3 ≡ o2 ++ codes "endpart\n" → o3 ≡ out ++ text_of_lines (part_lines (part before p))
part_written before p out o1 o2 o3 n e e1 e2 e3 =
    e3
    ∙ ap (λ z. z ++ codes "endpart\n") (e2 ∙ ap (λ z. z ++ text_of_lines (place_lines (opened before p))) (e1 ∙ ap (λ z. out ++ text_of_lines (Part (part_name z) ∷ [])) e))
    ∙ two_texts (out ++ text_of_lines (Part (part_name (length before + 1)) ∷ [])) (place_lines (opened before p)) (EndPart ∷ [])
    ∙ two_texts out (Part (part_name (length before + 1)) ∷ []) (place_lines (opened before p) ++ EndPart ∷ [])
    ∙ ap (λ z. out ++ text_of_lines (Part (part_name (length before + 1)) ∷ (z ++ EndPart ∷ []))) (sym (append-nil (place_lines (opened before p))))

-- a part, written before those that are left
pub next_part : (ps : List (Bor tree.Step)) (i : ℕ) (p : Bor tree.Step) (out next whole : Text) → i < length ps → p ≡ get_or ps i p → out ++ text_of_lines (parts_lines (written (steps_at (take i ps)) (steps_at (drop i ps)))) ≡ whole → next ≡ out ++ text_of_lines (part_lines (part (steps_at (take i ps)) (step_of p.now))) → next ++ text_of_lines (parts_lines (written (steps_at (take (i + 1) ps)) (steps_at (drop (i + 1) ps)))) ≡ whole
next_part ps i p out next whole lt e h n =
    let here : drop i ps ≡ p ∷ drop (i + 1) ps = drop-cons ps i p lt ∙ ap (λ z. z ∷ drop (suc i) ps) (sym e) ∙ ap (λ z. p ∷ drop z ps) (sym (add-one i)) in
    let so : take (i + 1) ps ≡ take i ps ++ p ∷ [] = ap (λ z. take z ps) (add-one i) ∙ take-suc ps i p lt ∙ ap (λ z. take i ps ++ z ∷ []) (sym e) in
    let before : steps_at (take (i + 1) ps) ≡ steps_at (take i ps) ++ step_of p.now ∷ [] = ap steps_at so ∙ map-append (λ (q : Bor tree.Step). step_of q.now) (take i ps) (p ∷ []) in
    ap (λ z. next ++ text_of_lines (parts_lines (written z (steps_at (drop (i + 1) ps))))) before
    ∙ ap (λ z. z ++ text_of_lines (parts_lines (written (steps_at (take i ps) ++ step_of p.now ∷ []) (steps_at (drop (i + 1) ps))))) n
    ∙ two_texts out (part_lines (part (steps_at (take i ps)) (step_of p.now))) (parts_lines (written (steps_at (take i ps) ++ step_of p.now ∷ []) (steps_at (drop (i + 1) ps))))
    ∙ ap (λ z. out ++ text_of_lines (parts_lines (written (steps_at (take i ps)) (steps_at z)))) (sym here)
    ∙ h

-- the whole text
pub second_written : (D : Steps) (ps : List Step) (o1 o2 o3 o4 : Text) → ps ≡ parts_of D → o1 ≡ codes "brisk derivation 2\n" → o2 ≡ o1 ++ text_of_lines (parts_lines (written [] ps)) → o3 ≡ o2 ++ text_of_lines (places_lines (shared ps D)) → o4 ≡ o3 ++ codes "end\n" → o4 ≡ second_text D
second_written D ps o1 o2 o3 o4 e e1 e2 e3 e4 =
    let head = Head Format2 ∷ [] in
    let parts = parts_lines (written [] ps) in
    let main = places_lines (shared ps D) in
    e4
    ∙ ap (λ z. z ++ codes "end\n") (e3 ∙ ap (λ z. z ++ text_of_lines main) (e2 ∙ ap (λ z. z ++ text_of_lines parts) e1))
    ∙ two_texts (text_of_lines head ++ text_of_lines parts) main (End ∷ [])
    ∙ two_texts (text_of_lines head) parts (main ++ End ∷ [])
    ∙ two_texts [] head (parts ++ (main ++ End ∷ []))
    ∙ ap (λ z. text_of_lines (Head Format2 ∷ (parts_lines (written [] z) ++ (places_lines (shared z D) ++ End ∷ [])))) e
