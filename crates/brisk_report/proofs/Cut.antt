-- The lines of steps, cut out of a derivation's text.
use Rattle.std.proofs.Common.{◌≡◌, ℕ, ◌-◌, ◌≤◌, [], ◌∷◌, ◌++◌, length, take, drop, ap, ◌∙◌, length-append, arith}
use Rattle.std.proofs.Math.Seq.{drop-append_seam, take-append_seam}
use Rattle.std.specs.Prelude.{codes}
use Rattle.std.specs.List.{slice_range}
use Rattle.brisk_text.specs.Values.{Text}
use Rattle.brisk_derivation.specs.Steps.{Steps}
use Rattle.brisk_derivtext.specs.declared.line.Line.TheVariants.{End}
use Rattle.brisk_derivtext.specs.Texts.{derivation_text, lines_of}
use Rattle.brisk_derivtext.proofs.Appended.{texts_append}
use Rattle.brisk_report.specs.Printing.{steps_text}

-- the text, with its first line and its last
whole : (D : Steps) → derivation_text D ≡ codes "brisk derivation 1\n" ++ (steps_text D ++ codes "end\n")
whole D = ap (λ z. codes "brisk derivation 1\n" ++ z) (texts_append (lines_of D) (End ∷ []))

-- what stands between
between : (a b c : Text) → slice_range (a ++ (b ++ c)) (length a) (length (a ++ (b ++ c)) - length c) ≡ b
between a b c =
    let x = length-append a (b ++ c) in let y = length-append b c in
    let middle : length (a ++ (b ++ c)) - length c - length a ≡ length b = omega (arith, x, y) in
    ap (λ k. take k (drop (length a) (a ++ (b ++ c)))) middle ∙ ap (take (length b)) (drop-append_seam a (b ++ c)) ∙ take-append_seam b c

module _ (D : Steps) (text : Text) (n : ℕ) (written : text ≡ derivation_text D) (long : n ≡ length text) where
  pub cut : slice_range text 19 (n - 4) ≡ steps_text D
  cut = ap (λ k. slice_range text 19 (k - 4)) long ∙ ap (λ z. slice_range z 19 (length z - 4)) (written ∙ whole D) ∙ between (codes "brisk derivation 1\n") (steps_text D) (codes "end\n")

  pub long_enough : 19 ≤ n - 4
  long_enough =
      let x = ap length (written ∙ whole D) ∙ length-append (codes "brisk derivation 1\n") (steps_text D ++ codes "end\n") in
      let y = length-append (steps_text D) (codes "end\n") in
      omega (arith, x, y, long)
