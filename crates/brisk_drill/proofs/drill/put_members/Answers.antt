use Rattle.std.proofs.Common.{◌≡◌, ℕ, suc, ◌+◌, ◌++◌, refl, sym, ap, ◌∙◌, append_assoc, add-one}
use Rattle.brisk_text.specs.Values.{Text}
use Rattle.brisk_drill.specs.Drill.{members}
use Rattle.brisk_drill.proofs.drill.put_members.Goals as goal

-- a text that grows by a piece each time
grown : (text : ℕ → Text) (k : ℕ) (old out next piece : Text) → out ≡ old ++ text k → next ≡ out ++ piece → text (suc k) ≡ text k ++ piece → next ≡ old ++ text (k + 1)
grown text k old out next piece so_far more step =
    more ∙ ap (λ z. z ++ piece) so_far ∙ append_assoc old (text k) piece ∙ ap (λ z. old ++ z) (sym step ∙ ap text (sym (add-one k)))

pub loop-round-preserved : goal.loop-round-preserved
loop-round-preserved c = grown members c.loop-round._round _ _ _ _ c.loop-round.invariant c.in_ok-put-2.ensures refl
