-- Two words that name no file.
use Rattle.std.proofs.Common.{◌≡◌, ℕ, Bool, false, [], ◌∷◌, Option, Some, Result, sym, subst}
use Rattle.std.specs.Prelude.{codes, if◌then◌else◌}
use Rattle.std.specs.Str.{bytes_eq}
use Rattle.brisk_cli.specs.declared.answer.Answer.{Answer}
use Rattle.brisk_cli.specs.declared.answer.Stopped.{Stopped}
use Rattle.brisk_cli.specs.Answers.{IfAnswer, IsDueFor}
use Rattle.brisk_cli.specs.Commands.{Command, Derive, Rewrite, command_of, drill_of}
use Rattle.brisk_cli.specs.Files.{Text}

-- two words of which the first is neither of these are at most a drill
pub no_file : (w f : Text) → bytes_eq w (codes "rewrite") ≡ false → bytes_eq w (codes "derive") ≡ false → command_of (w ∷ f ∷ []) ≡ drill_of w f
no_file w f h g = λ i. if h i then Some (Rewrite f) else if g i then Some (Derive f) else drill_of w f

-- a status that is due for one command is due for the same command
pub due_as : (o o' : Option Command) → o ≡ o' → (misses misses' faults faults' : ℕ) (r : Result Answer Stopped) → IfAnswer (λ s t. IsDueFor o' misses misses' faults faults' s) r → IfAnswer (λ s t. IsDueFor o misses misses' faults faults' s) r
due_as o o' is misses misses' faults faults' r h =
    subst (λ (k : Option Command). IfAnswer (λ s t. IsDueFor k misses misses' faults faults' s) r) (sym is) h
