use Rattle.std.proofs.Common.{◌≡◌, ◌∷◌, ◌++◌, List, ℕ, ap, ◌∙◌}
use Rattle.brisk_lines.specs.declared.line.Line.{Line}
use Rattle.brisk_lines.specs.Lines.{BeginsWith}
use Rattle.brisk_lines.proofs.Ended.{front_line, nothing_first}
use Rattle.brisk_lines.proofs.read.first_line.Goals as goal

pub returns-in_err-line : goal.returns-in_err-line
returns-in_err-line c =
    let text = c.args.text.now in
    let front = c.cut.result.0.now in
    let rest = c.in_ok-rest.rest.now in
    let whole : text ≡ front ++ 10 ∷ rest = c.cut.ensures.whole ∙ ap (λ x. front ++ x) c.in_ok-rest.ensures in
    let none = λ (l : Line) (more : List ℕ) (h : BeginsWith text l more). c.in_err-line.ensures l h.0 (front_line text front rest c.cut.ensures.front_lacks whole l more h.0 h.1) in
    nothing_first _ text c.from_residual-in_err-line.result c.from_residual-in_err-line.ensures none
