use Rattle.std.proofs.Common.{◌≡◌, Option, subst, sym, arith}
use Rattle.brisk_lines.specs.Lines.{Reads}
use Rattle.brisk_derivtext.specs.declared.line.Line.{Line}
use Rattle.brisk_derivtext.specs.Kept.{reading_of}
use Rattle.brisk_derivtext.specs.Lined.{Lined, Refuses, number_behind}
use Rattle.brisk_derivtext.specs.Lines.{line_text, IsLegal}
use Rattle.brisk_derivtext.proofs.Lined.{refused_line}
use Rattle.brisk_derivtext.proofs.reader.Lines.read.Goals as goal

pub returns-in-Err-clause-cause : goal.returns-in-Err-clause-cause
returns-in-Err-clause-cause c =
    let P : Option Line → Type 0 = λ o. Reads line_text IsLegal c.args.bytes.now o in
    let reads = subst P c.in-Some.is c.in_ok-line.ensures in
    let u : Lined = record { count = c.self.inside.count; reading = reading_of c.self.inside.reading } in
    let number : c.saturating_add-count.result ≡ number_behind c.self.inside.count = omega arith in
    let refused = refused_line u c.args.bytes.now c.in-Some.line c.saturating_add-count.result c.in-Err.refusal reads number c.in-Err.ensures in
    let Q : Lined → Type 0 = λ z. Refuses z c.args.bytes.now c.fault_at.result in
    subst Q c.self.view_is (subst (Refuses u c.args.bytes.now) (sym c.fault_at.ensures) refused)
