use Rattle.std.proofs.Common.{◌∙◌, ap}
use Rattle.std.specs.Result.{result_ok}
use Rattle.std.proofs.lemmas.Fmt.{parse-decimal}
use Rattle.brisk_lines.proofs.Decimals.{utf8_decimal, text_is_read, read_text}
use Rattle.brisk_derivtext.proofs.words.parsed_number.Goals as goal

pub returns-in_err-ok : goal.returns-in_err-ok
returns-in_err-ok c = λ n h e. absurd (text_is_read _ c.args.bytes.now c.from_utf8.result c.from_utf8.ensures.cases c.in_err-ok.ensures.value (utf8_decimal n c.args.bytes.now h e))

pub returns : goal.returns
returns c = λ n h e.
    let same = read_text _ c.args.bytes.now c.in_ok-ok.field-0 c.from_utf8.result c.from_utf8.ensures.cases c.in_ok-ok.ensures.value in
    c.ok-2.ensures.value ∙ ap result_ok (parse-decimal 64 n c.in_ok-ok.field-0.now c.parse.result h h (same ∙ e) c.parse.ensures.value.0)
