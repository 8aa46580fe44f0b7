-- Texts of reports.
use Rattle.std.specs.Prelude.{◌≡◌, codes}
use Rattle.brisk_sound.specs.ReportExamples.{crossed_report, nested_for_report, overtaking_report, maybe_empty_server_report, one_sided_report}
use Rattle.brisk_sound.specs.Samples.{crossed, maybe_empty_server}
use Rattle.brisk_sound.specs.Protocols.{overtaking, nested_for, one_sided}
use Rattle.brisk_report.specs.Printing.{report_text}

pub record ReportTexts : Type 0 where
  pub crossed_text : report_text crossed crossed_report ≡ codes "leftover\nleft A: recv Ping(x) from B;\nleft B: recv Pong(y) from A;\nreport\nstuck\ndone\n"
  pub nested_for_text : report_text nested_for nested_for_report ≡ codes "leftover\nleft M: for u in Ws {\nreport\nstuck\ntry for Ws by M drop\nstuck\ntry for Ws by M drop\nfails SetIsFocused\ndone\ndone\n"
  pub overtaking_text : report_text overtaking overtaking_report ≡ codes "leftover\nleft M: repeat Ws {\nmail Ws to M T box 1\nmail Ws to M T box 2\nreport\nfor Ws by drop\nfill Ws M T 1\nfill Ws M T 2\nclose\nstuck\ntry repeat M drop\nstuck\ntry pick M drop\nfails MayBeEmpty\ndone\ndone\n"
  pub maybe_empty_server_text : report_text maybe_empty_server maybe_empty_server_report ≡ codes "leftover\nleft M: while k < n {\nleft Ws: while go {\nreport\nstuck\ntry while M drop\nstuck\ntry pick M drop\nfails MayBeEmpty\ndone\ntry for Ws by drop\nknown Ws\nfill Ws M Ready 1\nstuck\ntry while M drop\nstuck\ntry pick M drop\nfails SetIsFocused\ndone\ndone\ndone\n"
  pub one_sided_text : report_text one_sided one_sided_report ≡ codes "leftover\nleft A: if b {\nreport\nstuck\ntry branch A\nfill A B T 1\nelse\nfails BranchesDiffer\ndone\n"
