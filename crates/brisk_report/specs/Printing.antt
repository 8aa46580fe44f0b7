-- The text of a report: what is left where the program stops, the steps that lead there, and what was tried.
use Rattle.std.specs.Prelude.{List, [], ◌∷◌, ◌++◌, filter, flat_map, Result, Ok, Err, codes}
use Rattle.std.specs.Fmt.{decimal}
use Rattle.brisk_values.specs.Names.{Name, same_name}
use Rattle.brisk_syntax.specs.declared.program.Program.{Program}
use Rattle.brisk_syntax.specs.Syntax.{Code, done, ◌⨾◌}
use Rattle.brisk_state.specs.declared.pending.Pending.{Pending}
use Rattle.brisk_state.specs.declared.thread.Thread.{Thread}
use Rattle.brisk_state.specs.Pending.{messages}
use Rattle.brisk_state.specs.Symbolic.{Symbolic, initial}
use Rattle.brisk_derivation.specs.declared.fault.SideFault.{SideFault}
use Rattle.brisk_derivation.specs.declared.fault.SideFault.TheVariants as side
use Rattle.brisk_derivation.specs.declared.report.Report.{Report}
use Rattle.brisk_derivation.specs.Reports.{Try, Tried, TryEnd, Fails, StuckFirst, StuckSecond, Tries, no_tries, ◌▹◌}
use Rattle.brisk_derivation.specs.Steps.{Step, Branch, Steps}
use Rattle.brisk_derivtext.specs.Texts.{first_line, lines_of, text_of_lines}
use Rattle.brisk_rules.specs.Following.{nothing_follows}
use Rattle.brisk_rules.specs.Derives.{Failure, Derived, derive_all}
use Rattle.brisk_rules.specs.Reports.{premise_of}
use Rattle.brisk_print.specs.Layout.{head}
use Rattle.brisk_text.specs.Values.{Text}

-- the line of a thread, if it has code left
abbrev pub left_line : Name → Code → Text
left_line t done = []
left_line t (s ⨾ rest) = codes "left " ++ t ++ codes ": " ++ head s ++ codes "\n"

-- what the threads have left to do, in role order
abbrev pub left_text : List Thread → Text
left_text threads = flat_map (λ t. left_line t.name t.code) threads

-- from where to where a message goes
unfoldable pub ends_text : Pending → Text
ends_text m = codes "mail " ++ m.from ++ codes " to " ++ m.to

-- the line of a pending message
abbrev pub message_line : Pending → Text
message_line m = ends_text m ++ codes " " ++ m.channel ++ codes " box " ++ decimal m.number ++ codes "\n"

-- those of the messages that are on this channel
abbrev pub channel_text : List Pending → Name → Text
channel_text ms c = flat_map message_line (filter (λ m. same_name c m.channel) ms)

-- the messages by channel, in order of declaration
abbrev pub channels_text : Program → List Pending → Text
channels_text P ms = flat_map (λ c. channel_text ms c.name) P.channels

-- those of the messages that are for this thread
abbrev pub receiver_text : Program → List Pending → Name → Text
receiver_text P ms u = channels_text P (filter (λ m. same_name u m.to) ms)

-- the messages by receiver and channel, in order of declaration
abbrev pub receivers_text : Program → List Pending → Text
receivers_text P ms = flat_map (λ r. receiver_text P ms r.name) P.roles

-- those of the messages that this thread sent
abbrev pub sender_text : Program → List Pending → Name → Text
sender_text P ms t = receivers_text P (filter (λ m. same_name t m.from) ms)

-- the messages by sender, receiver and channel, in order of declaration
abbrev pub mail_text : Program → List Pending → Text
mail_text P ms = flat_map (λ r. sender_text P ms r.name) P.roles

-- the steps
abbrev pub steps_text : Steps → Text
steps_text D = text_of_lines (lines_of D)

-- the first line of a rule
abbrev pub rule_text : Step → Text
rule_text s = text_of_lines (first_line s ∷ [])

-- a test that failed: its name, and the thread that it names
abbrev pub fault_text : SideFault → Text
fault_text side.TooDeep = codes "TooDeep"
fault_text side.SetIsFocused = codes "SetIsFocused"
fault_text side.MayBeEmpty = codes "MayBeEmpty"
fault_text (side.OwnerUnfinished t) = codes "OwnerUnfinished " ++ t
fault_text (side.NotRestored t) = codes "NotRestored " ++ t
fault_text side.MailChanged = codes "MailChanged"
fault_text side.FactLost = codes "FactLost"
fault_text side.MailLeft = codes "MailLeft"
fault_text side.NotQuiet = codes "NotQuiet"
fault_text side.BranchesDiffer = codes "BranchesDiffer"
fault_text (side.Unfinished t) = codes "Unfinished " ++ t
fault_text side.ManyPending = codes "ManyPending"
fault_text side.SenderNotQuiet = codes "SenderNotQuiet"

-- the second side of a branch that was tried, where it was begun
abbrev pub second_text : Steps → TryEnd → Text
second_text b (StuckSecond tries) = codes "else\n" ++ steps_text b
second_text b (Fails side.BranchesDiffer) = codes "else\n" ++ steps_text b
second_text b end = []

-- the steps of a try
abbrev pub tried_text : Step → TryEnd → Text
tried_text (Branch t a b) end = steps_text a ++ second_text b end
tried_text rule end = steps_text (premise_of rule)

-- what was tried in a stuck state, and how each try ended
abbrev mutual
  pub tries_text : Tries → Text
  tries_text no_tries = []
  tries_text (t ▹ more) = try_text t ++ tries_text more

  pub try_text : Try → Text
  try_text (Tried rule end) = codes "try " ++ rule_text rule ++ tried_text rule end ++ end_text end

  pub end_text : TryEnd → Text
  end_text (Fails why) = codes "fails " ++ fault_text why ++ codes "\n"
  end_text (StuckFirst tries) = codes "stuck\n" ++ tries_text tries ++ codes "done\n"
  end_text (StuckSecond tries) = codes "stuck\n" ++ tries_text tries ++ codes "done\n"

-- a stuck state, with what was tried there
abbrev pub stuck_text : Tries → Text
stuck_text tries = codes "stuck\n" ++ tries_text tries ++ codes "done\n"

-- the text of a report whose steps lead to this state
abbrev pub text_at : Program → Report → Symbolic → Text
text_at P R S = codes "leftover\n" ++ left_text S.threads ++ mail_text P (messages S.pending) ++ codes "report\n" ++ steps_text R.steps ++ stuck_text R.tries

-- the steps of a report that holds do lead to a state
abbrev pub text_of : Program → Report → Result Derived Failure → Text
text_of P R (Ok d) = text_at P R d.state
text_of P R (Err failure) = []

-- the text of a report
abbrev pub report_text : Program → Report → Text
report_text P R = text_of P R (derive_all P 0 nothing_follows R.steps 2 (initial P))
