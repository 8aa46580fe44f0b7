-- The lines that are told in place of a command's own answer.
use Rattle.std.specs.Prelude.{ℕ, List, ◌++◌, codes, slice_get, Option, Some, None, option_map}
use Rattle.std.specs.Fmt.{decimal}
use Rattle.std.specs.Option.{unwrap_or}
use Rattle.brisk_basic.specs.declared.rule.RuleFault.{RuleFault}
use Rattle.brisk_basic.specs.declared.rule.RuleFault.TheVariants as rule
use Rattle.brisk_check.specs.declared.verdict.CheckFault.{CheckFault}
use Rattle.brisk_check.specs.declared.verdict.CheckFault.TheVariants as check
use Rattle.brisk_lex.specs.declared.token.Placed.{Placed}
use Rattle.brisk_lex.specs.declared.fault.LexFault.{LexFault}
use Rattle.brisk_lex.specs.declared.fault.LexFault.TheVariants as lex
use Rattle.brisk_parse.specs.declared.fault.ParseFault.{ParseFault}
use Rattle.brisk_parse.specs.declared.fault.ParseFault.TheVariants as parse
use Rattle.brisk_report.specs.Printing.{fault_text}
use Rattle.brisk_rules.specs.declared.why.Why.{Why}
use Rattle.brisk_rules.specs.declared.why.Why.TheVariants as why
use Rattle.brisk_schedule.specs.declared.fault.ScheduleFault.{ScheduleFault}
use Rattle.brisk_schedule.specs.declared.fault.ScheduleFault.TheVariants as schedule
use Rattle.brisk_types.specs.declared.fault.TypeFault.{TypeFault}
use Rattle.brisk_types.specs.declared.fault.TypeFault.TheVariants as types
use Rattle.brisk_cli.specs.Files.{Text}

-- the line on a file
abbrev pub file_line : Text → Text → Text
file_line name what = codes "file " ++ name ++ codes " " ++ what ++ codes "\n"

-- the line of a word, what is told of it, and a number
abbrev pub numbered : Text → Text → ℕ → Text
numbered word what n = word ++ codes " " ++ what ++ codes " " ++ decimal n ++ codes "\n"

-- the line of a word and a number
abbrev pub counted : Text → ℕ → Text
counted word n = word ++ codes " " ++ decimal n ++ codes "\n"

-- the line of a fault of tokens; want of memory has none
abbrev pub lex_line : Text → LexFault → Option Text
lex_line word (lex.NotUtf8 at) = Some (numbered word (codes "NotUtf8") at)
lex_line word (lex.BadChar at) = Some (numbered word (codes "BadChar") at)
lex_line word (lex.NumberTooLarge at) = Some (numbered word (codes "NumberTooLarge") at)
lex_line word (lex.NameTooLong at) = Some (numbered word (codes "NameTooLong") at)
lex_line word lex.NoMemory = None

-- the byte where a token begins, or the end of the text
abbrev pub byte_of : List Placed → ℕ → ℕ → ℕ
byte_of ts end k = unwrap_or (option_map (λ p. p.at) (slice_get ts k)) end

-- the line of a fault of the grammar
abbrev pub parse_line : Text → List Placed → ℕ → ParseFault → Option Text
parse_line word ts end (parse.SyntaxFault k) = Some (numbered word (codes "SyntaxFault") (byte_of ts end k))
parse_line word ts end (parse.TooDeep k) = Some (numbered word (codes "TooDeep") (byte_of ts end k))
parse_line word ts end (parse.TooMany k) = Some (numbered word (codes "TooMany") (byte_of ts end k))
parse_line word ts end parse.NoMemory = None

-- the line of a fault of typing
abbrev pub type_line : Text → List Placed → ℕ → TypeFault → Option Text
type_line word ts end (types.Unknown k) = Some (numbered word (codes "Unknown") (byte_of ts end k))
type_line word ts end (types.Twice k) = Some (numbered word (codes "Twice") (byte_of ts end k))
type_line word ts end (types.NotASet k) = Some (numbered word (codes "NotASet") (byte_of ts end k))
type_line word ts end (types.NotSingle k) = Some (numbered word (codes "NotSingle") (byte_of ts end k))
type_line word ts end (types.SelfPartner k) = Some (numbered word (codes "SelfPartner") (byte_of ts end k))
type_line word ts end (types.WrongCount k) = Some (numbered word (codes "WrongCount") (byte_of ts end k))
type_line word ts end (types.WrongKind k) = Some (numbered word (codes "WrongKind") (byte_of ts end k))
type_line word ts end types.NoMemory = None

-- the line of a fault of a schedule or of choices
abbrev pub schedule_line : Text → ScheduleFault → Option Text
schedule_line word (schedule.Text k) = Some (numbered word (codes "Text") k)
schedule_line word (schedule.Misfit k) = Some (numbered word (codes "Misfit") k)
schedule_line word (schedule.TooLarge k) = Some (numbered word (codes "TooLarge") k)
schedule_line word schedule.NoMemory = None

-- the line of a fault of a derivation's text
abbrev pub derivation_line : CheckFault → Option Text
derivation_line (check.Deriv k) = Some (numbered (codes "derivation") (codes "Line") k)
derivation_line (check.TooLarge k) = Some (numbered (codes "derivation") (codes "TooLarge") k)
derivation_line check.NoMemory = None

-- the name of a basic rule's own test
abbrev pub rule_text : RuleFault → Option Text
rule_text rule.NoThread = Some (codes "NoThread")
rule_text rule.WrongHead = Some (codes "WrongHead")
rule_text rule.BoxInUse = Some (codes "BoxInUse")
rule_text rule.AlreadyPending = Some (codes "AlreadyPending")
rule_text rule.NothingPending = Some (codes "NothingPending")
rule_text rule.NotKnown = Some (codes "NotKnown")
rule_text rule.NoMemory = None

-- the name of a test, and of the thread that it names
abbrev pub why_text : Why → Option Text
why_text (why.Rule fault) = rule_text fault
why_text (why.Side fault) = Some (fault_text fault)

-- the line of a derivation of which this test is the first that fails, at this line
abbrev pub failing : ℕ → Text → Text
failing line test = codes "invalid " ++ decimal line ++ codes " " ++ test ++ codes "\n"

abbrev pub invalid_line : ℕ → Why → Option Text
invalid_line line w = option_map (failing line) (why_text w)
