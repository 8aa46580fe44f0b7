-- The lines of derivation texts, as words without the byte 10 at their end, and which lines are legal.
use Rattle.std.specs.Prelude.{◌≡◌, ◌≤◌, List, [], ◌∷◌, ◌++◌, map, codes}
use Rattle.std.specs.Fmt.{decimal}
use Rattle.std.specs.List.{AllByRecursion}
use Rattle.brisk_lex.specs.Spelled.{IsName}
use Rattle.brisk_text.specs.Values.{Text}
use Rattle.brisk_derivation.specs.declared.steps.BasicStep.{BasicStep}
use Rattle.brisk_derivation.specs.declared.steps.BasicStep.TheVariants as basic
use Rattle.brisk_derivation.specs.declared.steps.Fact.{Fact}
use Rattle.brisk_derivtext.specs.declared.line.Format.{Format}
use Rattle.brisk_derivtext.specs.declared.line.Format.TheVariants.{Format1, Format2}
use Rattle.brisk_derivtext.specs.declared.line.Loop.{Loop}
use Rattle.brisk_derivtext.specs.declared.line.Loop.TheVariants.{While, For, Repeat, Gather, Pick}
use Rattle.brisk_derivtext.specs.declared.line.Line.{Line}
use Rattle.brisk_derivtext.specs.declared.line.Line.TheVariants.{Head, Plain, Fork, Enter, Else, Join, Close, End, Part, EndPart, Use}

-- a fact that is dropped, with a dot between its names
abbrev pub fact_text : Fact → Text
fact_text f = f.at ++ 46 ∷ f.variable

-- the words of what a rule drops
abbrev pub drop_words : List Fact → List Text
drop_words drops = codes "drop" ∷ map fact_text drops

-- the first word of a line
abbrev pub first_word : Line → Text
first_word (Head format) = codes "brisk"
first_word (Plain (basic.Assign t)) = codes "assign"
first_word (Plain (basic.Fill t u c n)) = codes "fill"
first_word (Plain (basic.Pass t u c)) = codes "pass"
first_word (Plain (basic.Take t u c)) = codes "take"
first_word (Plain (basic.Known t)) = codes "known"
first_word (Fork t) = codes "branch"
first_word (Enter (While t drops)) = codes "while"
first_word (Enter (For s ts drops)) = codes "for"
first_word (Enter (Repeat t drops)) = codes "repeat"
first_word (Enter (Gather t drops)) = codes "gather"
first_word (Enter (Pick t drops)) = codes "pick"
first_word Else = codes "else"
first_word Join = codes "join"
first_word Close = codes "close"
first_word End = codes "end"
first_word (Part name) = codes "part"
first_word EndPart = codes "endpart"
first_word (Use name) = codes "use"

-- the number of a format
abbrev pub format_word : Format → Text
format_word Format1 = codes "1"
format_word Format2 = codes "2"

-- the words of a basic step after the first
abbrev pub basic_words : BasicStep → List Text
basic_words (basic.Assign t) = t ∷ []
basic_words (basic.Fill t u c n) = t ∷ u ∷ c ∷ decimal n ∷ []
basic_words (basic.Pass t u c) = t ∷ u ∷ c ∷ []
basic_words (basic.Take t u c) = t ∷ u ∷ c ∷ []
basic_words (basic.Known t) = t ∷ []

-- the words of a rule's first line after the first
abbrev pub loop_words : Loop → List Text
loop_words (While t drops) = t ∷ drop_words drops
loop_words (For s ts drops) = s ∷ codes "by" ∷ (ts ++ drop_words drops)
loop_words (Repeat t drops) = t ∷ drop_words drops
loop_words (Gather t drops) = t ∷ drop_words drops
loop_words (Pick t drops) = t ∷ drop_words drops

-- the words of a line after the first
abbrev pub more_words : Line → List Text
more_words (Head format) = codes "derivation" ∷ format_word format ∷ []
more_words (Plain b) = basic_words b
more_words (Fork t) = t ∷ []
more_words (Enter loop) = loop_words loop
more_words Else = []
more_words Join = []
more_words Close = []
more_words End = []
more_words (Part name) = name ∷ []
more_words EndPart = []
more_words (Use name) = name ∷ []

-- each word with a space before
abbrev pub spaced : List Text → Text
spaced [] = []
spaced (w ∷ ws) = 32 ∷ (w ++ spaced ws)

-- the bytes of a line
abbrev pub line_text : Line → Text
line_text l = first_word l ++ spaced (more_words l)

-- the names of a fact are names of the language
abbrev pub IsLegalFact : Fact → Type 0
IsLegalFact f = IsName f.at × IsName f.variable

-- the names of a basic step are names of the language, and a box has a number from 1 to 1,000,000
abbrev pub IsLegalBasic : BasicStep → Type 0
IsLegalBasic (basic.Assign t) = IsName t
IsLegalBasic (basic.Fill t u c n) = IsName t × IsName u × IsName c × (1 ≤ n) × (n ≤ 1000000)
IsLegalBasic (basic.Pass t u c) = IsName t × IsName u × IsName c
IsLegalBasic (basic.Take t u c) = IsName t × IsName u × IsName c
IsLegalBasic (basic.Known t) = IsName t

-- the names of a rule are names of the language
abbrev pub IsLegalLoop : Loop → Type 0
IsLegalLoop (While t drops) = IsName t × AllByRecursion IsLegalFact drops
IsLegalLoop (For s ts drops) = IsName s × AllByRecursion IsName ts × AllByRecursion IsLegalFact drops
IsLegalLoop (Repeat t drops) = IsName t × AllByRecursion IsLegalFact drops
IsLegalLoop (Gather t drops) = IsName t × AllByRecursion IsLegalFact drops
IsLegalLoop (Pick t drops) = IsName t × AllByRecursion IsLegalFact drops

-- all that a line names is named by names of the language, and its number is within its bounds
abbrev pub IsLegal : Line → Type 0
IsLegal (Head format) = Unit {0}
IsLegal (Plain b) = IsLegalBasic b
IsLegal (Fork t) = IsName t
IsLegal (Enter loop) = IsLegalLoop loop
IsLegal Else = Unit {0}
IsLegal Join = Unit {0}
IsLegal Close = Unit {0}
IsLegal End = Unit {0}
IsLegal (Part name) = IsName name
IsLegal EndPart = Unit {0}
IsLegal (Use name) = IsName name

-- the text begins with the line, which byte 10 ends, and this stands behind
abbrev pub BeginsWith : Text → Line → Text → Type 0
BeginsWith text l more = IsLegal l × (text ≡ line_text l ++ 10 ∷ more)
