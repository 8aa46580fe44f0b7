-- The first words of lines.
use Rattle.std.specs.Prelude.{if◌then◌else◌, Bool, true, false, List, [], ◌∷◌, Option, Some, None, codes}
use Rattle.brisk_text.specs.Values.{Text}
use Rattle.brisk_values.specs.Names.{same_name}
use Rattle.brisk_derivation.specs.declared.steps.BasicStep.TheVariants as basic
use Rattle.brisk_derivtext.specs.declared.keyword.Keyword.{Keyword}
use Rattle.brisk_derivtext.specs.declared.keyword.Keyword.TheVariants as keyword
use Rattle.brisk_derivtext.specs.declared.line.Loop.TheVariants.{While, For, Repeat, Gather, Pick}
use Rattle.brisk_derivtext.specs.declared.line.Line.{Line}
use Rattle.brisk_derivtext.specs.declared.line.Line.TheVariants.{Head, Plain, Fork, Enter, Else, Join, Close, End, Part, EndPart, Use}

-- the word
abbrev pub keyword_text : Keyword → Text
keyword_text keyword.Brisk = codes "brisk"
keyword_text keyword.Assign = codes "assign"
keyword_text keyword.Fill = codes "fill"
keyword_text keyword.Pass = codes "pass"
keyword_text keyword.Take = codes "take"
keyword_text keyword.Known = codes "known"
keyword_text keyword.Branch = codes "branch"
keyword_text keyword.While = codes "while"
keyword_text keyword.For = codes "for"
keyword_text keyword.Repeat = codes "repeat"
keyword_text keyword.Gather = codes "gather"
keyword_text keyword.Pick = codes "pick"
keyword_text keyword.Else = codes "else"
keyword_text keyword.Join = codes "join"
keyword_text keyword.Close = codes "close"
keyword_text keyword.End = codes "end"
keyword_text keyword.Part = codes "part"
keyword_text keyword.EndPart = codes "endpart"
keyword_text keyword.Use = codes "use"

-- what a line begins with
abbrev pub keyword_of : Line → Keyword
keyword_of (Head format) = keyword.Brisk
keyword_of (Plain (basic.Assign t)) = keyword.Assign
keyword_of (Plain (basic.Fill t u c n)) = keyword.Fill
keyword_of (Plain (basic.Pass t u c)) = keyword.Pass
keyword_of (Plain (basic.Take t u c)) = keyword.Take
keyword_of (Plain (basic.Known t)) = keyword.Known
keyword_of (Fork t) = keyword.Branch
keyword_of (Enter (While t drops)) = keyword.While
keyword_of (Enter (For s ts drops)) = keyword.For
keyword_of (Enter (Repeat t drops)) = keyword.Repeat
keyword_of (Enter (Gather t drops)) = keyword.Gather
keyword_of (Enter (Pick t drops)) = keyword.Pick
keyword_of Else = keyword.Else
keyword_of Join = keyword.Join
keyword_of Close = keyword.Close
keyword_of End = keyword.End
keyword_of (Part name) = keyword.Part
keyword_of EndPart = keyword.EndPart
keyword_of (Use name) = keyword.Use

-- what a table has at a word
abbrev pub word_in : List (Text × Keyword) → Text → Option Keyword
word_in [] w = None
word_in (e ∷ table) w = if same_name e.0 w then Some e.1 else word_in table w

-- the table of all keywords
abbrev pub keywords : List (Text × Keyword)
keywords =
    (codes "brisk", keyword.Brisk)
    ∷ (codes "assign", keyword.Assign)
    ∷ (codes "fill", keyword.Fill)
    ∷ (codes "pass", keyword.Pass)
    ∷ (codes "take", keyword.Take)
    ∷ (codes "known", keyword.Known)
    ∷ (codes "branch", keyword.Branch)
    ∷ (codes "while", keyword.While)
    ∷ (codes "for", keyword.For)
    ∷ (codes "repeat", keyword.Repeat)
    ∷ (codes "gather", keyword.Gather)
    ∷ (codes "pick", keyword.Pick)
    ∷ (codes "else", keyword.Else)
    ∷ (codes "join", keyword.Join)
    ∷ (codes "close", keyword.Close)
    ∷ (codes "end", keyword.End)
    ∷ (codes "part", keyword.Part)
    ∷ (codes "endpart", keyword.EndPart)
    ∷ (codes "use", keyword.Use)
    ∷ []

-- one name stands behind it
abbrev pub is_named : Keyword → Bool
is_named keyword.Assign = true
is_named keyword.Known = true
is_named keyword.Branch = true
is_named keyword.Part = true
is_named keyword.Use = true
is_named k = false

-- a sender, a receiver and a channel stand behind it
abbrev pub is_sent : Keyword → Bool
is_sent keyword.Pass = true
is_sent keyword.Take = true
is_sent k = false

-- nothing stands behind it
abbrev pub is_bare : Keyword → Bool
is_bare keyword.Else = true
is_bare keyword.Join = true
is_bare keyword.Close = true
is_bare keyword.End = true
is_bare keyword.EndPart = true
is_bare k = false

-- a name and the facts that are dropped stand behind it
abbrev pub is_dropping : Keyword → Bool
is_dropping keyword.While = true
is_dropping keyword.Repeat = true
is_dropping keyword.Gather = true
is_dropping keyword.Pick = true
is_dropping k = false
