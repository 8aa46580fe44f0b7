-- The line with some bytes, by computation: a line is guessed from the words, and tested.
use Rattle.std.specs.Prelude.{ℕ, Bool, true, false, not, ◌&&◌, ◌==◌, nat_lt, if◌then◌else◌, List, [], ◌∷◌, length, Option, Some, None, is_none, option_map, codes}
use Rattle.std.specs.List.{list_all}
use Rattle.std.specs.Str.{chars, encode_utf8_all, all_scalars}
use Rattle.std.specs.Str.Parse.{digits_value}
use Rattle.brisk_lex.specs.Spelled.{is_identifier}
use Rattle.brisk_lex.specs.Vocabulary.{word}
use Rattle.brisk_text.specs.Values.{Text}
use Rattle.brisk_values.specs.Names.{Name, same_name}
use Rattle.brisk_derivation.specs.declared.steps.BasicStep.{BasicStep}
use Rattle.brisk_derivation.specs.declared.steps.BasicStep.TheVariants as basic
use Rattle.brisk_derivation.specs.declared.steps.Fact.{Fact}
use Rattle.brisk_derivtext.specs.declared.line.Format.TheVariants.{Format1, Format2}
use Rattle.brisk_derivtext.specs.declared.line.Loop.{Loop}
use Rattle.brisk_derivtext.specs.declared.line.Loop.TheVariants.{While, For, Repeat, Gather, Pick}
use Rattle.brisk_derivtext.specs.declared.line.Line.{Line}
use Rattle.brisk_derivtext.specs.declared.line.Line.TheVariants.{Head, Plain, Fork, Enter, Else, Join, Close, End, Part, EndPart, Use}
use Rattle.brisk_derivtext.specs.Lines.{line_text}

-- ---- tests

-- the bytes are a name of the language
abbrev pub is_name : Text → Bool
is_name x = all_scalars (chars x) && (same_name x (encode_utf8_all (chars x)) && (is_identifier (chars x) && (is_none (word x) && not (nat_lt 64 (length x)))))

abbrev pub is_legal_fact : Fact → Bool
is_legal_fact f = is_name f.at && is_name f.variable

abbrev pub is_legal_basic : BasicStep → Bool
is_legal_basic (basic.Assign t) = is_name t
is_legal_basic (basic.Fill t u c n) = is_name t && (is_name u && (is_name c && (nat_lt 0 n && not (nat_lt 1000000 n))))
is_legal_basic (basic.Pass t u c) = is_name t && (is_name u && is_name c)
is_legal_basic (basic.Take t u c) = is_name t && (is_name u && is_name c)
is_legal_basic (basic.Known t) = is_name t

abbrev pub is_legal_loop : Loop → Bool
is_legal_loop (While t drops) = is_name t && list_all is_legal_fact drops
is_legal_loop (For s ts drops) = is_name s && (list_all is_name ts && list_all is_legal_fact drops)
is_legal_loop (Repeat t drops) = is_name t && list_all is_legal_fact drops
is_legal_loop (Gather t drops) = is_name t && list_all is_legal_fact drops
is_legal_loop (Pick t drops) = is_name t && list_all is_legal_fact drops

abbrev pub is_legal : Line → Bool
is_legal (Plain b) = is_legal_basic b
is_legal (Fork t) = is_name t
is_legal (Enter loop) = is_legal_loop loop
is_legal (Part name) = is_name name
is_legal (Use name) = is_name name
is_legal (Head format) = true
is_legal Else = true
is_legal Join = true
is_legal Close = true
is_legal End = true
is_legal EndPart = true

-- ---- words

abbrev pub onto : ℕ → List Text → List Text
onto c [] = (c ∷ []) ∷ []
onto c (w ∷ ws) = (c ∷ w) ∷ ws

-- the bytes between spaces
abbrev pub words : Text → List Text
words [] = [] ∷ []
words (c ∷ b) = if c == 32 then [] ∷ words b else onto c (words b)

-- what stands before the first dot, and behind it
abbrev pub dotted : Text → Option (Text × Text)
dotted [] = None
dotted (x ∷ b) = if x == 46 then Some ([], b) else option_map (λ p. (x ∷ p.0, p.1)) (dotted b)

abbrev pub one_more : Option (Text × Text) → Option (List Fact) → Option (List Fact)
one_more (Some p) (Some F) = Some (record { at = p.0; variable = p.1 } ∷ F)
one_more p F = None

abbrev pub facts_in : List Text → Option (List Fact)
facts_in [] = Some []
facts_in (w ∷ ws) = one_more (dotted w) (facts_in ws)

-- at the word `drop`, behind which all are facts, the owners end
abbrev pub at_word : Bool → Option (List Fact) → Text → Option (List Name × List Fact) → Option (List Name × List Fact)
at_word true (Some F) w rest = Some ([], F)
at_word true None w rest = option_map (λ p. (w ∷ p.0, p.1)) rest
at_word false o w rest = option_map (λ p. (w ∷ p.0, p.1)) rest

abbrev pub owners_in : List Text → Option (List Name × List Fact)
owners_in [] = None
owners_in (w ∷ ws) = at_word (same_name w (codes "drop")) (facts_in ws) w (owners_in ws)

-- ---- lines

abbrev pub plain : Line → List Text → Option Line
plain l [] = Some l
plain l ws = None

abbrev pub with_name : (Name → Line) → List Text → Option Line
with_name line (t ∷ []) = Some (line t)
with_name line ws = None

abbrev pub with_names : (Name → Name → Name → Line) → List Text → Option Line
with_names line (t ∷ u ∷ c ∷ []) = Some (line t u c)
with_names line ws = None

abbrev pub fill_in : List Text → Option Line
fill_in (t ∷ u ∷ c ∷ n ∷ []) = Some (Plain (basic.Fill t u c (digits_value 10 n)))
fill_in ws = None

abbrev pub with_drops : (Name → List Fact → Loop) → List Text → Option Line
with_drops loop [] = None
with_drops loop (t ∷ ws) = option_map (λ p. Enter (loop t p.1)) (owners_in ws)

abbrev pub for_in : List Text → Option Line
for_in (s ∷ b ∷ ws) = option_map (λ p. Enter (For s p.0 p.1)) (owners_in ws)
for_in ws = None

abbrev pub head_in : List Text → Option Line
head_in (d ∷ n ∷ []) = Some (Head (if same_name n (codes "1") then Format1 else Format2))
head_in ws = None

abbrev pub by_word : Text → List Text → Option Line
by_word w ws =
    if same_name w (codes "assign") then with_name (λ t. Plain (basic.Assign t)) ws
    else if same_name w (codes "known") then with_name (λ t. Plain (basic.Known t)) ws
    else if same_name w (codes "pass") then with_names (λ t u c. Plain (basic.Pass t u c)) ws
    else if same_name w (codes "take") then with_names (λ t u c. Plain (basic.Take t u c)) ws
    else if same_name w (codes "fill") then fill_in ws
    else if same_name w (codes "branch") then with_name Fork ws
    else if same_name w (codes "while") then with_drops While ws
    else if same_name w (codes "repeat") then with_drops Repeat ws
    else if same_name w (codes "gather") then with_drops Gather ws
    else if same_name w (codes "pick") then with_drops Pick ws
    else if same_name w (codes "for") then for_in ws
    else if same_name w (codes "else") then plain Else ws
    else if same_name w (codes "join") then plain Join ws
    else if same_name w (codes "close") then plain Close ws
    else if same_name w (codes "end") then plain End ws
    else if same_name w (codes "part") then with_name Part ws
    else if same_name w (codes "endpart") then plain EndPart ws
    else if same_name w (codes "use") then with_name Use ws
    else head_in ws

abbrev pub guess : List Text → Option Line
guess [] = None
guess (w ∷ ws) = by_word w ws

-- the line, if it has these bytes and is legal
abbrev pub tested : Text → Option Line → Option Line
tested b None = None
tested b (Some l) = if same_name (line_text l) b && is_legal l then Some l else None

-- the line with these bytes
abbrev pub line_in : Text → Option Line
line_in b = tested b (guess (words b))
