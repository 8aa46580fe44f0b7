-- The first words of lines, found in their table.
use Rattle.std.proofs.Common.{◌≡◌, Bool, true, false, List, [], ◌∷◌, Option, Some, None, refl, sym, ap, ◌∙◌}
use Rattle.std.specs.Prelude.{if◌then◌else◌}
use Rattle.std.specs.List.{AllByRecursion}
use Rattle.brisk_lines.specs.Lines.{Reads}
use Rattle.brisk_text.specs.Values.{Text}
use Rattle.brisk_values.specs.Names.{same_name}
use Rattle.brisk_values.proofs.Changes.{exact_name}
use Rattle.brisk_derivation.specs.declared.steps.BasicStep.TheVariants as basic
use Rattle.brisk_derivtext.specs.declared.keyword.Keyword.{Keyword}
use Rattle.brisk_derivtext.specs.declared.keyword.Keyword.TheVariants as keyword
use Rattle.brisk_derivtext.specs.declared.line.Loop.TheVariants.{While, For, Repeat, Gather, Pick}
use Rattle.brisk_derivtext.specs.declared.line.Line.{Line}
use Rattle.brisk_derivtext.specs.declared.line.Line.TheVariants.{Head, Plain, Fork, Enter, Else, Join, Close, End, Part, EndPart, Use}
use Rattle.brisk_derivtext.specs.Keywords.{keyword_of, keyword_text, keywords, word_in}
use Rattle.brisk_derivtext.specs.Lines.{first_word}

-- each entry has its own word
abbrev IsSpelled : Text × Keyword → Type 0
IsSpelled e = e.0 ≡ keyword_text e.1

in_table : (table : List (Text × Keyword)) (w : Text) (k : Keyword) → AllByRecursion IsSpelled table → word_in table w ≡ Some k → w ≡ keyword_text k
in_table [] w k h e = absurd (let wrong = e in cc)
in_table (x ∷ table) w k h e = by (same_name x.0 w) refl e (in_table table w k h.1)
  where
    by : (t : Bool) → same_name x.0 w ≡ t → (if t then Some x.1 else word_in table w) ≡ Some k → (word_in table w ≡ Some k → w ≡ keyword_text k) → w ≡ keyword_text k
    by true q p more = sym (exact_name x.0 w q) ∙ h.0 ∙ ap keyword_text (let p = p in cc)
    by false q p more = more p

spelled : AllByRecursion IsSpelled keywords
spelled = (refl, (refl, (refl, (refl, (refl, (refl, (refl, (refl, (refl, (refl, (refl, (refl, (refl, (refl, (refl, (refl, (refl, (refl, (refl, tt)))))))))))))))))))

found : (k : Keyword) → word_in keywords (keyword_text k) ≡ Some k
found keyword.Brisk = refl
found keyword.Assign = refl
found keyword.Fill = refl
found keyword.Pass = refl
found keyword.Take = refl
found keyword.Known = refl
found keyword.Branch = refl
found keyword.While = refl
found keyword.For = refl
found keyword.Repeat = refl
found keyword.Gather = refl
found keyword.Pick = refl
found keyword.Else = refl
found keyword.Join = refl
found keyword.Close = refl
found keyword.End = refl
found keyword.Part = refl
found keyword.EndPart = refl
found keyword.Use = refl

-- two keywords with one text are the same
pub same_keyword : (k j : Keyword) → keyword_text k ≡ keyword_text j → k ≡ j
same_keyword k j e = let same : Some k ≡ Some j = sym (found k) ∙ ap (word_in keywords) e ∙ found j in cc

pub keywords_are_found : (w : Text) (o : Option Keyword) → o ≡ word_in keywords w → Reads keyword_text (λ _. Unit {0}) w o
keywords_are_found w None e = λ k _ h. (let wrong : None ≡ Some k = e ∙ ap (word_in keywords) h ∙ found k in cc)
keywords_are_found w (Some k) e = (in_table keywords w k spelled (sym e), tt)

-- a line begins with its keyword
pub first_is : (l : Line) → first_word l ≡ keyword_text (keyword_of l)
first_is (Head format) = refl
first_is (Plain (basic.Assign t)) = refl
first_is (Plain (basic.Fill t u c n)) = refl
first_is (Plain (basic.Pass t u c)) = refl
first_is (Plain (basic.Take t u c)) = refl
first_is (Plain (basic.Known t)) = refl
first_is (Fork t) = refl
first_is (Enter (While t drops)) = refl
first_is (Enter (For s ts drops)) = refl
first_is (Enter (Repeat t drops)) = refl
first_is (Enter (Gather t drops)) = refl
first_is (Enter (Pick t drops)) = refl
first_is Else = refl
first_is Join = refl
first_is Close = refl
first_is End = refl
first_is (Part name) = refl
first_is EndPart = refl
first_is (Use name) = refl
