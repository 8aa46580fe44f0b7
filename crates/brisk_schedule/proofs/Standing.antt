-- How far the lines of a text stand, line by line, and why they don't go on.
use Rattle.std.proofs.Common.{◌≡◌, ℕ, zero, suc, ◌+◌, inr, List, [], ◌∷◌, ◌++◌, length, drop, refl, sym, ap, ◌∙◌, subst, append_assoc, append-nil}
use Rattle.std.specs.Prelude.{codes}
use Rattle.std.specs.List.{AllByRecursion}
use Rattle.std.proofs.Math.Numerals.{add-one}
use Rattle.std.proofs.lemmas.Grind.{flat_map-append}
use Rattle.std.proofs.lemmas.List.{length-append}
use Rattle.brisk_syntax.specs.declared.program.EnumDecl.{EnumDecl}
use Rattle.brisk_syntax.specs.Roles.{RoleText}
use Rattle.brisk_lines.specs.declared.line.Line.{Line}
use Rattle.brisk_lines.specs.declared.line.Line.TheVariants as line
use Rattle.brisk_lines.specs.Lines.{line_text}
use Rattle.brisk_schedule.specs.declared.fault.ScheduleFault.{ScheduleFault}
use Rattle.brisk_schedule.specs.declared.fault.ScheduleFault.TheVariants.{Text, Misfit, TooLarge, NoMemory}
use Rattle.brisk_schedule.specs.declared.format.Format.{Format}
use Rattle.brisk_schedule.specs.Reading.{Fails, HasLine, HasNoLine, IsEnded, IsHeavy, IsNext, IsOpen, Stands, nothing, one_more, sizes_in}
use Rattle.brisk_schedule.specs.Taking.{IsUnwanted, Left, TakesLine}
use Rattle.brisk_schedule.specs.Texts.{text_of_lines}

-- ---- lists

-- behind the first of what is left stands the rest
pub drop_next : {A : Type 0} (n : ℕ) (xs : List A) (y : A) (ys : List A) → drop n xs ≡ y ∷ ys → drop (suc n) xs ≡ ys
drop_next zero [] y ys e = cc
drop_next zero (x ∷ xs) y ys e = cc
drop_next (suc n) [] y ys e = cc
drop_next (suc n) (x ∷ xs) y ys e = drop_next n xs y ys e

length_more : {A : Type 0} (xs : List A) (x : A) → length (xs ++ x ∷ []) ≡ suc (length xs)
length_more xs x = length-append xs (x ∷ []) ∙ add-one (length xs)

-- ---- lines

-- none of the lines is the end
abbrev pub NoEnd : List Line → Type 0
NoEnd ls = AllByRecursion (λ l. l ≡ line.End → ⊥) ls

pub no_end_more : (ls : List Line) (l : Line) → NoEnd ls → (l ≡ line.End → ⊥) → NoEnd (ls ++ l ∷ [])
no_end_more [] l h other = (other, tt)
no_end_more (m ∷ ls) l h other = (h.0, no_end_more ls l h.1 other)

ends_at : (ls before : List Line) → NoEnd ls → ls ≡ before ++ line.End ∷ [] → ⊥
ends_at [] [] h e = cc
ends_at [] (m ∷ before) h e = cc
ends_at (l ∷ ls) [] h e = h.0 (let t = e in cc)
ends_at (l ∷ ls) (m ∷ before) h e = ends_at ls before h.1 (let t = e in cc)

pub unended : (ls : List Line) → NoEnd ls → IsEnded ls → ⊥
unended ls h e = ends_at ls e.0 h e.1

pub sizes_both : (ls ms : List Line) → sizes_in (ls ++ ms) ≡ sizes_in ls ++ sizes_in ms
sizes_both [] ms = refl
sizes_both (line.Size s n ∷ ls) ms = ap (λ zs. (s, n) ∷ zs) (sizes_both ls ms)
sizes_both (line.Schedule ∷ ls) ms = sizes_both ls ms
sizes_both (line.Choices ∷ ls) ms = sizes_both ls ms
sizes_both (line.Input p x v ∷ ls) ms = sizes_both ls ms
sizes_both (line.Event p q n ∷ ls) ms = sizes_both ls ms
sizes_both (line.Turns n ∷ ls) ms = sizes_both ls ms
sizes_both (line.Choose n ∷ ls) ms = sizes_both ls ms
sizes_both (line.End ∷ ls) ms = sizes_both ls ms

-- a line that tells no size
pub same_sizes : (ls : List Line) (l : Line) → sizes_in (l ∷ []) ≡ [] → sizes_in (ls ++ l ∷ []) ≡ sizes_in ls
same_sizes ls l e = sizes_both ls (l ∷ []) ∙ ap (λ zs. sizes_in ls ++ zs) e ∙ append-nil (sizes_in ls)

text_more : (ls : List Line) (l : Line) (more : List ℕ) → text_of_lines (ls ++ l ∷ []) ++ more ≡ text_of_lines ls ++ (line_text l ++ codes "\n" ++ more)
text_more ls l more =
    ap (λ z. z ++ more) (flat_map-append (λ m. line_text m ++ codes "\n") ls (l ∷ []) ∙ ap (λ z. text_of_lines ls ++ z) (append-nil (line_text l ++ codes "\n")))
    ∙ append_assoc (text_of_lines ls) (line_text l ++ codes "\n") more

-- ---- a text whose lines so far stand

module _ (f : Format) (enums : List EnumDecl) (roles : List RoleText) (text : List ℕ) where
  -- these lines of the text stand, and this is left of it
  pub record At (ls : List Line) (now : Left) : Type 0 where
    pub parts : text ≡ text_of_lines ls ++ now.rest
    pub stands : Stands f enums roles ls
    pub number : now.number ≡ length ls
    pub format : now.format ≡ f

  -- at the beginning no line is taken
  pub at_start : (now : Left) → now.rest ≡ text → now.number ≡ 0 → now.format ≡ f → At [] now
  at_start now r n e = record { parts = sym r; stands = nothing; number = n; format = e }

  -- one more line is taken
  pub at_more : (ls : List Line) (l : Line) (now new : Left) → At ls now → IsOpen roles ls → IsNext f enums roles ls l → TakesLine now l new → At (ls ++ l ∷ []) new
  at_more ls l now new h open_ next t = record {
    parts = h.parts ∙ ap (λ z. text_of_lines ls ++ z) t.begins.1.1 ∙ sym (text_more ls l new.rest);
    stands = one_more ls l h.stands open_ t.begins.1.0 (subst (λ g. HasLine g now.rest l new.rest) h.format t.begins).0 next;
    number = t.number ∙ ap (λ n. n + 1) h.number ∙ add-one (length ls) ∙ sym (length_more ls l);
    format = t.format ∙ h.format;
  }

  -- want of memory tells nothing
  pub fails_so : Fails f enums roles text NoMemory
  fails_so = record { before = []; rest = text; parts = refl; stands = nothing; fails = tt }

  -- where the next line isn't one that is wanted, the text fails there
  pub unwanted_fails : (ls : List Line) (now : Left) (wanted : Line → Type 0) (fault : ScheduleFault) → At ls now → IsOpen roles ls → ((l : Line) → IsNext f enums roles ls l → wanted l) → IsUnwanted wanted now fault → Fails f enums roles text fault
  unwanted_fails ls now wanted (Text k) h open_ next u = record {
    before = ls;
    rest = now.rest;
    parts = h.parts;
    stands = h.stands;
    fails = (u.0 ∙ ap (λ n. n + 1) h.number, open_.light, inr (open_.unended, subst (λ g. HasNoLine g now.rest) h.format u.1));
  }
  unwanted_fails ls now wanted (Misfit k) h open_ next u = record {
    before = ls;
    rest = now.rest;
    parts = h.parts;
    stands = h.stands;
    fails = (u.0 ∙ ap (λ n. n + 1) h.number, open_, u.1, u.2.rest, subst (λ g. HasLine g now.rest u.1 u.2.rest) h.format u.3.begins, λ n. u.4 (next u.1 n));
  }
  unwanted_fails ls now wanted (TooLarge k) h open_ next u = absurd u
  unwanted_fails ls now wanted NoMemory h open_ next u = fails_so

  -- the last line is that of the last size, and the instance is too heavy
  pub heavy_fails : (ls : List Line) (now : Left) (k : ℕ) → At ls now → k ≡ now.number → IsHeavy roles ls → Fails f enums roles text (TooLarge k)
  heavy_fails ls now k h e heavy = record { before = ls; rest = now.rest; parts = h.parts; stands = h.stands; fails = (e ∙ h.number, heavy) }
