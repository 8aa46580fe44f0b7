-- Lines that are taken one after another.
use Rattle.std.proofs.Common.{◌≡◌, ℕ, ◌+◌, Bool, true, false, inl, inr, List, [], ◌∷◌, ◌++◌, Option, Some, None, Result, map, refl, sym, ap, ◌∙◌, subst, append_assoc}
use Rattle.std.specs.Prelude.{codes, IfSome, is_some, option_map, if◌then◌else◌}
use Rattle.std.specs.List.{AllByRecursion}
use Rattle.std.specs.Result.{IfErr, IsErrAnd}
use Rattle.std.proofs.lemmas.List.{map-append}
use Rattle.std.proofs.lemmas.Result.{err_from_is_err_and}
use Rattle.brisk_values.specs.declared.value.Pid.{Pid}
use Rattle.brisk_async.specs.declared.event.Event.{Event as Taken}
use Rattle.brisk_lines.specs.declared.line.Line.{Line}
use Rattle.brisk_lines.specs.declared.line.Line.TheVariants as line
use Rattle.brisk_lines.specs.Lines.{IsLegal, line_text}
use Rattle.brisk_schedule.specs.declared.fault.ScheduleFault.{ScheduleFault}
use Rattle.brisk_schedule.specs.declared.fault.ScheduleFault.TheVariants.{Text}
use Rattle.brisk_schedule.specs.Reading.{IsWritten, MayFollow}
use Rattle.brisk_schedule.specs.Taking.{Adds, IsFree, IsUnwanted, LacksEnd, Left, Takes, TakesLine, TakesToEnd}
use Rattle.brisk_schedule.specs.Texts.{IsTold, Sizes, event_line, is_sized, text_of_lines, written}

-- one more line is taken
pub takes_more : (old : Left) (ls : List Line) (mid : Left) (l : Line) (new : Left) → Takes old ls mid → TakesLine mid l new → Takes old (ls ++ l ∷ []) new
takes_more old [] mid l new h t = (new, subst (λ (s : Left). TakesLine s l new) h t, refl)
takes_more old (m ∷ ls) mid l new h t = (h.0, h.1, takes_more h.0 ls mid l new h.2 t)

-- lines and then more lines are taken
pub takes_both : (old : Left) (ls : List Line) (mid : Left) (ms : List Line) (new : Left) → Takes old ls mid → Takes mid ms new → Takes old (ls ++ ms) new
takes_both old [] mid ms new h t = subst (λ (s : Left). Takes s ms new) h t
takes_both old (l ∷ ls) mid ms new h t = (h.0, h.1, takes_both h.0 ls mid ms new h.2 t)

-- lines that are taken are taken in two parts
pub takes_split : (old : Left) (ls ms : List Line) (new : Left) → Takes old (ls ++ ms) new → (mid : Left) × Takes old ls mid × Takes mid ms new
takes_split old [] ms new h = (old, refl, h)
takes_split old (l ∷ ls) ms new h = let t = takes_split h.0 ls ms new h.2 in (t.0, (h.0, h.1, t.1), t.2)

-- the text begins with the lines that are taken
pub takes_text : (old : Left) (ls : List Line) (new : Left) → Takes old ls new → old.rest ≡ text_of_lines ls ++ new.rest
takes_text old [] new h = ap (λ (s : Left). s.rest) (sym h)
takes_text old (l ∷ ls) new h =
    h.1.begins.1.1 ∙ ap (λ z. line_text l ++ codes "\n" ++ z) (takes_text h.0 ls new h.2) ∙ sym (append_assoc (line_text l ++ codes "\n") (text_of_lines ls) new.rest)

-- lines that are taken are legal
pub takes_legal : (old : Left) (ls : List Line) (new : Left) → Takes old ls new → AllByRecursion IsLegal ls
takes_legal old [] new h = tt
takes_legal old (l ∷ ls) new h = (h.1.begins.1.0, takes_legal h.0 ls new h.2)

-- the format stays
pub takes_format : (old : Left) (ls : List Line) (new : Left) → Takes old ls new → new.format ≡ old.format
takes_format old [] new h = ap (λ (s : Left). s.format) h
takes_format old (l ∷ ls) new h = takes_format h.0 ls new h.2 ∙ h.1.format

-- what is told by lines so far, which may all stand before the end
pub record SoFar {B : Type 0} (line_of : B → Line) (fits : B → Type 0) (old now : Left) (told : List B) : Type 0 where
  pub takes : Takes old (map line_of told) now
  pub fitting : AllByRecursion fits told

all_more : {A : Type 0} (P : A → Type 0) (xs : List A) (x : A) → AllByRecursion P xs → P x → AllByRecursion P (xs ++ x ∷ [])
all_more P [] x h p = (p, tt)
all_more P (y ∷ xs) x h p = (h.0, all_more P xs x h.1 p)

pub all_mapped : {A B : Type 0} (P : B → Type 0) (f : A → B) (Q : A → Type 0) → ((x : A) → Q x → P (f x)) → (xs : List A) → AllByRecursion Q xs → AllByRecursion P (map f xs)
all_mapped P f Q each [] h = tt
all_mapped P f Q each (x ∷ xs) h = (each x h.0, all_mapped P f Q each xs h.1)

-- nothing was told yet
pub none_so_far : {B : Type 0} (line_of : B → Line) (fits : B → Type 0) (old : Left) → SoFar line_of fits old old []
none_so_far line_of fits old = record { takes = refl; fitting = tt }

-- one thing more was told
pub one_so_far : {B : Type 0} (line_of : B → Line) (fits : B → Type 0) (old mid new : Left) (before after : List B) (more : Bool) →
    SoFar line_of fits old mid before → more ≡ true → Adds line_of fits more mid new before after → SoFar line_of fits old new after × (new.format ≡ mid.format)
one_so_far line_of fits old mid new before after false h yes_more a = cc
one_so_far {B} line_of fits old mid new before after true h yes_more a = (
  subst (λ (xs : List B). SoFar line_of fits old new xs) (sym a.3) (record {
    takes = subst (λ (ls : List Line). Takes old ls new) (sym (map-append line_of before (a.0 ∷ []))) (takes_more old (map line_of before) mid (line_of a.0) new h.takes a.1);
    fitting = all_more fits before a.0 h.fitting a.2;
  }),
  a.1.format,
)

-- the end was taken, and nothing stands behind it
pub to_end : {B : Type 0} (line_of : B → Line) (fits : B → Type 0) (old mid new : Left) (before after : List B) (more : Bool) →
    SoFar line_of fits old mid before → more ≡ false → Adds line_of fits more mid new before after → new.rest ≡ [] → TakesToEnd line_of after old × AllByRecursion fits after
to_end line_of fits old mid new before after true h no_more a none = cc
to_end {B} line_of fits old mid new before after false h no_more a none = (
  subst (λ (xs : List B). TakesToEnd line_of xs old) (sym a.1) (record { new = new; takes = takes_more old (map line_of before) mid line.End new h.takes a.0; nothing = none }),
  subst (λ (xs : List B). AllByRecursion fits xs) (sym a.1) h.fitting,
)

-- the end was taken, and something stands behind it
pub past_end : {B : Type 0} (line_of : B → Line) (fits : B → Type 0) (sizes : Sizes) (old mid new : Left) (before after : List B) (f : ScheduleFault) (more : Bool) →
    ((x : B) → fits x → IsFree sizes (line_of x)) → SoFar line_of fits old mid before → more ≡ false → Adds line_of fits more mid new before after →
    (f ≡ Text (new.number + 1)) × (new.rest ≡ [] → ⊥) → LacksEnd sizes old f
past_end line_of fits sizes old mid new before after f true free h no_more a some = cc
past_end line_of fits sizes old mid new before after f false free h no_more a some = record {
  lines = map line_of before;
  mid = mid;
  takes = h.takes;
  free = all_mapped (IsFree sizes) line_of fits free before h.fitting;
  fails = inr (new, a.0, some.1, some.0);
}

-- the next line may not stand there
pub unwanted_so_far : {B : Type 0} (line_of : B → Line) (fits : B → Type 0) (sizes : Sizes) (old mid : Left) (before : List B) (f : ScheduleFault) →
    ((x : B) → fits x → IsFree sizes (line_of x)) → SoFar line_of fits old mid before → IsUnwanted (MayFollow sizes) mid f → LacksEnd sizes old f
unwanted_so_far line_of fits sizes old mid before f free h u = record {
  lines = map line_of before;
  mid = mid;
  takes = h.takes;
  free = all_mapped (IsFree sizes) line_of fits free before h.fitting;
  fails = inl u;
}

-- a choice may stand before the end
pub free_choice : (sizes : Sizes) (k : ℕ) → Unit {0} → IsFree sizes (line.Choose k)
free_choice sizes k t = (tt, λ e. cc)

written_so : (sizes : Sizes) (p : Pid) → IsWritten sizes (written sizes p)
written_so sizes p = elim (is_sized sizes p.role) as (λ b. is_some (if b then Some p.member else None) ≡ b) [ true ↦ refl | false ↦ refl ]

sender_written : (sizes : Sizes) (q : Option Pid) → IfSome (option_map (written sizes) q) (IsWritten sizes)
sender_written sizes None = tt
sender_written sizes (Some q) = written_so sizes q

-- an event may stand before the end
pub free_event : (sizes : Sizes) (e : Taken) → IsTold sizes e → IsFree sizes (event_line sizes e)
free_event sizes e t = ((written_so sizes e.process, sender_written sizes e.sender), λ h. cc)

-- what is told of a fault that is passed on
pub passed_on : {T : Type 0} (Q : ScheduleFault → Type 0) (r : Result T ScheduleFault) (f : ScheduleFault) → IsErrAnd r (λ g. g ≡ f) → Q f → IfErr r Q
passed_on {T} Q r f h q =
    let p = err_from_is_err_and r h in
    subst (λ (x : Result T ScheduleFault). IfErr x Q) (sym p.1) (subst Q (sym p.2) q)
