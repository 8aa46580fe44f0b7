-- A straight program that is refused deadlocks, and a star deadlocks or overtakes.
use Rattle.std.proofs.Common.{◌≡◌, ◌⊎◌, ◌≤◌, ℕ, true, false, List, [], ◌∷◌, length, Option, Some, None, inl, inr, refl, sym, ap, ◌∙◌, subst, arith, Bool}
use Rattle.std.specs.Prelude.{Result, Ok, Err, nat_le}
use Rattle.std.specs.List.{AllByRecursion}
use Rattle.brisk_io.specs.Causes.{Files}
use Rattle.brisk_lex.specs.declared.fault.LexFault.{LexFault}
use Rattle.brisk_lex.specs.declared.token.Placed.{Placed}
use Rattle.brisk_lex.specs.Tokens.{tokens}
use Rattle.brisk_parse.specs.Answers.{IsAnswer}
use Rattle.brisk_parse.specs.declared.fault.ParseFault.{ParseFault}
use Rattle.brisk_parse.specs.Limits.{source}
use Rattle.brisk_parse.specs.Within.{Denotes, RoleWithin}
use Rattle.brisk_types.specs.declared.fault.TypeFault.{TypeFault}
use Rattle.brisk_types.specs.Declarations.{failures}
use Rattle.brisk_types.specs.Failures.{IsChecked}
use Rattle.brisk_types.proofs.Agreeing.{is_typed}
use Rattle.brisk_syntax.specs.Classes.{is_star, is_straight}
use Rattle.brisk_syntax.specs.declared.program.Program.{Program}
use Rattle.brisk_syntax.specs.Depths.{code_depth}
use Rattle.brisk_syntax.specs.Roles.{RoleText}
use Rattle.brisk_syntax.specs.WellTyped.{IsProgramWellTyped}
use Rattle.brisk_seq.specs.declared.tree.SeqProgram.{SeqProgram}
use Rattle.brisk_derivation.specs.declared.report.Report.{Report}
use Rattle.brisk_derivation.specs.Steps.{Steps}
use Rattle.brisk_derivtext.specs.Texts.{derivation_text}
use Rattle.brisk_print.specs.Layout.{sequential}
use Rattle.brisk_answered.specs.Answered.{PlainRunDeadlocks}
use Rattle.brisk_answered.proofs.Answered.{never_refused_emptily}
use Rattle.brisk_search.specs.Searched.{Searched, Sequenced, Stuck, Spent, searched}
use Rattle.brisk_straight.specs.Sources.{IsStraightSource}
use Rattle.brisk_stars.specs.Sources.{IsStarSource, PlainRunOvertakes}
use Rattle.brisk_stars.proofs.Refusals.{stars_are_never_refused_emptily}
use Rattle.brisk_cli.specs.declared.status.Status.{Status}
use Rattle.brisk_cli.specs.declared.status.Status.TheVariants.{Refused}
use Rattle.brisk_cli.specs.Answers.{Answered, OfDerive, OfFile, OfRewrite, OfSized, OfWords, is_failed, source_limit}
use Rattle.brisk_cli.specs.Commands.{Command, Derive, Rewrite, command_of}
use Rattle.brisk_cli.specs.Decided.{IsDecided, IsRefusedFor, RefusalsAreShown}
use Rattle.brisk_cli.specs.Files.{Put, Text}
use Rattle.brisk_cli.specs.Languages.{OfCut, OfReading, OfText, OfTokens, OfTree, OfTyping, sources}
use Rattle.brisk_cli.specs.Rewriting.{OfDeadlock, OfOvertaking, OfRefusal, OfSearched, budget_of, last_text, search_of}
use Rattle.brisk_cli.proofs.Unbegun.{tagged, unbegun}

-- ---- a straight program

few_deep : (roles : List RoleText) → AllByRecursion (RoleWithin source) roles → AllByRecursion (λ r. code_depth r.code ≤ 64) roles
few_deep [] h = tt
few_deep (r ∷ rs) h = let few : code_depth r.code ≤ 63 = h.0.1 in (omega (arith, few), few_deep rs h.1)

is_source : (cut : List Placed) (P : Program) → Denotes cut P → IsProgramWellTyped P → is_straight P ≡ true → IsStraightSource P
is_source cut P holds typed straight =
    record {
      typed = typed;
      tagged = tagged P holds.levelled;
      straight = straight;
      statements = holds.within.statements;
      nesting = few_deep P.roles holds.within.each_role;
    }

is_star_source : (cut : List Placed) (P : Program) → Denotes cut P → IsProgramWellTyped P → is_star P ≡ true → IsStarSource P
is_star_source cut P holds typed star =
    record {
      typed = typed;
      tagged = tagged P holds.levelled;
      star = star;
      unbegun = unbegun P holds.levelled;
      statements = holds.within.statements;
      nesting = few_deep P.roles holds.within.each_role;
    }

module _ (done : Steps → SeqProgram → Text) (P : Program) (text : Text) where
  -- the plain run deadlocks, so its text is told
  deadlock_told : (last : Text) → PlainRunDeadlocks P → OfRefusal P last Refused text → OfDeadlock P text
  deadlock_told last deadlocks (same, inl h) = h
  deadlock_told last deadlocks (same, inr h) = absurd (h.0 deadlocks)

  sequenced_done : (D : Steps) (Q : SeqProgram) (o : Searched) → o ≡ Sequenced D Q → OfSearched done P o Refused text → ⊥
  sequenced_done D Q o is h = let told = subst (λ (o : Searched). OfSearched done P o Refused text) is h in let e = told.0 in cc

  pub decided : IsStraightSource P → OfSearched done P (search_of P) Refused text → OfDeadlock P text
  decided source h = elim (never_refused_emptily P (budget_of P) source) [ inl s ↦ absurd (sequenced_done s.0 s.1 (search_of P) s.2 h) | inr r ↦ deadlock_told (last_text P (Some r.0)) r.2 (subst (λ (o : Searched). OfSearched done P o Refused text) r.1 h) ]

  -- a plain run shows why, so its text is told
  overtaking_told : (last : Text) → PlainRunDeadlocks P ⊎ PlainRunOvertakes P → is_star P ≡ true → OfRefusal P last Refused text → OfDeadlock P text ⊎ OfOvertaking P text
  overtaking_told last shown star (same, inl h) = inl h
  overtaking_told last (inl deadlocks) star (same, inr h) = absurd (h.0 deadlocks)
  overtaking_told last (inr overtakes) star (same, inr h) = elim h.1 [ inl o ↦ inr o.1 | inr never ↦ absurd (never.0 star overtakes) ]

  pub star_decided : IsStarSource P → OfSearched done P (search_of P) Refused text → OfDeadlock P text ⊎ OfOvertaking P text
  star_decided source h =
      elim (stars_are_never_refused_emptily P (budget_of P) source) [
        | inl s ↦ absurd (sequenced_done s.0 s.1 (search_of P) s.2 h)
        | inr r ↦ overtaking_told (last_text P (Some r.0)) r.2 source.star (subst (λ (o : Searched). OfSearched done P o Refused text) r.1 h)
      ]

-- ---- a source that is refused

module _ (done : Program → Steps → SeqProgram → Text) (bytes text : Text) where
  abbrev Next : Program → Status → Text → Type 0
  Next P = OfSearched (done P) P (search_of P)

  module _ (end : ℕ) (ts : List Placed) (cuts : tokens bytes ≡ Ok ts) where
    of_typing : (P : Program) → Denotes ts P → (typing : Result (Unit {0}) TypeFault) → IsChecked (failures P) typing → OfTyping sources.word ts end typing (Next P) Refused text → IsDecided bytes text
    of_typing P holds (Ok typed) checked h =
        record {
          cut = ts;
          cuts = cuts;
          program = P;
          holds = holds;
          typed = is_typed P checked;
          straight = λ straight. decided (done P) P text (is_source ts P holds (is_typed P checked) straight) h;
          star = λ star. star_decided (done P) P text (is_star_source ts P holds (is_typed P checked) star) h;
        }
    of_typing P holds (Err fault) checked h = let e = h.0 in cc

    of_reading : (reading : Result Program ParseFault) → IsAnswer ts reading → OfReading sources.word ts end reading (OfTree sources ts end Next) Refused text → IsDecided bytes text
    of_reading (Ok P) holds h = of_typing P holds h.typing h.checked h.answered
    of_reading (Err fault) holds h = let e = h.0 in cc

  of_cut : (cut : Result (List Placed) LexFault) → tokens bytes ≡ cut → OfCut sources.word cut (OfTokens sources (length bytes) Next) Refused text → IsDecided bytes text
  of_cut (Ok ts) cuts h = of_reading (length bytes) ts cuts h.reading h.answer h.answered
  of_cut (Err fault) cuts h = let e = h.0 in cc

  of_source : OfText sources bytes Next Refused text → IsDecided bytes text
  of_source h = of_cut (tokens bytes) refl h

-- where a refusal is answered for a file, it is what follows for its bytes
module _ (limit : ℕ) (name text : Text) (next : Text → Status → Text → Type 0) where
  of_sized : (bytes : Text) (b : Bool) → OfSized b name bytes next Refused text → next bytes Refused text
  of_sized bytes true h = h
  of_sized bytes false h = let e = h.0 in cc

  of_file : (file : Option Text) (failed : Bool) → OfFile limit name file failed next Refused text → (bytes : Text) × (file ≡ Some bytes) × next bytes Refused text
  of_file None true h = let e = h.0 in cc
  of_file (Some bytes) true h = let e = h.0 in cc
  of_file None false h = let e = h.0 in cc
  of_file (Some bytes) false h = (bytes, refl, of_sized bytes (nat_le (length bytes) limit) h)

-- ---- the words

module _ (done : Program → Steps → SeqProgram → Text) (files : Files) (old new : Option Text) (text : Text) (failed : Option ℕ) (wrote : Put old new text) where
  of_first : (f : Text) → OfFile source_limit f (files f) (is_failed 0 failed) (λ bytes. OfText sources bytes (λ P. OfSearched (done P) P (search_of P))) Refused text → IsRefusedFor files old new f
  of_first f h =
      let x = of_file source_limit f text (λ bytes. OfText sources bytes (λ P. OfSearched (done P) P (search_of P))) (files f) (is_failed 0 failed) h in
      (x.0, text, x.1, of_source done x.0 text x.2, wrote)

pub straights_are_decided : (words : List Text) (files : Option Files) (faults faults' : ℕ) (old new : Option Text) (status : Status) → Answered words files faults faults' old new status → RefusalsAreShown words files old new status
straights_are_decided words (Some files) faults faults' old new Refused h =
    let failed = h.tells.failed in
    let refused = subst (λ (s : Status). OfWords (command_of words) files failed s h.text) (sym h.is_status) h.tells.answer in
    let told : (c : Command) → command_of words ≡ Some c → OfWords (Some c) files failed Refused h.text = λ c is. subst (λ (o : Option Command). OfWords o files failed Refused h.text) is refused in
    ((λ f is. of_first (λ P D Q. sequential Q) files old new h.text failed h.wrote f (told (Rewrite f) is)), (λ f is. of_first (λ P D Q. derivation_text D) files old new h.text failed h.wrote f (told (Derive f) is)))
straights_are_decided words files faults faults' old new status h = tt
