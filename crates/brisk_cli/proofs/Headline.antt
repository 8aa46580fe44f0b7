-- What `rewrite` writes with the status of success, and what `check` takes, is faithful.
use Rattle.std.proofs.Common.{◌≡◌, ℕ, suc, Bool, true, false, List, [], ◌∷◌, length, Option, Some, None, Ok, Err, inl, inr, refl, sym, ap, ◌∙◌, subst}
use Rattle.std.specs.Prelude.{◌==◌, if◌then◌else◌, option_map, Result, nat_le}
use Rattle.std.proofs.lemmas.Bool.{eqb-true}
use Rattle.brisk_io.specs.Causes.{Files}
use Rattle.brisk_lex.specs.declared.fault.LexFault.{LexFault}
use Rattle.brisk_lex.specs.declared.token.Placed.{Placed}
use Rattle.brisk_lex.specs.Tokens.{tokens}
use Rattle.brisk_parse.specs.declared.fault.ParseFault.{ParseFault}
use Rattle.brisk_parse.specs.Answers.{IsAnswer}
use Rattle.brisk_parse.specs.Within.{Denotes}
use Rattle.brisk_types.specs.declared.fault.TypeFault.{TypeFault}
use Rattle.brisk_types.specs.Declarations.{failures}
use Rattle.brisk_types.specs.Failures.{IsChecked}
use Rattle.brisk_types.proofs.Agreeing.{is_typed}
use Rattle.brisk_syntax.specs.declared.program.Program.{Program}
use Rattle.brisk_syntax.specs.WellTyped.{IsProgramWellTyped}
use Rattle.brisk_seq.specs.declared.tree.SeqProgram.{SeqProgram}
use Rattle.brisk_derivation.specs.Steps.{Steps}
use Rattle.brisk_print.specs.Layout as layout
use Rattle.brisk_rules.specs.Derives.{Failure, Valid, outcome}
use Rattle.brisk_check.specs.Checking.{compared, differs_at, judged}
use Rattle.brisk_cli.specs.declared.status.Status.{Status}
use Rattle.brisk_cli.specs.declared.status.Status.TheVariants.{Done}
use Rattle.brisk_cli.specs.Answers.{Answered, OfCheck, OfFile, OfRewrite, OfSized, OfWords, is_failed, sequential_limit, source_limit}
use Rattle.brisk_cli.specs.Checks.{OfDerivation, OfVerdict}
use Rattle.brisk_cli.specs.Commands.{Check, Command, Rewrite, command_of}
use Rattle.brisk_cli.specs.Files.{Put, Text}
use Rattle.brisk_cli.specs.Headline.{Headline, IsConfirmed, IsFaithful, IsRewritten}
use Rattle.brisk_cli.specs.Languages.{OfCut, OfReading, OfText, OfTokens, OfTree, OfTyping, sources}
use Rattle.brisk_cli.specs.Rewriting.{OfRewriting, OfSearched, budget_of, search_of}
use Rattle.brisk_search.specs.Searched.{Searched, Sequenced, Stuck, Spent}
use Rattle.brisk_search.proofs.Valid.{sequenced_is_valid}
use Rattle.brisk_sound.proofs.ItemsTyped.{well_typed}
use Rattle.brisk_sound.proofs.Top.{sound}
use Rattle.brisk_written.specs.Written.{IsTextOf}
use Rattle.brisk_written.proofs.Written.{valid_is_written}
use Rattle.brisk_written.proofs.Determined.{spellings_determine}

-- the bytes hold a well-typed program, of which this holds
pub record Source (bytes : Text) (rule : Program → Type 0) : Type 0 where
  pub cut : List Placed
  pub cuts : tokens bytes ≡ Ok cut
  pub program : Program
  pub holds : Denotes cut program
  pub typed : IsProgramWellTyped program
  pub next : rule program

-- where success is answered for the bytes of a source, it is what follows for the program that they hold
module _ (bytes text : Text) (next : Program → Status → Text → Type 0) where
  abbrev pub Follows : Program → Type 0
  Follows P = next P Done text

  module _ (end : ℕ) (ts : List Placed) (cuts : tokens bytes ≡ Ok ts) where
    of_typing : (P : Program) → Denotes ts P → (typing : Result (Unit {0}) TypeFault) → IsChecked (failures P) typing → OfTyping sources.word ts end typing (next P) Done text → Source bytes Follows
    of_typing P holds (Ok typed) checked h = record { cut = ts; cuts = cuts; program = P; holds = holds; typed = is_typed P checked; next = h }
    of_typing P holds (Err fault) checked h = let e = h.0 in cc

    of_reading : (reading : Result Program ParseFault) → IsAnswer ts reading → OfReading sources.word ts end reading (OfTree sources ts end next) Done text → Source bytes Follows
    of_reading (Ok P) holds h = of_typing P holds h.typing h.checked h.answered
    of_reading (Err fault) holds h = let e = h.0 in cc

  of_cut : (cut : Result (List Placed) LexFault) → tokens bytes ≡ cut → OfCut sources.word cut (OfTokens sources (length bytes) next) Done text → Source bytes Follows
  of_cut (Ok ts) cuts h = of_reading (length bytes) ts cuts h.reading h.answer h.answered
  of_cut (Err fault) cuts h = let e = h.0 in cc

  of_source : OfText sources bytes next Done text → Source bytes Follows
  of_source h = of_cut (tokens bytes) refl h

-- where success is answered for a file, it is what follows for its bytes
module _ (limit : ℕ) (name text : Text) (next : Text → Status → Text → Type 0) where
  of_sized : (bytes : Text) (b : Bool) → OfSized b name bytes next Done text → next bytes Done text
  of_sized bytes true h = h
  of_sized bytes false h = let e = h.0 in cc

  of_file : (file : Option Text) (failed : Bool) → OfFile limit name file failed next Done text → (bytes : Text) × (file ≡ Some bytes) × next bytes Done text
  of_file None true h = let e = h.0 in cc
  of_file (Some bytes) true h = let e = h.0 in cc
  of_file None false h = let e = h.0 in cc
  of_file (Some bytes) false h = (bytes, refl, of_sized bytes (nat_le (length bytes) limit) h)

-- ---- rewrite

faithful_to : (source text : Text) → (P : Program) → IsProgramWellTyped P → (D : Steps) (Q : SeqProgram) → Valid P D Q → text ≡ layout.sequential Q → (cut : List Placed) → tokens source ≡ Ok cut → Denotes cut P → IsFaithful source text
faithful_to source text P typed D Q valid is cut cuts holds =
    let written = subst (λ (t : Text). IsTextOf t Q) (sym is) (valid_is_written source cut P D Q cuts holds typed valid) in
    record {
      cut = cut;
      cuts = cuts;
      program = P;
      holds = holds;
      typed = typed;
      sequential = Q;
      is_layout = is;
      is_text = written;
      alone = λ R is_text. spellings_determine text R Q is_text written;
      well_typed = well_typed P D Q typed valid;
      faithful = sound P D Q typed valid;
    }

-- where success is answered, the search came to a derivation, which is valid
sequenced : (P : Program) (text : Text) (o : Searched) → search_of P ≡ o → OfSearched (λ D Q. layout.sequential Q) P o Done text → (D : Steps) × (Q : SeqProgram) × Valid P D Q × (text ≡ layout.sequential Q)
sequenced P text (Sequenced D Q) is h = (D, Q, sequenced_is_valid P (budget_of P) D Q is, h.1)
sequenced P text (Stuck R) is h = let e = h.0 in cc
sequenced P text Spent is h = let e = h.0 in cc

rewritten : (source text : Text) → OfText sources source OfRewriting Done text → IsFaithful source text
rewritten source text h =
    let s = of_source source text OfRewriting h in
    let (D, Q, valid, is) = sequenced s.program text (search_of s.program) refl s.next in
    faithful_to source text s.program s.typed D Q valid is s.cut s.cuts s.holds

module _ (files : Files) (old new : Option Text) (text : Text) (failed : Option ℕ) (wrote : Put old new text) where
  of_rewrite : (f : Text) → OfRewrite f files failed Done text → IsRewritten files old new f
  of_rewrite f h =
      let x = of_file source_limit f text (λ bytes. OfText sources bytes OfRewriting) (files f) (is_failed 0 failed) h in
      (x.0, text, x.1, rewritten x.0 text x.2, wrote)

-- ---- check

-- a place that comes to none behind a byte was none before it
none_of : (o : Option ℕ) → option_map suc o ≡ None → o ≡ None
none_of None h = refl
none_of (Some k) h = cc

-- texts that don't differ are one
not_different : (a b : Text) → differs_at a b ≡ None → a ≡ b
not_different [] [] h = refl
not_different [] (y ∷ b) h = cc
not_different (x ∷ a) [] h = cc
not_different (x ∷ a) (y ∷ b) h = by (x == y) refl (not_different a b) h
  where
    by : (same : Bool) → (x == y) ≡ same → (differs_at a b ≡ None → a ≡ b) → (if same then option_map suc (differs_at a b) else Some 0) ≡ None → x ∷ a ≡ y ∷ b
    by true e so k = ap (λ z. z ∷ a) (eqb-true x y e) ∙ ap (λ z. y ∷ z) (so (none_of (differs_at a b) k))
    by false e so k = cc

-- a derivation that is taken is valid, and has the sequential program of this text
compared_well : (place : Option ℕ) (text : Text) → OfVerdict (compared place) Done text → place ≡ None
compared_well None text h = refl
compared_well (Some k) text h = let e = h.0 in cc

judged_well : (P : Program) (D : Steps) (seq text : Text) (o : Result SeqProgram Failure) → outcome P D ≡ o → OfVerdict (judged seq o) Done text → (Q : SeqProgram) × Valid P D Q × (seq ≡ layout.sequential Q)
judged_well P D seq text (Ok Q) is h = (Q, is, sym (not_different (layout.sequential Q) seq (compared_well (differs_at (layout.sequential Q) seq) text h)))
judged_well P D seq text (Err failure) is h = let e = h.0 in cc

taken : (P : Program) (seq bytes text : Text) → OfDerivation P seq bytes Done text → (D : Steps) × (Q : SeqProgram) × Valid P D Q × (seq ≡ layout.sequential Q)
taken P seq bytes text (inl h) = let e = h.bad in cc
taken P seq bytes text (inr h) =
    let x = judged_well P h.derivation seq text (outcome P h.derivation) refl h.tells in
    (h.derivation, x.0, x.1, x.2)

module _ (files : Files) (g h text : Text) (failed : Option ℕ) where
  abbrev OfThird : Program → Text → Status → Text → Type 0
  OfThird P seq = OfFile sequential_limit h (files h) (is_failed 2 failed) (OfDerivation P seq)

  abbrev OfSecond : Program → Status → Text → Type 0
  OfSecond P = OfFile sequential_limit g (files g) (is_failed 1 failed) (OfThird P)

  of_check : (f : Text) → OfCheck f g h files failed Done text → IsConfirmed files f g
  of_check f k =
      let x = of_file source_limit f text (λ bytes. OfText sources bytes OfSecond) (files f) (is_failed 0 failed) k in
      let s = of_source x.0 text OfSecond x.2 in
      let y = of_file sequential_limit g text (OfThird s.program) (files g) (is_failed 1 failed) s.next in
      let z = of_file sequential_limit h text (OfDerivation s.program y.0) (files h) (is_failed 2 failed) y.2 in
      let v = taken s.program y.0 z.0 text z.2 in
      (x.0, y.0, x.1, y.1, faithful_to x.0 y.0 s.program s.typed v.0 v.1 v.2 v.3 s.cut s.cuts s.holds)

-- ---- the words

pub headline : (words : List Text) (files : Option Files) (faults faults' : ℕ) (old new : Option Text) (status : Status) → Answered words files faults faults' old new status → Headline words files old new status
headline words (Some files) faults faults' old new Done h =
    let failed = h.tells.failed in
    let done = subst (λ (s : Status). OfWords (command_of words) files failed s h.text) (sym h.is_status) h.tells.answer in
    let told : (c : Command) → command_of words ≡ Some c → OfWords (Some c) files failed Done h.text = λ c is. subst (λ (o : Option Command). OfWords o files failed Done h.text) is done in
    ((λ f is. of_rewrite files old new h.text failed h.wrote f (told (Rewrite f) is)), (λ f g k is. of_check files g k h.text failed f (told (Check f g k) is)))
headline words files faults faults' old new status h = tt
