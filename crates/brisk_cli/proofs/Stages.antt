-- What is answered on the way to a command's own answer, and where nothing is.
use Rattle.std.proofs.Common.{◌≡◌, ℕ, ◌≤◌, Bool, true, false, List, length, IsTrue, Option, Some, None, IfSome, Result, Ok, Err, refl, sym, subst, arith, ◌∙◌}
use Rattle.std.specs.Prelude.{nat_le}
use Rattle.std.proofs.lemmas.Bool.{le-leb}
use Rattle.brisk_io.specs.Causes.{Files, Rose}
use Rattle.brisk_lex.specs.declared.fault.LexFault.{LexFault}
use Rattle.brisk_lex.specs.declared.token.Placed.{Placed}
use Rattle.brisk_lex.specs.Tokens.{tokens}
use Rattle.brisk_parse.specs.declared.fault.ParseFault.{ParseFault}
use Rattle.brisk_types.specs.declared.fault.TypeFault.{TypeFault}
use Rattle.brisk_cli.specs.declared.answer.Answer.{Answer}
use Rattle.brisk_cli.specs.declared.answer.Stopped.{Stopped}
use Rattle.brisk_cli.specs.declared.answer.Stopped.TheVariants as stopped
use Rattle.brisk_cli.specs.declared.status.Status.{Status}
use Rattle.brisk_cli.specs.Answers.{IfAnswer, IsTold, IsUnreadable, OfFile, OfSized, Replies, is_failed}
use Rattle.brisk_cli.specs.Files.{Text}
use Rattle.brisk_cli.specs.Languages.{Holds, IsFaulty, Language, OfCut, OfReading, OfText, OfTokens, OfTree, OfTyping}

-- ---- texts

module _ (L : Language) (next : L.Tree → Status → Text → Type 0) (s : Status) (t : Text) where
  typing_stops : (ts : List Placed) (end : ℕ) (tree : L.Tree) (typing : Result (Unit {0}) TypeFault) → OfTyping L.word ts end typing (λ a b. ⊥) s t → OfTyping L.word ts end typing (next tree) s t
  typing_stops ts end tree (Ok typed) h = absurd h
  typing_stops ts end tree (Err fault) h = h

  reading_stops : (ts : List Placed) (end : ℕ) (reading : Result L.Tree ParseFault) → OfReading L.word ts end reading (OfTree L ts end (λ tree a b. ⊥)) s t → OfReading L.word ts end reading (OfTree L ts end next) s t
  reading_stops ts end (Ok tree) h = record { typing = h.typing; checked = h.checked; answered = typing_stops ts end tree h.typing h.answered }
  reading_stops ts end (Err fault) h = h

  cut_stops : (end : ℕ) (cut : Result (List Placed) LexFault) → OfCut L.word cut (OfTokens L end (λ tree a b. ⊥)) s t → OfCut L.word cut (OfTokens L end next) s t
  cut_stops end (Ok ts) h = record { reading = h.reading; read = h.read; answer = h.answer; answered = reading_stops ts end h.reading h.answered }
  cut_stops end (Err fault) h = h

  -- a text's first fault is answered, whatever would have followed
  pub text_stops : (bytes : Text) → IsFaulty L bytes s t → OfText L bytes next s t
  text_stops bytes h = cut_stops (length bytes) (tokens bytes) h

  -- what follows for the tree that a text holds is answered
  pub text_goes : (bytes : Text) (tree : L.Tree) → Holds L bytes tree → next tree s t → OfText L bytes next s t
  text_goes bytes tree holds h =
      subst (λ (cut : Result (List Placed) LexFault). OfCut L.word cut (OfTokens L (length bytes) next) s t) (sym holds.cuts) (record {
        reading = Ok tree;
        read = holds.read;
        answer = holds.answer;
        answered = record { typing = Ok tt; checked = holds.typed; answered = h };
      })

-- ---- files

module _ (limit : ℕ) (name : Text) (next : Text → Status → Text → Type 0) (s : Status) (t : Text) where
  sized_stops : (bytes : Text) (b : Bool) → OfSized b name bytes (λ bs a b. ⊥) s t → OfSized b name bytes next s t
  sized_stops bytes true h = absurd h
  sized_stops bytes false h = h

  -- a file's line is answered, whatever would have followed
  pub file_stops : (file : Option Text) (failed : Bool) → OfFile limit name file failed (λ bs a b. ⊥) s t → OfFile limit name file failed next s t
  file_stops None true h = h
  file_stops (Some bytes) true h = h
  file_stops None false h = h
  file_stops (Some bytes) false h = sized_stops bytes (nat_le (length bytes) limit) h

  -- what follows for a file's bytes is answered
  pub file_goes : (file : Option Text) (bytes : Text) → file ≡ Some bytes → length bytes ≤ limit → next bytes s t → OfFile limit name file false next s t
  file_goes file bytes is few h =
      subst (λ (f : Option Text). OfFile limit name f false next s t) (sym is) (subst (λ (b : Bool). OfSized b name bytes next s t) (sym (le-leb (length bytes) limit few)) h)

-- ---- counts

rose_before : (old mid now : ℕ) → old ≤ mid → Rose mid now → Rose old now
rose_before old mid now le rose = omega arith

-- ---- the first file of a command, its second, and its third

module _ (limit : ℕ) (name : Text) (L : Language) (f : Files) (next : Option ℕ → L.Tree → Status → Text → Type 0) where
  -- the answer where this follows for the tree that the first file holds
  abbrev pub First : Option ℕ → Status → Text → Type 0
  First failed s t = OfFile limit name (f name) (is_failed 0 failed) (λ bytes. OfText L bytes (next failed)) s t

  pub unread_told : (faults faults' : ℕ) (s : Status) (t : Text) → IsUnreadable faults faults' limit name (f name) s t → Replies faults faults' First s t
  unread_told faults faults' s t h = by h.failed h.rose h.answer
    where
      by : (failed : Bool) → (IsTrue failed → Rose faults faults') → OfFile limit name (f name) failed (λ bs a b. ⊥) s t → Replies faults faults' First s t
      by true rose h = record { failed = Some 0; rose = rose refl; answer = file_stops limit name (λ bytes. OfText L bytes (next (Some 0))) s t (f name) true h }
      by false rose h = record { failed = None; rose = tt; answer = file_stops limit name (λ bytes. OfText L bytes (next None)) s t (f name) false h }

  pub fault_told : (bytes : Text) (faults faults' : ℕ) (s : Status) (t : Text) → f name ≡ Some bytes → length bytes ≤ limit → IsFaulty L bytes s t → Replies faults faults' First s t
  fault_told bytes faults faults' s t is few h =
      record {
        failed = None;
        rose = tt;
        answer = file_goes limit name (λ bytes. OfText L bytes (next None)) s t (f name) bytes is few (text_stops L (next None) s t bytes h);
      }

  -- what follows for the tree is answered, where the read of no file, or not that of the first, failed
  pub next_told : (bytes : Text) (tree : L.Tree) (failed : Option ℕ) (faults faults' : ℕ) (s : Status) (t : Text) → f name ≡ Some bytes → length bytes ≤ limit → Holds L bytes tree → is_failed 0 failed ≡ false → IfSome failed (λ place. Rose faults faults') → next failed tree s t → Replies faults faults' First s t
  next_told bytes tree failed faults faults' s t is few holds later rose h =
      record {
        failed = failed;
        rose = rose;
        answer = subst (λ (b : Bool). OfFile limit name (f name) b (λ bytes. OfText L bytes (next failed)) s t) (sym later) (file_goes limit name (λ bytes. OfText L bytes (next failed)) s t (f name) bytes is few (text_goes L (next failed) s t bytes tree holds h));
      }

-- the answer for the second file, where this follows for its bytes
abbrev pub Second : {Tree : Type 0} → ℕ → Text → (Files → Option ℕ → Tree → Text → Status → Text → Type 0) → Files → Option ℕ → Tree → Status → Text → Type 0
Second most second own f failed tree s t = OfFile most second (f second) (is_failed 1 failed) (own f failed tree) s t

-- the answer for the third file, where this follows for its bytes and those of the second
abbrev pub Third : {Tree : Type 0} → ℕ → Text → (Tree → Text → Text → Status → Text → Type 0) → Files → Option ℕ → Tree → Text → Status → Text → Type 0
Third most third own f failed tree text s t = OfFile most third (f third) (is_failed 2 failed) (own tree text) s t

module _ (limit : ℕ) (name : Text) (L : Language) (f : Files) (most : ℕ) (second : Text) (own : Files → Option ℕ → L.Tree → Text → Status → Text → Type 0) (bytes : Text) (tree : L.Tree) (is : f name ≡ Some bytes) (few : length bytes ≤ limit) (holds : Holds L bytes tree) (old mid now : ℕ) (s : Status) (t : Text) where
  abbrev pub Answer_of_two : Type 0
  Answer_of_two = Replies old now (First limit name L f (Second most second own f)) s t

  pub second_unread_told : old ≤ mid → IsUnreadable mid now most second (f second) s t → Answer_of_two
  second_unread_told le h = by h.failed h.rose h.answer
    where
      by : (failed : Bool) → (IsTrue failed → Rose mid now) → OfFile most second (f second) failed (λ bs a b. ⊥) s t → Answer_of_two
      by true rose h = next_told limit name L f (Second most second own f) bytes tree (Some 1) old now s t is few holds refl (rose_before old mid now le (rose refl)) (file_stops most second (own f (Some 1) tree) s t (f second) true h)
      by false rose h = next_told limit name L f (Second most second own f) bytes tree None old now s t is few holds refl tt (file_stops most second (own f None tree) s t (f second) false h)

  -- what follows for the second file's bytes is answered, where the read of no file, or only that of a later one, failed
  pub second_told : (text : Text) (failed : Option ℕ) → f second ≡ Some text → length text ≤ most → is_failed 0 failed ≡ false → is_failed 1 failed ≡ false → IfSome failed (λ place. Rose old now) → own f failed tree text s t → Answer_of_two
  second_told text failed there short later latest rose h =
      next_told limit name L f (Second most second own f) bytes tree failed old now s t is few holds later rose (subst (λ (b : Bool). OfFile most second (f second) b (own f failed tree) s t) (sym latest) (file_goes most second (own f failed tree) s t (f second) text there short h))

module _ (limit : ℕ) (name : Text) (L : Language) (f : Files) (most : ℕ) (second : Text) (most' : ℕ) (third : Text) (own : L.Tree → Text → Text → Status → Text → Type 0) (bytes : Text) (tree : L.Tree) (is : f name ≡ Some bytes) (few : length bytes ≤ limit) (holds : Holds L bytes tree) (text : Text) (there : f second ≡ Some text) (short : length text ≤ most) (old mid now : ℕ) (s : Status) (t : Text) where
  abbrev pub Answer_of_three : Type 0
  Answer_of_three = Answer_of_two limit name L f most second (Third most' third own) bytes tree is few holds old mid now s t

  pub third_unread_told : old ≤ mid → IsUnreadable mid now most' third (f third) s t → Answer_of_three
  third_unread_told le h = by h.failed h.rose h.answer
    where
      by : (failed : Bool) → (IsTrue failed → Rose mid now) → OfFile most' third (f third) failed (λ bs a b. ⊥) s t → Answer_of_three
      by true rose h = second_told limit name L f most second (Third most' third own) bytes tree is few holds old mid now s t text (Some 2) there short refl refl (rose_before old mid now le (rose refl)) (file_stops most' third (own tree text) s t (f third) true h)
      by false rose h = second_told limit name L f most second (Third most' third own) bytes tree is few holds old mid now s t text None there short refl refl tt (file_stops most' third (own tree text) s t (f third) false h)

  pub third_told : (also : Text) → f third ≡ Some also → length also ≤ most' → own tree text also s t → Answer_of_three
  third_told also at fits h =
      second_told limit name L f most second (Third most' third own) bytes tree is few holds old mid now s t text None there short refl refl tt (file_goes most' third (own tree text) s t (f third) also at fits h)

-- ---- results

module _ (rule rule' : Status → Text → Type 0) (so : (s : Status) (t : Text) → rule s t → rule' s t) where
  told_so : (e : Stopped) → IsTold rule e → IsTold rule' e
  told_so (stopped.Told a) h = so a.status a.text.items h
  told_so stopped.NoMemory h = tt

  -- what is told instead is answered
  pub told_answer : (r : Result Answer Stopped) (e e' : Stopped) → r ≡ Err e' → e' ≡ e → IsTold rule e → IfAnswer rule' r
  told_answer r e e' is same h =
      subst (λ (r : Result Answer Stopped). IfAnswer rule' r) (sym is) (subst (λ (e : Stopped). IsTold rule' e) (sym same) (told_so e h))

  pub answer_so : (r : Result Answer Stopped) → IfAnswer rule r → IfAnswer rule' r
  answer_so (Ok a) h = so a.status a.text.items h
  answer_so (Err e) h = told_so e h

-- ---- files that are told

-- what follows of told files
pub of_files : (P Q : Files → Type 0) → ((f : Files) → P f → Q f) → (files : Option Files) → IfSome files P → IfSome files Q
of_files P Q so None h = tt
of_files P Q so (Some f) h = so f h

-- two facts of told files are one
pub both_files : (P Q : Files → Type 0) (files files' : Option Files) → files' ≡ files → IfSome files P → IfSome files' Q → IfSome files (λ f. P f × Q f)
both_files P Q files files' same h k = by files h (subst (λ (fs : Option Files). IfSome fs Q) same k)
  where
    by : (files : Option Files) → IfSome files P → IfSome files Q → IfSome files (λ f. P f × Q f)
    by None h k = tt
    by (Some f) h k = (h, k)

-- ---- commands

-- of a command that begins with this file, where this follows for the tree that it holds
module _ (limit : ℕ) (name : Text) (L : Language) (next : Files → Option ℕ → L.Tree → Status → Text → Type 0) (files : Option Files) (old now : ℕ) (r : Result Answer Stopped) where
  abbrev pub Command : Files → Type 0
  Command f = IfAnswer (Replies old now (First limit name L f (next f))) r

  pub unread_answered : (e e' : Stopped) → r ≡ Err e' → e' ≡ e → IfSome files (λ f. IsTold (IsUnreadable old now limit name (f name)) e) → IfSome files Command
  unread_answered e e' is same h =
      of_files (λ f. IsTold (IsUnreadable old now limit name (f name)) e) Command (λ f. told_answer (IsUnreadable old now limit name (f name)) (Replies old now (First limit name L f (next f))) (unread_told limit name L f (next f) old now) r e e' is same) files h

  pub fault_answered : (bytes seen : Text) (e e' : Stopped) → r ≡ Err e' → e' ≡ e → length bytes ≤ limit → seen ≡ bytes → IfSome files (λ f. f name ≡ Some bytes) → IsTold (IsFaulty L seen) e → IfSome files Command
  fault_answered bytes seen e e' is same few view there h =
      of_files (λ f. f name ≡ Some bytes) Command (λ f at. told_answer (IsFaulty L bytes) (Replies old now (First limit name L f (next f))) (λ s t k. fault_told limit name L f (next f) bytes old now s t at few k) r e e' is same (subst (λ (b : Text). IsTold (IsFaulty L b) e) view h)) files there

  pub next_answered : (bytes seen : Text) (tree : L.Tree) → length bytes ≤ limit → seen ≡ bytes → IfSome files (λ f. f name ≡ Some bytes) → Holds L seen tree → ((f : Files) → IfAnswer (next f None tree) r) → IfSome files Command
  next_answered bytes seen tree few view there holds h =
      of_files (λ f. f name ≡ Some bytes) Command (λ f at. answer_so (next f None tree) (Replies old now (First limit name L f (next f))) (λ s t k. next_told limit name L f (next f) bytes tree None old now s t at few (subst (λ (b : Text). Holds L b tree) view holds) refl tt k) r (h f)) files there

-- of a command with two files, or more
module _ (limit : ℕ) (name : Text) (L : Language) (most : ℕ) (second : Text) (own : Files → Option ℕ → L.Tree → Text → Status → Text → Type 0) (files files' : Option Files) (kept : files' ≡ files) (old mid now : ℕ) (r : Result Answer Stopped) (bytes seen : Text) (tree : L.Tree) (few : length bytes ≤ limit) (view : seen ≡ bytes) (there : IfSome files (λ f. f name ≡ Some bytes)) (holds : Holds L seen tree) where
  held : Holds L bytes tree
  held = subst (λ (b : Text). Holds L b tree) view holds

  abbrev pub Both : Files → Type 0
  Both f = IfAnswer (Replies old now (First limit name L f (Second most second own f))) r

  pub second_unread_answered : (e e' : Stopped) → r ≡ Err e' → e' ≡ e → old ≤ mid → IfSome files' (λ f. IsTold (IsUnreadable mid now most second (f second)) e) → IfSome files Both
  second_unread_answered e e' is same le h =
      of_files (λ f. (f name ≡ Some bytes) × IsTold (IsUnreadable mid now most second (f second)) e) Both (λ f k. told_answer (IsUnreadable mid now most second (f second)) (Replies old now (First limit name L f (Second most second own f))) (λ s t u. second_unread_told limit name L f most second own bytes tree k.0 few held old mid now s t le u) r e e' is same k.1) files (both_files (λ f. f name ≡ Some bytes) (λ f. IsTold (IsUnreadable mid now most second (f second)) e) files files' kept there h)

  pub second_answered : (text read : Text) → length text ≤ most → read ≡ text → IfSome files' (λ f. f second ≡ Some text) → ((f : Files) → IfAnswer (own f None tree read) r) → IfSome files Both
  second_answered text read short sees also h =
      of_files (λ f. (f name ≡ Some bytes) × (f second ≡ Some text)) Both (λ f k. answer_so (own f None tree text) (Replies old now (First limit name L f (Second most second own f))) (λ s t u. second_told limit name L f most second own bytes tree k.0 few held old mid now s t text None k.1 short refl refl tt u) r (subst (λ (b : Text). IfAnswer (own f None tree b) r) sees (h f))) files (both_files (λ f. f name ≡ Some bytes) (λ f. f second ≡ Some text) files files' kept there also)

-- of a command with three files
module _ (limit : ℕ) (name : Text) (L : Language) (most : ℕ) (second : Text) (most' : ℕ) (third : Text) (own : L.Tree → Text → Text → Status → Text → Type 0) (files files' files'' : Option Files) (kept : files' ≡ files) (kept' : files'' ≡ files') (old mid now : ℕ) (r : Result Answer Stopped) (bytes seen : Text) (tree : L.Tree) (few : length bytes ≤ limit) (view : seen ≡ bytes) (there : IfSome files (λ f. f name ≡ Some bytes)) (holds : Holds L seen tree) (text read : Text) (short : length text ≤ most) (sees : read ≡ text) (also : IfSome files' (λ f. f second ≡ Some text)) where
  held' : Holds L bytes tree
  held' = subst (λ (b : Text). Holds L b tree) view holds

  abbrev Here : Files → Type 0
  Here f = (f name ≡ Some bytes) × (f second ≡ Some text)

  here : IfSome files Here
  here = both_files (λ f. f name ≡ Some bytes) (λ f. f second ≡ Some text) files files' kept there also

  abbrev pub All : Files → Type 0
  All f = IfAnswer (Replies old now (First limit name L f (Second most second (Third most' third own) f))) r

  pub third_unread_answered : (e e' : Stopped) → r ≡ Err e' → e' ≡ e → old ≤ mid → IfSome files'' (λ f. IsTold (IsUnreadable mid now most' third (f third)) e) → IfSome files All
  third_unread_answered e e' is same le h =
      of_files (λ f. Here f × IsTold (IsUnreadable mid now most' third (f third)) e) All (λ f k. told_answer (IsUnreadable mid now most' third (f third)) (Replies old now (First limit name L f (Second most second (Third most' third own) f))) (λ s t u. third_unread_told limit name L f most second most' third own bytes tree k.0.0 few held' text k.0.1 short old mid now s t le u) r e e' is same k.1) files (both_files Here (λ f. IsTold (IsUnreadable mid now most' third (f third)) e) files files'' (kept' ∙ kept) here h)

  pub third_answered : (last seen_last : Text) → length last ≤ most' → seen_last ≡ last → IfSome files'' (λ f. f third ≡ Some last) → IfAnswer (own tree read seen_last) r → IfSome files All
  third_answered last seen_last fits sees_last at h =
      of_files (λ f. Here f × (f third ≡ Some last)) All (λ f k. answer_so (own tree text last) (Replies old now (First limit name L f (Second most second (Third most' third own) f))) (λ s t u. third_told limit name L f most second most' third own bytes tree k.0.0 few held' text k.0.1 short old mid now s t last k.1 fits u) r (subst (λ (b : Text). IfAnswer (own tree text b) r) sees_last (subst (λ (b : Text). IfAnswer (own tree b seen_last) r) sees h))) files (both_files Here (λ f. f third ≡ Some last) files files'' (kept' ∙ kept) here at)
