-- What stands where among threads after a change of one.
use Rattle.std.proofs.Common.{◌≡◌, Bool, true, false, List, [], ◌∷◌, map, Option, Some, None, refl, sym, ap, ◌∙◌}
use Rattle.std.specs.Prelude.{if◌then◌else◌, option_map}
use Rattle.brisk_values.specs.Functions.{changed}
use Rattle.brisk_values.specs.Names.{Name, same_name}
use Rattle.brisk_values.proofs.Changes.{exact_name}
use Rattle.brisk_syntax.specs.Syntax.{Code}
use Rattle.brisk_state.specs.declared.thread.Mode.{Mode}
use Rattle.brisk_state.specs.declared.thread.Thread.{Thread}
use Rattle.brisk_state.specs.Symbolic.{thread_named, with_thread, with_code, with_mode, active_code}
use Rattle.brisk_state.specs.Symbolic as symbolic
use Rattle.brisk_rules.specs.Rules.{mode_of, code_in}
use Rattle.brisk_rules.proofs.Readings.{is_active}

-- the names of threads, in their order
abbrev pub names : List Thread → List Name
names = map (λ (u : Thread). u.name)

-- the modes and codes of threads by their names
abbrev pub modes : List Thread → Name → Option Mode
modes ts u = mode_of (thread_named ts u)

abbrev pub codes : List Thread → Name → Code
codes ts u = code_in (thread_named ts u)

-- a thread, changed if it is meant
abbrev if_meant : Bool → (Thread → Thread) → Thread → Thread
if_meant b change x = if b then change x else x

module _ (t : Name) (change : Thread → Thread) (keeps : (x : Thread) → (change x).name ≡ x.name) where
  meant_name : (b : Bool) (x : Thread) → (if_meant b change x).name ≡ x.name
  meant_name true x = keeps x
  meant_name false x = refl

  pub names_after : (ts : List Thread) → names (with_thread t change ts) ≡ names ts
  names_after [] = refl
  names_after (x ∷ xs) = λ i. meant_name (same_name t x.name) x i ∷ names_after xs i

  pub thread_after : (u : Name) (ts : List Thread) → thread_named (with_thread t change ts) u ≡ option_map (if_meant (same_name t u) change) (thread_named ts u)
  thread_after u [] = refl
  thread_after u (x ∷ xs) =
      ap (λ n. if same_name u n then Some (if_meant (same_name t x.name) change x) else thread_named (with_thread t change xs) u) (meant_name (same_name t x.name) x)
      ∙ ap (λ o. if same_name u x.name then Some (if_meant (same_name t x.name) change x) else o) (thread_after u xs)
      ∙ elim (same_name u x.name) as (λ b. same_name u x.name ≡ b → (if b then Some (if_meant (same_name t x.name) change x) else option_map (if_meant (same_name t u) change) (thread_named xs u))
      ≡ option_map (if_meant (same_name t u) change) (if b then Some x else thread_named xs u)) [
        | true ↦ λ e. ap (λ z. Some (if_meant (same_name t z) change x)) (sym (exact_name u x.name e))
        | false ↦ λ e. refl
      ] refl

  -- what is read of threads and not changed stays
  pub kept_after : {A : Type 0} (read : Option Thread → A) → ((x : Thread) → read (Some (change x)) ≡ read (Some x)) → (ts : List Thread) (u : Name) → read (thread_named (with_thread t change ts) u) ≡ read (thread_named ts u)
  kept_after read same ts u = ap read (thread_after u ts) ∙ each (same_name t u) (thread_named ts u)
    where
      each : (b : Bool) (o : Option Thread) → read (option_map (if_meant b change) o) ≡ read o
      each b None = refl
      each true (Some x) = same x
      each false (Some x) = refl

  -- and what is changed is so at the thread, where it is there
  pub changed_after : {A : Type 0} (read : Option Thread → A) (a : A) → ((x : Thread) → read (Some (change x)) ≡ a) → (ts : List Thread) (m : Mode) → modes ts t ≡ Some m →
      (λ u. read (thread_named (with_thread t change ts) u)) ≡ changed same_name (λ u. read (thread_named ts u)) t a
  changed_after {A = A} read a sets ts m there = λ i u. at u i
    where
      here : (o : Option Thread) → mode_of o ≡ Some m → read (option_map (if_meant true change) o) ≡ a
      here None e = cc
      here (Some x) e = sets x

      others : (o : Option Thread) → read (option_map (if_meant false change) o) ≡ read o
      others None = refl
      others (Some x) = refl

      at : (u : Name) → read (thread_named (with_thread t change ts) u) ≡ changed same_name (λ u. read (thread_named ts u)) t a u
      at u =
          ap read (thread_after u ts)
          ∙ elim (same_name t u) as (λ b. same_name t u ≡ b → read (option_map (if_meant b change) (thread_named ts u)) ≡ (if b then a else read (thread_named ts u))) [
            | true ↦ λ e. here (thread_named ts u) (ap (modes ts) (sym (exact_name t u e)) ∙ there)
            | false ↦ λ e. others (thread_named ts u)
          ] refl

-- after a thread's code was changed
pub names_with_code : (t : Name) (k : Code) (ts : List Thread) → names (with_code t k ts) ≡ names ts
names_with_code t k = names_after t (λ u. record u { code = k }) (λ x. refl)

pub modes_with_code : (t : Name) (k : Code) (ts : List Thread) → modes (with_code t k ts) ≡ modes ts
modes_with_code t k ts = λ i u. kept_after t (λ u. record u { code = k }) (λ x. refl) mode_of (λ x. refl) ts u i

pub codes_with_code : (t : Name) (k : Code) (ts : List Thread) (m : Mode) → modes ts t ≡ Some m → codes (with_code t k ts) ≡ changed same_name (codes ts) t k
codes_with_code t k ts m there = changed_after t (λ u. record u { code = k }) (λ x. refl) code_in k (λ x. refl) ts m there

-- after its mode was
pub names_with_mode : (s : Name) (mode : Mode) (ts : List Thread) → names (with_mode s mode ts) ≡ names ts
names_with_mode s mode = names_after s (λ u. record u { mode = mode }) (λ x. refl)

pub codes_with_mode : (s : Name) (mode : Mode) (ts : List Thread) → codes (with_mode s mode ts) ≡ codes ts
codes_with_mode s mode ts = λ i u. kept_after s (λ u. record u { mode = mode }) (λ x. refl) code_in (λ x. refl) ts u i

pub modes_with_mode : (s : Name) (mode : Mode) (ts : List Thread) (m : Mode) → modes ts s ≡ Some m → modes (with_mode s mode ts) ≡ changed same_name (modes ts) s (Some mode)
modes_with_mode s mode ts m there = changed_after s (λ u. record u { mode = mode }) (λ x. refl) mode_of (Some mode) (λ x. refl) ts m there

-- what it is for rules to move a thread: it is there, it is active, and its code is this
pub record Moved (ts : List Thread) (t : Name) (c : Code) : Type 0 where
  pub mode : Mode
  pub there : modes ts t ≡ Some mode
  pub active : is_active (modes ts t) ≡ true
  pub stands : codes ts t ≡ c

pub moved : (ts : List Thread) (t : Name) (c : Code) → active_code (thread_named ts t) ≡ Some c → Moved ts t c
moved ts t c e = by (thread_named ts t) refl e
  where
    by : (o : Option Thread) → thread_named ts t ≡ o → active_code o ≡ Some c → Moved ts t c
    by None is e = cc
    by (Some u) is e =
        elim (symbolic.is_active u.mode) as (λ b. symbolic.is_active u.mode ≡ b → (if b then Some u.code else None) ≡ Some c → Moved ts t c) [
          | true ↦ λ a h. record { mode = u.mode; there = ap mode_of is; active = ap (λ o. is_active (mode_of o)) is ∙ a; stands = ap code_in is ∙ (let x = h in cc) }
          | false ↦ λ a h. cc
        ] refl e
