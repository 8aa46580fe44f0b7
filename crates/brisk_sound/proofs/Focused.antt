-- The rules that bring a set into focus: from the tests of entry and close to what they say of readings.
use Rattle.std.proofs.Common.{◌≡◌, Bool, true, false, List, [], ◌∷◌, map, Option, Some, None, refl, sym, ap, ◌∙◌, subst}
use Rattle.std.specs.Prelude.{if◌then◌else◌, ◌&&◌, ◌||◌, not}
use Rattle.std.specs.List.{list_any}
use Rattle.brisk_values.specs.declared.value.Value.{Value}
use Rattle.brisk_values.specs.Functions.{changed}
use Rattle.brisk_values.specs.Names.{Name, same_name}
use Rattle.brisk_values.proofs.Changes.{name_laws, exact_name, changed_again}
use Rattle.brisk_syntax.specs.declared.program.Decl.{Decl}
use Rattle.brisk_syntax.specs.declared.program.Program.{Program}
use Rattle.brisk_syntax.specs.Syntax.{Code, done}
use Rattle.brisk_facts.specs.Facts.{fact, facts_where, joined}
use Rattle.brisk_state.specs.declared.thread.Mode.{Mode}
use Rattle.brisk_state.specs.declared.thread.Mode.TheVariants.{One, At, Each}
use Rattle.brisk_state.specs.declared.thread.Thread.{Thread}
use Rattle.brisk_state.specs.Symbolic.{Key, key, Symbolic, with_code, with_mode, numbers_at}
use Rattle.brisk_derivation.specs.declared.steps.Fact.{Fact}
use Rattle.brisk_rules.specs.Rules.{without_drops, Scope, looks_at, looks_at_key, looks_at_code, Owner, Kind, Entered, looks, first_fault, unfinished, at_rests}
use Rattle.brisk_sound.proofs.Advance.{Test, with_test, all_of}
use Rattle.brisk_sound.proofs.Closing.{Closed, first_none, finished, restored_codes, kept_numbers, kept_facts, facts_after}
use Rattle.brisk_sound.proofs.Entered.{dropped, drops_weaken}
use Rattle.brisk_sound.proofs.Fine.{Fine}
use Rattle.brisk_sound.proofs.For.{owners}
use Rattle.brisk_sound.proofs.Free.{Free}
use Rattle.brisk_sound.proofs.Kept.{Kept, Tidy, tidy_kept, kept_weaker, tidy_focus}
use Rattle.brisk_sound.proofs.Leads.{unchanged_at}
use Rattle.brisk_sound.proofs.Middle.{focused}
use Rattle.brisk_rules.proofs.Readings.{Reading, reading}
use Rattle.brisk_rules.proofs.Threads.{names, modes, codes, names_with_code, modes_with_code, codes_with_code, names_with_mode, codes_with_mode, modes_with_mode}
use Rattle.std.proofs.Math.Bool.{or-false}

-- the name is in the list
abbrev pub among : List Name → Name → Bool
among ts u = list_any (same_name u) ts

if_or : (a b c : Bool) → a ≡ b → (if a then true else c) ≡ (b || c)
if_or true b c e = ap (λ z. z || c) e
if_or false b c e = ap (λ z. z || c) e

or_swapped : (a b c : Bool) → (a || (b || c)) ≡ ((b || a) || c)
or_swapped true true c = refl
or_swapped true false c = refl
or_swapped false true c = refl
or_swapped false false c = refl

-- all of the names pass, and those that did before
all_among : (passed : Test) (ts : List Name) (u : Name) → all_of passed ts u ≡ (among ts u || passed u)
all_among passed [] u = refl
all_among passed (t ∷ ts) u =
    all_among (with_test passed t) ts u ∙ ap (λ b. among ts u || b) (if_or (same_name t u) (same_name u t) (passed u) (name_laws.symm t u))
    ∙ or_swapped (among ts u) (same_name u t) (passed u)

pub owners_among : (ts : List Name) (u : Name) → owners ts u ≡ among ts u
owners_among ts u = all_among (λ _. false) ts u ∙ or-false (among ts u)

-- each of the threads is there
abbrev pub AllThere : (Name → Option Mode) → List Name → Type 0
AllThere modes [] = Unit {0}
AllThere modes (t ∷ ts) = ((m : Mode) × (modes t ≡ Some m)) × AllThere modes ts

-- the threads named stand at these codes
abbrev pub recode : List Name → (Name → Code) → List Thread → List Thread
recode [] to threads = threads
recode (t ∷ ts) to threads = recode ts to (with_code t (to t) threads)

pub names_recoded : (ts : List Name) (to : Name → Code) (threads : List Thread) → names (recode ts to threads) ≡ names threads
names_recoded [] to threads = refl
names_recoded (t ∷ ts) to threads = names_recoded ts to (with_code t (to t) threads) ∙ names_with_code t (to t) threads

pub modes_recoded : (ts : List Name) (to : Name → Code) (threads : List Thread) → modes (recode ts to threads) ≡ modes threads
modes_recoded [] to threads = refl
modes_recoded (t ∷ ts) to threads = modes_recoded ts to (with_code t (to t) threads) ∙ modes_with_code t (to t) threads

recoded : (passed : Test) (ts : List Name) (to from : Name → Code) (threads : List Thread) → AllThere (modes threads) ts → codes threads ≡ (λ u. if passed u then to u else from u) →
    codes (recode ts to threads) ≡ (λ u. if all_of passed ts u then to u else from u)
recoded passed [] to from threads there is = is
recoded passed (t ∷ ts) to from threads there is =
    recoded (with_test passed t) ts to from (with_code t (to t) threads) (subst (λ (m : Name → Option Mode). AllThere m ts) (sym (modes_with_code t (to t) threads)) there.1)
    (codes_with_code t (to t) threads there.0.0 there.0.1 ∙ (λ i. changed same_name (is i) t (to t)) ∙ (λ i u. here u i))
  where
    here : (u : Name) → changed same_name (λ u. if passed u then to u else from u) t (to t) u ≡ (if with_test passed t u then to u else from u)
    here u =
        elim (same_name t u) as (λ b. same_name t u ≡ b → (if b then to t else (if passed u then to u else from u)) ≡ (if (if b then true else passed u) then to u else from u)) [
          | true ↦ λ e. ap to (exact_name t u e)
          | false ↦ λ e. refl
        ] refl

pub codes_recoded : (ts : List Name) (to : Name → Code) (threads : List Thread) → AllThere (modes threads) ts → codes (recode ts to threads) ≡ (λ u. if owners ts u then to u else codes threads u)
codes_recoded ts to threads there = recoded (λ _. false) ts to (codes threads) threads there refl

-- owners, each with its rest
abbrev pub owners_with : (Name → Code) → List Name → List Owner
owners_with rest = map (λ t. record { name = t; rest = rest t })

pub rests_recode : (rest : Name → Code) (ts : List Name) (threads : List Thread) → at_rests (owners_with rest ts) threads ≡ recode ts rest threads
rests_recode rest [] threads = refl
rests_recode rest (t ∷ ts) threads = rests_recode rest ts (with_code t (rest t) threads)

pub owned : (rest : Name → Code) (ts : List Name) (u : Name) → list_any (λ o. same_name u o.name) (owners_with rest ts) ≡ among ts u
owned rest [] u = refl
owned rest (t ∷ ts) u = ap (λ b. same_name u t || b) (owned rest ts u)

all_finished : (E : Symbolic) (rest : Name → Code) (ts : List Name) → first_fault (map (unfinished E) (owners_with rest ts)) ≡ None → (u : Name) → among ts u ≡ true → codes E.threads u ≡ done
all_finished E rest [] e u a = cc
all_finished E rest (t ∷ ts) e u a =
    let f = first_none (unfinished E record { name = t; rest = rest t }) (map (unfinished E) (owners_with rest ts)) e in
    elim (same_name u t) as (λ b. same_name u t ≡ b → (b || among ts u) ≡ true → codes E.threads u ≡ done) [
      | true ↦ λ s g. ap (codes E.threads) (exact_name u t s) ∙ finished E record { name = t; rest = rest t } f.0
      | false ↦ λ s g. all_finished E rest ts f.1 u g
    ] refl a

-- a set comes into focus, and each owner stands at its body
module _ (P : Program) (S : Symbolic) (s : Name) (ts : List Name) (body rest : Name → Code) (drops : List Fact) (kind : Kind)
    (set : modes S.threads s ≡ Some Each) (there : AllThere (modes S.threads) ts) (not_owner : owners ts s ≡ false) where
  abbrev pub in_focus_of : Entered
  in_focus_of = record {
    start = record S { threads = recode ts body (with_mode s At S.threads); facts = without_drops drops S.facts };
    known = without_drops drops S.facts;
    owners = owners_with rest ts;
    kind = kind;
  }

  abbrev scope : Scope
  scope = looks kind

  abbrev base : Reading
  base = dropped S drops

  -- as the premise begins
  abbrev pub opened : Reading
  opened = record base { mode = focused base.mode s; code = λ u. if owners ts u then body u else base.code u }

  there_in_focus : (m : List Name) → AllThere (modes S.threads) m → AllThere (modes (with_mode s At S.threads)) m
  there_in_focus [] h = tt
  there_in_focus (t ∷ ts) h = (at, there_in_focus ts h.1)
    where
      at : (m : Mode) × (modes (with_mode s At S.threads) t ≡ Some m)
      at =
          subst (λ (f : Name → Option Mode). (m : Mode) × (f t ≡ Some m)) (sym (modes_with_mode s At S.threads Each set))
          (elim (same_name s t) as (λ b. (m : Mode) × ((if b then Some At else modes S.threads t) ≡ Some m)) [ true ↦ (At, refl) | false ↦ h.0 ])

  pub begins : reading in_focus_of.start ≡ opened
  begins = λ i. record {
    mode = (modes_recoded ts body (with_mode s At S.threads) ∙ modes_with_mode s At S.threads Each set) i;
    code = (codes_recoded ts body (with_mode s At S.threads) (there_in_focus ts there) ∙ (λ j u. if owners ts u then body u else codes_with_mode s At S.threads j u)) i;
    pending = numbers_at S.pending;
    facts = base.facts;
  }

  pub names_opened : names in_focus_of.start.threads ≡ names S.threads
  names_opened = names_recoded ts body (with_mode s At S.threads) ∙ names_with_mode s At S.threads

  pub tidy_base : Tidy P (reading S) → Tidy P base
  tidy_base = tidy_kept P (reading S) base (kept_weaker P (reading S) base (drops_weaken S drops))

  abbrev pub Bodies : Type 0
  Bodies = (r t : Name) → owners ts t ≡ true → same_name r s ≡ false → Free r (base.code t) → Free r (body t)

  abbrev pub FineBodies : Type 0
  FineBodies = (ds : List Decl) (t : Name) → owners ts t ≡ true → Fine P ds (base.code t) → Fine P ds (body t)

  pub tidy_opened : FineBodies → Bodies → Tidy P (reading S) → Tidy P (reading in_focus_of.start)
  tidy_opened parts bodies tidy = subst (Tidy P) (sym begins) (tidy_focus P base s (owners ts) body set not_owner parts bodies (tidy_base tidy))

  module _ (E S' : Symbolic) (named : names E.threads ≡ names in_focus_of.start.threads) (kept : Kept P (reading in_focus_of.start) (reading E)) (k : Closed in_focus_of E S') where
    pub kept_opened : Kept P opened (reading E)
    kept_opened = subst (λ (z : Reading). Kept P z (reading E)) begins kept

    pub owner_done : (t : Name) → owners ts t ≡ true → codes E.threads t ≡ done
    owner_done t o = all_finished E rest ts k.finished t (sym (owners_among ts t) ∙ o)

    -- a thread at which the close looks, and which is no owner
    pub stands_still : (u : Name) → looks_at scope u ≡ true → owners ts u ≡ false → codes E.threads u ≡ base.code u
    stands_still u l o =
        restored_codes (looks_at_code in_focus_of) in_focus_of.start.threads E.threads k.restored named u
        (λ i. l i && not ((owned rest ts u ∙ sym (owners_among ts u) ∙ o) i))
        ∙ ap (λ (z : Reading). z.code u) begins ∙ ap (λ b. if b then body u else base.code u) o

    pub mail_still : (q : Key) → looks_at_key scope q ≡ true → numbers_at E.pending q ≡ numbers_at S.pending q
    mail_still q l = kept_numbers (looks_at_key scope) S.pending E.pending k.mail q l

    pub facts_still : (u x : Name) (v : Value) → looks_at scope u ≡ true → base.facts u x ≡ Some v → fact E.facts u x ≡ Some v
    facts_still u x v l e = kept_facts (λ q. looks_at scope q.0) (without_drops drops S.facts) E.facts k.facts u x v l e

    -- the modes after the set is closed
    pub modes_closed : modes (recode ts rest (with_mode s Each E.threads)) ≡ base.mode
    modes_closed =
        modes_recoded ts rest (with_mode s Each E.threads)
        ∙ modes_with_mode s Each E.threads At (ap (λ (f : Name → Option Mode). f s) kept_opened.mode ∙ ap (λ b. if b then Some At else base.mode s) (name_laws.refl s))
        ∙ (λ i. changed same_name (kept_opened.mode i) s (Some Each))
        ∙ changed_again same_name base.mode s (Some At) (Some Each)
        ∙ unchanged_at same_name exact_name base.mode s (Some Each) (sym set)

    there_closed : AllThere (modes (with_mode s Each E.threads)) ts
    there_closed = subst (λ (f : Name → Option Mode). AllThere f ts) (sym (sym (modes_recoded ts rest (with_mode s Each E.threads)) ∙ modes_closed)) there

    pub codes_closed : codes (recode ts rest (with_mode s Each E.threads)) ≡ (λ u. if owners ts u then rest u else codes E.threads u)
    codes_closed = codes_recoded ts rest (with_mode s Each E.threads) there_closed ∙ (λ i u. if owners ts u then rest u else codes_with_mode s Each E.threads i u)

    pub names_closed : names (recode ts rest (with_mode s Each E.threads)) ≡ names S.threads
    names_closed = names_recoded ts rest (with_mode s Each E.threads) ∙ names_with_mode s Each E.threads ∙ named ∙ names_opened

    pub facts_closed : (u x : Name) → fact (joined (facts_where (λ q. looks_at scope q.0) (without_drops drops S.facts)) (facts_where (λ q. not (looks_at scope q.0)) E.facts)) u x
        ≡ (if looks_at scope u then base.facts u x else fact E.facts u x)
    facts_closed u x = facts_after (looks_at scope) (without_drops drops S.facts) E.facts u x

    free_set : Tidy P (reading S) → Free s (opened.code s)
    free_set tidy = subst (λ b. Free s (if b then body s else base.code s)) (sym not_owner) ((tidy_base tidy).closed s s set)

    set_not_one : opened.mode s ≡ Some One → ⊥
    set_not_one e = let g = ap (λ b. if b then Some At else base.mode s) (name_laws.refl s) in let x = sym g ∙ e in cc

    -- the member in focus names no other of its set, and the set sends nothing to itself
    pub free_end : Tidy P (reading S) → Free s (codes E.threads s)
    free_end tidy = kept_opened.free s s (free_set tidy)

    pub inner_end : Tidy P (reading S) → (C : Name) → numbers_at E.pending (key s s C) ≡ numbers_at S.pending (key s s C)
    inner_end tidy C = kept_opened.inner s C set_not_one (free_set tidy)
