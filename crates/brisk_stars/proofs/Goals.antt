-- Where the body of a loop is at its end, the goal of its premise is what the rule's last tests say.
use Rattle.std.proofs.Common.{◌≡◌, Bool, true, false, List, [], ◌∷◌, map, None, refl, sym, ap, ◌∙◌}
use Rattle.std.specs.Prelude.{◌&&◌, ◌||◌, not, if◌then◌else◌, is_none}
use Rattle.std.specs.List.{list_any}
use Rattle.brisk_values.specs.Names.{Name, same_name}
use Rattle.brisk_values.proofs.Changes.{both_true, name_laws}
use Rattle.brisk_syntax.specs.Syntax.{Code, done}
use Rattle.brisk_state.specs.declared.thread.Thread.{Thread}
use Rattle.brisk_state.specs.Same.{same_code}
use Rattle.brisk_state.specs.Symbolic.{Symbolic, pending_where, same_pending}
use Rattle.brisk_state.proofs.Threads.{code_itself}
use Rattle.brisk_derivation.specs.declared.fault.SideFault.TheVariants.{FactLost, MailChanged, NotRestored, OwnerUnfinished}
use Rattle.brisk_rules.specs.Rules as rules
use Rattle.brisk_rules.specs.Rules.{Entered, Outside, Owner, first_fault, looks_at, looks_at_code, looks_at_key, not_restored, unfinished, unless}
use Rattle.brisk_rules.specs.Standing.{fault_aside, focus_of, has_code, owners_of}
use Rattle.brisk_search.specs.Drives.{must_end, or_others, premise_of}
use Rattle.brisk_straight.proofs.Local.{pending_itself}
use Rattle.brisk_stars.specs.Threads.{at_in}
use Rattle.brisk_stars.proofs.Outside.{Still, blank, blanked, mail_outside}
use Rattle.std.proofs.lemmas.Bool.{not-true}

-- threads that are the same but for two are restored but for these
module _ (M s : Name) (looks : Name → Bool) (not_these : (u : Name) → looks u ≡ true → (same_name M u || same_name s u) ≡ false) where
  kept_name : (b : Bool) (t : Thread) → (if b then record t { code = done } else t).name ≡ t.name
  kept_name true t = refl
  kept_name false t = refl

  one_restored : (t u : Thread) → blank M s t ≡ blank M s u → (if looks t.name then unless (same_code t.code u.code) (NotRestored t.name) else None) ≡ None
  one_restored t u e =
      elim (looks t.name) as (λ b. looks t.name ≡ b → (if b then unless (same_code t.code u.code) (NotRestored t.name) else None) ≡ None) [
        | false ↦ λ l. refl
        | true ↦ λ l.
            let far = not_these t.name l in
            let name : t.name ≡ u.name = sym (kept_name (same_name M t.name || same_name s t.name) t) ∙ ap (λ (z : Thread). z.name) e ∙ kept_name (same_name M u.name || same_name s u.name) u in
            let far' : (same_name M u.name || same_name s u.name) ≡ false = ap (λ n. same_name M n || same_name s n) (sym name) ∙ far in
            let is : t ≡ u = sym (ap (λ b. if b then record t { code = done } else t) far) ∙ e ∙ ap (λ b. if b then record u { code = done } else u) far' in
            ap (λ b. unless b (NotRestored t.name)) (ap (same_code t.code) (ap (λ (z : Thread). z.code) (sym is)) ∙ code_itself t.code)
      ] refl

  restored : (ts us : List Thread) → blanked M s ts ≡ blanked M s us → not_restored looks ts us ≡ None
  restored [] us e = refl
  restored (t ∷ ts) [] e = refl
  restored (t ∷ ts) (u ∷ us) e =
      let h : blank M s t ≡ blank M s u = head_same e in
      let k : blanked M s ts ≡ blanked M s us = tail_same e in
      (λ i. first_fault (one_restored t u h i ∷ restored ts us k i ∷ []))
    where
      head_same : {x y : Thread} {xs ys : List Thread} → x ∷ xs ≡ y ∷ ys → x ≡ y
      head_same e = cc

      tail_same : {x y : Thread} {xs ys : List Thread} → x ∷ xs ≡ y ∷ ys → xs ≡ ys
      tail_same e = cc

module _ (M s : Name) (r : Entered) (rest : Code) (owned : r.owners ≡ record { name = M; rest = rest } ∷ []) (looks : (rules.looks r.kind) ≡ Outside s) (E : Symbolic) (at : at_in E M ≡ done) (still : Still M s r.start E) where
  not_these : (u : Name) → looks_at_code r u ≡ true → (same_name M u || same_name s u) ≡ false
  not_these u h =
      let is : (not (same_name s u) && not (same_name u M || false)) ≡ true = sym (λ i. looks_at (looks i) u && not (list_any (λ (o : Owner). same_name u o.name) (owned i))) ∙ h in
      let k = both_true (not (same_name s u)) (not (same_name u M || false)) is in
      let other = is_off (same_name u M) k.1 in
      (λ i. (name_laws.symm M u ∙ other) i || not-true (same_name s u) k.0 i)
    where
      is_off : (b : Bool) → not (b || false) ≡ true → b ≡ false
      is_off true e = cc
      is_off false e = refl

  owners_done : first_fault (map (unfinished E) r.owners) ≡ None
  owners_done =
      ap (λ os. first_fault (map (unfinished E) os)) owned
      ∙ ap (λ b. first_fault (unless b (OwnerUnfinished M) ∷ [])) (ap (λ c. same_code c done) at ∙ code_itself done)

  mail_same : same_pending (pending_where (looks_at_key (rules.looks r.kind)) r.start.pending) (pending_where (looks_at_key (rules.looks r.kind)) E.pending) ≡ true
  mail_same =
      ap (λ l. same_pending (pending_where (looks_at_key l) r.start.pending) (pending_where (looks_at_key l) E.pending)) looks
      ∙ ap (same_pending (mail_outside M s r.start.pending)) still.mail
      ∙ pending_itself (mail_outside M s r.start.pending)

  -- the first fault, facts aside, is that of the last tests
  pub fault_is : fault_aside r E ≡ first_fault ((rules.last_tests r.kind E))
  fault_is =
      (λ i. first_fault (owners_done i ∷ restored M s (looks_at_code r) not_these r.start.threads E.threads (sym still.threads) i ∷ unless (mail_same i) MailChanged ∷ unless true FactLost ∷ (rules.last_tests r.kind E)))

  pub goal_is : (premise_of r).goal E ≡ is_none (first_fault ((rules.last_tests r.kind E)))
  goal_is =
      let owners : owners_of r ≡ M ∷ [] = ap (map (λ (o : Owner). o.name)) owned in
      let ended : not (list_any (has_code E) (must_end r)) ≡ true =
      ap (λ os. not (list_any (has_code E) (or_others os (focus_of (rules.looks r.kind))))) owners ∙ ap (λ c. not (not (same_code c done) || false)) at ∙ ap (λ b. not (not b || false)) (code_itself done) in
      (λ i. ended i && is_none (fault_is i))
