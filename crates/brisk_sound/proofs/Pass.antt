-- A pass is sound: a send, and at once its receive.
use Rattle.std.proofs.Common.{◌≡◌, true, false, List, [], ◌∷◌, ◌++◌, map, Some, None, refl, sym, ap, ◌∙◌}
use Rattle.std.specs.Prelude.{if◌then◌else◌, ◌&&◌, option_map}
use Rattle.brisk_async.specs.PlainRuns.{plain_place}
use Rattle.brisk_values.specs.Functions.{changed}
use Rattle.brisk_values.specs.Names.{Name, same_name, same_process}
use Rattle.brisk_values.proofs.Changes.{process_laws, exact_name, changed_again, changed-same, changed-other}
use Rattle.brisk_syntax.specs.declared.tree.Who.{Who}
use Rattle.brisk_syntax.specs.Stores.{stored, with_variables}
use Rattle.brisk_syntax.specs.Syntax.{Expression, Send, Recv, Code, ◌⨾◌, ◌then◌}
use Rattle.brisk_syntax.specs.Value.{value_of}
use Rattle.brisk_async.specs.Laws.{plain_event}
use Rattle.brisk_async.specs.Machine.{Mail, Payload, Queue, same_queue, queue, payload_at, appended, taken, changed_mail, effect, seen_by, after}
use Rattle.brisk_async.proofs.Queues.{queue_laws, exact_queue}
use Rattle.brisk_seq.specs.Sequential.{Focus}
use Rattle.brisk_facts.specs.Learning.{fold}
use Rattle.brisk_facts.proofs.Folding.{fold_value}
use Rattle.brisk_state.specs.Symbolic.{key}
use Rattle.brisk_sound.specs.Does as seq
use Rattle.brisk_sound.proofs.After.{after_pass}
use Rattle.brisk_sound.proofs.Agree.{agrees_with}
use Rattle.brisk_sound.proofs.Basic.{none_left, partner_is, loose_in, takes_oldest, takes_first, QuietSender, stays_only}
use Rattle.brisk_sound.proofs.Events as events
use Rattle.brisk_sound.proofs.Events.{later}
use Rattle.brisk_sound.proofs.Fits.{World, Conf, Picks, Fits, sole, active_live}
use Rattle.brisk_sound.proofs.Fronts.{receive_event}
use Rattle.brisk_sound.proofs.Leads.{state, Leads, then_leads, first_leads, quiet_leads, unchanged_at}
use Rattle.brisk_rules.proofs.Readings.{Reading, is_active, who_by, code_by, stands_by, facts_with}
use Rattle.brisk_sound.proofs.Sound.{Typing, Sound, Going, sound_going}

mail_back : (mail : Mail) (q : Queue) (m : Payload) → mail q ≡ [] → changed_mail (taken q 0) (changed_mail (appended q m) mail) ≡ mail
mail_back mail q m e =
    changed_again same_queue mail q (mail q ++ m ∷ []) (later (changed same_queue mail q (mail q ++ m ∷ []) q))
    ∙ unchanged_at same_queue exact_queue mail q (later (changed same_queue mail q (mail q ++ m ∷ []) q)) (ap later (changed-same queue_laws mail q (mail q ++ m ∷ [])) ∙ ap (λ z. later (z ++ m ∷ [])) e ∙ sym e)

module _ (world : World) (T : Typing world) (S : Reading) (t u : Name) (C : Name) where
  abbrev sent : Code → Reading
  sent k = record S { code = changed same_name S.code t k }

  pub goes_pass : (es : List Expression) (w : Who) (k : Code) (xs : List Name) (w' : Who) (k' : Code) → is_active (S.mode t) ≡ true → is_active (S.mode u) ≡ true →
      S.code t ≡ Send C es w ⨾ k → stands_by (S.mode u) u w ≡ true → S.code u ≡ Recv C xs w' ⨾ k' → stands_by (S.mode t) t w' ≡ true → S.pending (key t u C) ≡ [] → QuietSender world T S t u C k →
      Going world T S (seq.passes world.given u xs t es) (after_pass S t u xs es k k') (λ φ. plain_event (φ t) ∷ receive_event (loose_in world C) (φ u) ∷ [])
  goes_pass es w k xs w' k' act act_u is stands is' stands' empty quiet κ φ c typed beyond picks f =
      let vs = map (value_of world.given.sizes (c.store (φ t))) es in
      let Q = queue (φ t) (φ u) C in
      let K = code_by φ k then κ (φ t) in let K' = code_by φ k' then κ (φ u) in
      let S1 = sent k in
      let c1 : Conf = record { code = changed same_process c.code (φ t) K; store = c.store; mail = c.mail; box = c.box } in
      let c2 : Conf = record { code = changed same_process c.code (φ t) K; store = c.store; mail = changed_mail (appended Q vs) c.mail; box = c.box } in
      let f1 : Fits world S1 κ φ c1 = record { code = events.fits_code world S κ φ c picks t act f k; mail = f.mail; empty = f.empty; facts = f.facts; sets = f.sets } in
      let no_mail : c.mail Q ≡ [] = none_left (c.mail Q) (sym (events.own_mail world S κ φ c picks t act u act_u C f) ∙ ap (map (λ n. c.box n (φ t) (φ u))) empty) in
      let first : Leads world c c2 =
      quiet_leads world c (φ t) (Send C es (who_by φ w) ⨾ K) K (appended Q vs) c.box (events.own_code world S κ φ c picks t act f ∙ ap (λ z. code_by φ z then κ (φ t)) is)
      (λ i. Some record { next = K; variables = []; values = []; mail = appended (queue (φ t) (partner_is S.mode φ u (S.mode u) w picks refl stands i) C) vs }) in
      let still_there : S1.code u ≡ Recv C xs w' ⨾ k' = ap (λ b. if b then k else S.code u) apart ∙ is' in
      let code_is : c2.code (φ u) ≡ Recv C xs (who_by φ w') ⨾ K' = events.own_code world S1 κ φ c1 picks u act_u f1 ∙ ap (λ z. code_by φ z then κ (φ u)) still_there in
      let one : c2.mail Q ≡ vs ∷ [] = changed-same queue_laws c.mail Q (c.mail Q ++ vs ∷ []) ∙ ap (λ z. z ++ vs ∷ []) no_mail in
      let front : payload_at (c2.mail Q) 0 ≡ Some vs = ap (λ z. payload_at z 0) one in
      let c3 : Conf = record { code = changed same_process c1.code (φ u) K'; store = stored c.store (φ u) xs vs; mail = c.mail; box = c.box } in
      let sender_is : c2.code (φ t) ≡ K = changed-same process_laws c.code (φ t) K in
      let back : (D : Name) → c2.mail (queue (φ u) (φ t) D) ≡ c.mail (queue (φ u) (φ t) D) = λ D. changed-other queue_laws c.mail Q (c.mail Q ++ vs ∷ []) (queue (φ u) (φ t) D) (other_way φ picks act act_u D) in
      let stands_is = partner_is S.mode φ t (S.mode t) w' picks refl stands' in
      let second : Leads world c2 c3 =
      first_leads world c2 c3 (receive_event (loose_in world C) (φ u))
      (takes_first world c2 (φ u) (φ t) C xs (who_by φ w') K' vs code_is stands_is (stays_only world T S t u C κ φ c c2 k vs act act_u beyond picks f sender_is back quiet (λ l. one)))
      (ap (λ z. option_map (after (state world c2) (φ u)) (effect (seen_by (state world c2) (φ u)) (φ u) z None (plain_place (loose_in world C)))) code_is
      ∙ ap (option_map (after (state world c2) (φ u))) (takes_oldest world c2 (φ u) (φ t) C xs (who_by φ w') K' vs stands_is front)
      ∙ (λ i. Some record { program = world.program; sizes = world.given.sizes; code = changed same_process c1.code (φ u) K'; store = stored c.store (φ u) xs vs; mail = mail_back c.mail Q vs no_mail i })) in record {
        to = c3;
        leads = then_leads world c c2 c3 first second;
        schedule = refl;
        does = refl;
        alone = λ m r. sym r;
        fits = record {
          sets = f.sets;
          code = events.fits_code world S1 κ φ c1 picks u act_u f1 k';
          mail = f.mail;
          empty = f.empty;
          facts = events.fits_facts world S1 κ φ c1 picks u act_u f1 (with_variables (c.store (φ u)) xs vs) (facts_with (S.facts u) xs (map (fold (S.facts t)) es))
              (agrees_with (c.store (φ u)) (S.facts u) xs (value_of world.given.sizes (c.store (φ t))) (fold (S.facts t)) es (events.own_facts world S κ φ c picks u act_u f)
              (fold_value world.given.sizes (c.store (φ t)) (S.facts t) (events.own_facts world S κ φ c picks t act f)));
        };
        still = record {
          code = λ p d. events.untouched world S1 κ φ c1 picks u act_u c1.code K' p d ∙ events.untouched world S κ φ c picks t act c.code K p d;
          store = events.untouched world S κ φ c picks u act_u c.store (with_variables (c.store (φ u)) xs vs);
          sent = λ p q d C. refl;
          got = λ p q d C. refl;
          box_sent = λ p q d n. refl;
          box_got = λ p q d n. refl;
        };
      }
    where
      apart : same_name t u ≡ false
      apart =
          elim (same_name t u) as (λ b. same_name t u ≡ b → b ≡ false) [
            | true ↦ λ e. let s = ap S.code (exact_name t u e) in cc
            | false ↦ λ e. refl
          ] refl

      -- the queue back isn't this one
      other_way : (φ : Focus) → Picks S.mode φ → is_active (S.mode t) ≡ true → is_active (S.mode u) ≡ true → (D : Name) → same_queue (queue (φ t) (φ u) C) (queue (φ u) (φ t) D) ≡ false
      other_way φ picks act act_u D =
          ap (λ b. b && same_process (φ u) (φ t) && same_name C D) (sole world S.mode φ t (φ u) picks act (active_live world S.mode φ u picks act_u) ∙ ap (same_name t) (picks.role_of u) ∙ apart)

  pub sound_pass : (es : List Expression) (w : Who) (k : Code) (xs : List Name) (w' : Who) (k' : Code) → is_active (S.mode t) ≡ true → is_active (S.mode u) ≡ true →
      S.code t ≡ Send C es w ⨾ k → stands_by (S.mode u) u w ≡ true → S.code u ≡ Recv C xs w' ⨾ k' → stands_by (S.mode t) t w' ≡ true → S.pending (key t u C) ≡ [] → QuietSender world T S t u C k →
      Sound world T S (seq.passes world.given u xs t es) (after_pass S t u xs es k k')
  sound_pass es w k xs w' k' act act_u is stands is' stands' empty quiet =
      sound_going world T S (seq.passes world.given u xs t es) (after_pass S t u xs es k k') (λ φ. plain_event (φ t) ∷ receive_event (loose_in world C) (φ u) ∷ [])
      (goes_pass es w k xs w' k' act act_u is stands is' stands' empty quiet)
