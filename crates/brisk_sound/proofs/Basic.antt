-- Assign, fill and take are sound.
use Rattle.std.proofs.Common.{◌≡◌, ℕ, suc, Bool, true, false, List, [], ◌∷◌, map, length, Option, Some, None, refl, sym, ap, ◌∙◌, subst}
use Rattle.std.specs.Prelude.{option_and_then, option_map}
use Rattle.std.proofs.lemmas.Option.{same_Some}
use Rattle.brisk_values.specs.declared.value.Pid.{Pid}
use Rattle.brisk_values.specs.Functions.{changed}
use Rattle.brisk_values.specs.Names.{Name, same_process, single}
use Rattle.brisk_values.proofs.Changes.{exact_name}
use Rattle.brisk_syntax.specs.Declarations.{is_loose}
use Rattle.brisk_syntax.specs.declared.tree.Who.{Who}
use Rattle.brisk_syntax.specs.declared.tree.Who.TheVariants as who
use Rattle.brisk_syntax.specs.Stores.{stored, with_variables}
use Rattle.brisk_syntax.specs.Syntax.{Expression, Assign, Send, Recv, Code, ◌⨾◌, ◌then◌}
use Rattle.brisk_syntax.specs.Value.{value_of}
use Rattle.brisk_seq.specs.Sequential.{Focus, Boxes, with_box}
use Rattle.brisk_async.specs.declared.event.Event.{Event}
use Rattle.brisk_async.specs.Laws.{plain_event, count}
use Rattle.brisk_async.specs.Machine.{State, Payload, queue, partner, payload_at, place_of, takes, effect, seen_by, after, run, unchanged, appended, taken}
use Rattle.brisk_async.specs.PlainRuns.{plain_place}
use Rattle.brisk_facts.specs.Learning.{fold}
use Rattle.brisk_facts.proofs.Folding.{fold_value}
use Rattle.brisk_state.specs.declared.thread.Mode.{Mode}
use Rattle.brisk_state.specs.declared.thread.Mode.TheVariants.{One, At, Each}
use Rattle.brisk_state.specs.Symbolic.{Key, key}
use Rattle.brisk_sound.specs.Does as seq
use Rattle.brisk_sound.proofs.After.{after_assign, after_fill, after_take}
use Rattle.brisk_sound.proofs.Agree.{agrees_with, agrees_forgotten}
use Rattle.brisk_sound.proofs.Events as events
use Rattle.brisk_sound.proofs.Events.{Unique}
use Rattle.brisk_sound.proofs.Fits.{World, Conf, Picks, Fits, active_live}
use Rattle.brisk_sound.proofs.Fronts.{IsFirst, receive_event, receive_first}
use Rattle.brisk_sound.proofs.Leads.{state, Leads, first_leads, event_leads, quiet_leads}
use Rattle.brisk_rules.proofs.Readings.{Reading, is_active, has, who_by, code_by, stands_by, facts_with, forgotten}
use Rattle.brisk_sound.proofs.Resting.{heard, stays_waiting}
use Rattle.brisk_sound.proofs.Sound.{Typing, Sound, Going, sound_going}
use Rattle.brisk_sound.proofs.Walks.{walk_by, Calm}
use Rattle.brisk_quiet.specs.Quiet.{Counts}

-- a partner in focus or single is the thread's process
pub partner_is : (mode : Name → Option Mode) (φ : Focus) (u : Name) (m : Option Mode) (w : Who) → Picks mode φ → mode u ≡ m → stands_by m u w ≡ true → partner (who_by φ w) ≡ φ u
partner_is mode φ u (Some One) (who.Name n) picks a e = ap single (sym (exact_name u n e)) ∙ sym (picks.one u a)
partner_is mode φ u (Some One) (who.At s) picks a e = cc
partner_is mode φ u (Some One) (who.Pid p) picks a e = cc
partner_is mode φ u (Some At) (who.Name n) picks a e = cc
partner_is mode φ u (Some At) (who.At s) picks a e = ap φ (sym (exact_name u s e))
partner_is mode φ u (Some At) (who.Pid p) picks a e = cc
partner_is mode φ u (Some Each) w picks a e = cc
partner_is mode φ u None w picks a e = cc

-- a thread that a partner stands for is active
pub stands_active : (m : Option Mode) (u : Name) (w : Who) → stands_by m u w ≡ true → is_active m ≡ true
stands_active (Some One) u w e = refl
stands_active (Some At) u w e = refl
stands_active (Some Each) u w e = cc
stands_active None u w e = cc

pub none_left : (l : List Payload) → map {B = Option Payload} Some l ≡ [] → l ≡ []
none_left [] e = refl
none_left (m ∷ ms) e = cc

pub same_length : {A B C : Type 0} (f : A → C) (g : B → C) (xs : List A) (ys : List B) → map f xs ≡ map g ys → length xs ≡ length ys
same_length f g [] [] e = refl
same_length f g [] (y ∷ ys) e = cc
same_length f g (x ∷ xs) [] e = cc
same_length f g (x ∷ xs) (y ∷ ys) e = ap suc (same_length f g xs ys cc)

-- a channel of the world's program is loose
abbrev pub loose_in : World → Name → Bool
loose_in world C = is_loose world.program.channels C

-- what a receive does at the plain run's place, where a payload waits
pub takes_oldest : (world : World) (c : Conf) (p q : Pid) (C : Name) (xs : List Name) (w : Who) (K : Code) (m : Payload) → partner w ≡ q →
    payload_at (c.mail (queue q p C)) 0 ≡ Some m →
    effect (seen_by (state world c) p) p (Recv C xs w ⨾ K) None (plain_place (loose_in world C)) ≡ Some record { next = K; variables = xs; values = m; mail = taken (queue q p C) 0 }
takes_oldest world c p q C xs w K m is front =
    ap (option_and_then (λ k. takes (queue (partner w) p C) xs K k (payload_at (c.mail (queue (partner w) p C)) k))) (oldest (loose_in world C))
    ∙ ap (λ z. takes (queue z p C) xs K 0 (payload_at (c.mail (queue z p C)) 0)) is
    ∙ ap (takes (queue q p C) xs K 0) front
  where
    oldest : (b : Bool) → place_of b (plain_place b) ≡ Some 0
    oldest true = refl
    oldest false = refl

-- On a loose channel the thread u's message from t is the only one, and stays so until u moves.
abbrev pub StaysOnly : World → Conf → Name → Pid → Pid → Payload → Type 0
StaysOnly world c C p q m =
    loose_in world C ≡ true → (before : List Event) (at : State) → run (state world c) before ≡ Some at → count p before ≡ 0 → at.mail (queue q p C) ≡ m ∷ []

-- so the receive is p's first event
pub takes_first : (world : World) (c : Conf) (p q : Pid) (C : Name) (xs : List Name) (w : Who) (K : Code) (m : Payload) → c.code p ≡ Recv C xs w ⨾ K → partner w ≡ q → StaysOnly world c C p q m →
    IsFirst (state world c) (receive_event (loose_in world C) p)
takes_first world c p q C xs w K m e is only =
    receive_first (state world c) p C xs w K m e (λ l before at r none. ap (λ z. at.mail (queue z p C)) is ∙ only l before at r none)

-- a receive at the plain run's place, where on a loose channel its message stays the only one
abbrev pub receive_leads : (world : World) (c : Conf) (p q : Pid) (C : Name) (xs : List Name) (w : Who) (K : Code) (m : Payload) (box : Boxes) → c.code p ≡ Recv C xs w ⨾ K → partner w ≡ q →
    payload_at (c.mail (queue q p C)) 0 ≡ Some m → StaysOnly world c C p q m →
    let s = after (state world c) p record { next = K; variables = xs; values = m; mail = taken (queue q p C) 0 } in Leads world c record { code = s.code; store = s.store; mail = s.mail; box = box }
receive_leads world c p q C xs w K m box e is front only =
    first_leads world c _ (receive_event (loose_in world C) p) (takes_first world c p q C xs w K m e is only)
    (ap (λ k. option_map (after (state world c) p) (effect (seen_by (state world c) p) p k None (plain_place (loose_in world C)))) e
    ∙ ap (option_map (after (state world c) p)) (takes_oldest world c p q C xs w K m is front))

module _ (world : World) (T : Typing world) (S : Reading) (t : Name) (act : is_active (S.mode t) ≡ true) where
  pub goes_assign : (x : Name) (e : Expression) (k : Code) → S.code t ≡ Assign x e ⨾ k → Going world T S (seq.passes world.given t (x ∷ []) t (e ∷ [])) (after_assign S t x e k) (λ φ. plain_event (φ t) ∷ [])
  goes_assign x e k is κ φ c typed beyond picks f =
      let vs = value_of world.given.sizes (c.store (φ t)) e ∷ [] in record {
        to = record {
          code = changed same_process c.code (φ t) (code_by φ k then κ (φ t));
          store = stored c.store (φ t) (x ∷ []) vs;
          mail = c.mail;
          box = c.box;
        };
        leads =
            event_leads world c (φ t) (Assign x e ⨾ (code_by φ k then κ (φ t))) record { next = code_by φ k then κ (φ t); variables = x ∷ []; values = vs; mail = unchanged } c.box
            (events.own_code world S κ φ c picks t act f ∙ ap (λ z. code_by φ z then κ (φ t)) is) refl;
        schedule = refl;
        does = refl;
        alone = λ m r. sym r;
        fits = record {
          sets = f.sets;
          code = events.fits_code world S κ φ c picks t act f k;
          mail = f.mail;
          empty = f.empty;
          facts = events.fits_facts world S κ φ c picks t act f (with_variables (c.store (φ t)) (x ∷ []) vs) (facts_with (S.facts t) (x ∷ []) (map (fold (S.facts t)) (e ∷ [])))
              (let own = events.own_facts world S κ φ c picks t act f in agrees_with (c.store (φ t)) (S.facts t) (x ∷ []) (value_of world.given.sizes (c.store (φ t))) (fold (S.facts t)) (e ∷ []) own (fold_value world.given.sizes (c.store (φ t)) (S.facts t) own));
        };
        still = record {
          code = events.untouched world S κ φ c picks t act c.code (code_by φ k then κ (φ t));
          store = events.untouched world S κ φ c picks t act c.store (with_variables (c.store (φ t)) (x ∷ []) vs);
          sent = λ p q d C. refl;
          got = λ p q d C. refl;
          box_sent = λ p q d n. refl;
          box_got = λ p q d n. refl;
        };
      }

  pub sound_assign : (x : Name) (e : Expression) (k : Code) → S.code t ≡ Assign x e ⨾ k → Sound world T S (seq.passes world.given t (x ∷ []) t (e ∷ [])) (after_assign S t x e k)
  sound_assign x e k is = sound_going world T S (seq.passes world.given t (x ∷ []) t (e ∷ [])) (after_assign S t x e k) (λ φ. plain_event (φ t) ∷ []) (goes_assign x e k is)

module _ (world : World) (T : Typing world) (S : Reading) (t u : Name) (C : Name) where
  pub goes_fill : (n : ℕ) (es : List Expression) (w : Who) (k : Code) → is_active (S.mode t) ≡ true → S.code t ≡ Send C es w ⨾ k → stands_by (S.mode u) u w ≡ true →
      ((l : Key) → has n (S.pending l) ≡ false) → Going world T S (seq.fills world.given n t u es) (after_fill S t u C n k) (λ φ. plain_event (φ t) ∷ [])
  goes_fill n es w k act is stands unused κ φ c typed beyond picks f =
      let act_u = stands_active (S.mode u) u w stands in
      let vs = map (value_of world.given.sizes (c.store (φ t))) es in
      let live_t = active_live world S.mode φ t picks act in let live_u = active_live world S.mode φ u picks act_u in
      let no_box : c.box n (φ t) (φ u) ≡ None = f.empty (φ t) (φ u) live_t live_u n (λ D. unused (key (φ t).role (φ u).role D)) in record {
        to = record {
          code = changed same_process c.code (φ t) (code_by φ k then κ (φ t));
          store = c.store;
          mail = events.sent_mail world S κ φ c picks t act u act_u C n vs;
          box = events.sent_box world S κ φ c picks t act u act_u C n vs;
        };
        leads =
            quiet_leads world c (φ t) (Send C es (who_by φ w) ⨾ (code_by φ k then κ (φ t))) (code_by φ k then κ (φ t)) (appended (queue (φ t) (φ u) C) vs) (events.sent_box world S κ φ c picks t act u act_u C n vs)
            (events.own_code world S κ φ c picks t act f ∙ ap (λ z. code_by φ z then κ (φ t)) is)
            (λ i. Some record { next = code_by φ k then κ (φ t); variables = []; values = []; mail = appended (queue (φ t) (partner_is S.mode φ u (S.mode u) w picks refl stands i) C) vs });
        schedule = refl;
        does = (no_box, refl);
        alone = λ m r. sym r.1;
        fits = record {
          sets = f.sets;
          code = events.fits_code world S κ φ c picks t act f k;
          mail = events.sent_fits world S κ φ c picks t act u act_u C n vs f unused;
          empty = events.sent_empty world S κ φ c picks t act u act_u C n vs f unused;
          facts = f.facts;
        };
        still = record {
          code = events.untouched world S κ φ c picks t act c.code (code_by φ k then κ (φ t));
          store = λ p d. refl;
          sent = events.still_sent world S κ φ c picks t act u act_u C _;
          got = events.still_got world S κ φ c picks t act u act_u C _;
          box_sent = events.still_box_sent world S κ φ c picks t act u act_u C n _;
          box_got = events.still_box_got world S κ φ c picks t act u act_u C n _;
        };
      }

  pub sound_fill : (n : ℕ) (es : List Expression) (w : Who) (k : Code) → is_active (S.mode t) ≡ true → S.code t ≡ Send C es w ⨾ k → stands_by (S.mode u) u w ≡ true →
      ((l : Key) → has n (S.pending l) ≡ false) → Sound world T S (seq.fills world.given n t u es) (after_fill S t u C n k)
  sound_fill n es w k act is stands unused = sound_going world T S (seq.fills world.given n t u es) (after_fill S t u C n k) (λ φ. plain_event (φ t) ∷ []) (goes_fill n es w k act is stands unused)

  -- on a loose channel the sender, at this code, sends nothing more to u on it before it has heard from u
  abbrev pub QuietSender : Code → Type 0
  QuietSender k =
      loose_in world C ≡ true → (κ : Pid → Code) (φ : Focus) → T.Behind κ φ → Picks S.mode φ →
      Calm (walk_by (heard (φ u) (φ t) C) C (code_by φ k then κ (φ t)) (λ D. length (S.pending (key u t D))))

  -- as many messages wait as pend
  pub as_many : (κ : Pid → Code) (φ : Focus) (c : Conf) → is_active (S.mode t) ≡ true → is_active (S.mode u) ≡ true → Picks S.mode φ → Fits world S κ φ c → (D : Name) → length (S.pending (key u t D)) ≡ length (c.mail (queue (φ u) (φ t) D))
  as_many κ φ c act act_u picks f D =
      same_length (λ n. c.box n (φ u) (φ t)) Some (S.pending (key u t D)) (c.mail (queue (φ u) (φ t) D)) (events.own_mail world S κ φ c picks u act_u t act D f)

  -- so its one message stays the only one
  pub stays_only : (κ : Pid → Code) (φ : Focus) (c d : Conf) (k : Code) (m : Payload) → is_active (S.mode t) ≡ true → is_active (S.mode u) ≡ true → T.Behind κ φ → Picks S.mode φ → Fits world S κ φ c →
      d.code (φ t) ≡ code_by φ k then κ (φ t) → ((D : Name) → d.mail (queue (φ u) (φ t) D) ≡ c.mail (queue (φ u) (φ t) D)) → QuietSender k → (loose_in world C ≡ true → d.mail (queue (φ t) (φ u) C) ≡ m ∷ []) → StaysOnly world d C (φ u) (φ t) m
  stays_only κ φ c d k m act act_u beyond picks f is mail quiet one l before at r none =
      stays_waiting (φ u) (φ t) C (state world d) (m ∷ []) (one l)
      (subst (λ (z : Code). Calm (walk_by (heard (φ u) (φ t) C) C z (λ D. length (d.mail (queue (φ u) (φ t) D))))) (sym is)
      (subst (λ (n : Counts). Calm (walk_by (heard (φ u) (φ t) C) C (code_by φ k then κ (φ t)) n)) (λ i D. (as_many κ φ c act act_u picks f D ∙ ap length (sym (mail D))) i) (quiet l κ φ beyond picks)))
      before at r none

  pub goes_take : (n : ℕ) (ns : List ℕ) (xs : List Name) (w : Who) (k : Code) → Unique S.pending → is_active (S.mode u) ≡ true → S.code u ≡ Recv C xs w ⨾ k → stands_by (S.mode t) t w ≡ true →
      S.pending (key t u C) ≡ n ∷ ns → (loose_in world C ≡ true → ns ≡ []) → QuietSender (S.code t) → Going world T S (seq.takes world.given u xs n t) (after_take S t u C xs ns k) (λ φ. receive_event (loose_in world C) (φ u) ∷ [])
  goes_take n ns xs w k once act_u is stands pends one quiet κ φ c typed beyond picks f =
      let act = stands_active (S.mode t) t w stands in
      let o = events.oldest_is world S κ φ c picks t act u act_u C n ns f once pends in
      let K = code_by φ k then κ (φ u) in
      let code_is : c.code (φ u) ≡ Recv C xs (who_by φ w) ⨾ K = events.own_code world S κ φ c picks u act_u f ∙ ap (λ z. code_by φ z then κ (φ u)) is in
      let front : payload_at (c.mail (queue (φ t) (φ u) C)) 0 ≡ Some o.0 = ap (λ z. payload_at z 0) o.2 in record {
        to = record {
          code = changed same_process c.code (φ u) K;
          store = stored c.store (φ u) xs o.0;
          mail = events.taken_mail world S κ φ c picks t act u act_u C n ns;
          box = events.taken_box world S κ φ c picks t act u act_u C n ns;
        };
        leads =
            receive_leads world c (φ u) (φ t) C xs (who_by φ w) K o.0 (events.taken_box world S κ φ c picks t act u act_u C n ns) code_is
            (partner_is S.mode φ t (S.mode t) w picks refl stands) front
            (stays_only κ φ c c (S.code t) o.0 act act_u beyond picks f (events.own_code world S κ φ c picks t act f) (λ D. refl) quiet (λ l. o.2 ∙ ap (λ z. o.0 ∷ z) (none_left o.1 (sym o.4 ∙ ap (map (λ j. c.box j (φ t) (φ u))) (one l)))));
        schedule = refl;
        does = (o.0, o.3, T.finds c (φ u) (φ t) C xs (who_by φ w) K o.0 typed code_is front, refl);
        alone = λ m r.
            let v = same_Some o.0 r.0 (sym o.3 ∙ r.1) in
            ap (λ z. record { store = stored c.store (φ u) xs z; box = with_box n (φ t) (φ u) None c.box }) v ∙ sym r.3;
        fits = record {
          sets = f.sets;
          code = events.fits_code world S κ φ c picks u act_u f k;
          mail = events.taken_fits world S κ φ c picks t act u act_u C n ns f once pends;
          empty = events.taken_empty world S κ φ c picks t act u act_u C n ns f once pends;
          facts = events.fits_facts world S κ φ c picks u act_u f (with_variables (c.store (φ u)) xs o.0) (forgotten (S.facts u) xs)
              (agrees_forgotten (c.store (φ u)) (S.facts u) xs o.0 (events.own_facts world S κ φ c picks u act_u f));
        };
        still = record {
          code = events.untouched world S κ φ c picks u act_u c.code K;
          store = events.untouched world S κ φ c picks u act_u c.store (with_variables (c.store (φ u)) xs o.0);
          sent = events.still_sent world S κ φ c picks t act u act_u C _;
          got = events.still_got world S κ φ c picks t act u act_u C _;
          box_sent = events.still_box_sent world S κ φ c picks t act u act_u C n _;
          box_got = events.still_box_got world S κ φ c picks t act u act_u C n _;
        };
      }

  pub sound_take : (n : ℕ) (ns : List ℕ) (xs : List Name) (w : Who) (k : Code) → Unique S.pending → is_active (S.mode u) ≡ true → S.code u ≡ Recv C xs w ⨾ k → stands_by (S.mode t) t w ≡ true →
      S.pending (key t u C) ≡ n ∷ ns → (loose_in world C ≡ true → ns ≡ []) → QuietSender (S.code t) → Sound world T S (seq.takes world.given u xs n t) (after_take S t u C xs ns k)
  sound_take n ns xs w k once act_u is stands pends one quiet = sound_going world T S (seq.takes world.given u xs n t) (after_take S t u C xs ns k) (λ φ. receive_event (loose_in world C) (φ u) ∷ []) (goes_take n ns xs w k once act_u is stands pends one quiet)
