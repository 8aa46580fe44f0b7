-- The centre of a star at size two goes through local code, through what it says to one member, and through the turns of a loop.
use Rattle.std.proofs.Common.{◌≡◌, ℕ, zero, suc, ◌+◌, ◌≤◌, Bool, true, false, List, [], ◌∷◌, ◌++◌, map, length, Option, Some, None, refl, sym, ap, ◌∙◌, subst, arith}
use Rattle.std.specs.Prelude.{◌&&◌, if◌then◌else◌, nat_lt, ◌-◌, option_and_then, option_map}
use Rattle.std.proofs.lemmas.Bool.{ltb-true}
use Rattle.brisk_values.specs.declared.value.Pid.{Pid}
use Rattle.brisk_values.specs.Functions.{changed}
use Rattle.brisk_values.specs.Names.{Name, same_name, same_process, single, member}
use Rattle.brisk_values.proofs.Changes.{both_true}
use Rattle.brisk_syntax.specs.declared.program.Program.{Program}
use Rattle.brisk_syntax.specs.declared.tree.Who.{Who}
use Rattle.brisk_syntax.specs.declared.tree.Who.TheVariants as who
use Rattle.brisk_syntax.specs.Classes.{every, is_local, all_local, is_named, talks_to}
use Rattle.brisk_syntax.specs.Declarations.{is_loose}
use Rattle.brisk_syntax.specs.Roles.{RoleText}
use Rattle.brisk_syntax.specs.Stores.{is_true}
use Rattle.brisk_syntax.specs.Substitution.{code_with, statement_map, who_with}
use Rattle.brisk_syntax.specs.Syntax.{Expression, Statement, Assign, Send, Recv, If, IfElse, For, Code, done, ◌⨾◌, ◌then◌}
use Rattle.brisk_syntax.specs.Value.{value_of}
use Rattle.brisk_async.specs.declared.event.Event.{Event}
use Rattle.brisk_async.specs.Machine.{State, Effect, Payload, appended, taken, queue, payload_at, place_of, receives, takes as takes_from, effect, goes_to, seen_by}
use Rattle.brisk_async.specs.PlainRuns.{first_enabled, plain_place}
use Rattle.brisk_sound.proofs.Control.{then_assoc}
use Rattle.brisk_stars.specs.Runs.{members_in, nobody}
use Rattle.brisk_stars.specs.Serving.{Member, Served, Word, tells, hears, if_none, heard, messages, settled, serve}
use Rattle.brisk_stars.specs.Sources.{IsCentre, IsStarSource, PlainRunOvertakes, plain_start}
use Rattle.brisk_stars.specs.Words.{in_turns, words_to}
use Rattle.brisk_stars.proofs.Keeping.{local_messages}
use Rattle.brisk_stars.proofs.Running.{it_tells, it_hears, local_mapped, named_with, no_turn, turn_first}
use Rattle.brisk_stars.proofs.Stages as stages
use Rattle.brisk_stars.proofs.Stages.{Free, enabled, moves, settles, silently}

-- where a word that hears is said, its member has a message
pub hears_some : (w : Pid) (c : Name) (ws : List Word) (members : Pid → Member) (V : Served) → serve (hears w c ∷ ws) members ≡ V → V.left ≡ [] → (n : ℕ) × ((settled (members w)).up c ≡ suc n)
hears_some w c ws members V h said = by ((settled (members w)).up c) refl
  where
    by : (n : ℕ) → (settled (members w)).up c ≡ n → (n : ℕ) × ((settled (members w)).up c ≡ suc n)
    by (suc n) e = (n, e)
    by zero e = absurd (
        let none = ap (λ n. if_none n record { left = hears w c ∷ ws; members = λ j. settled (members j) } (serve ws (changed same_process members w (heard c (settled (members w)))))) e in
        let left : hears w c ∷ ws ≡ [] = ap (λ (z : Served). z.left) (sym none ∙ h) ∙ said in cc)

-- a queue that holds messages has an oldest one
pub oldest : (ms : List Payload) (n : ℕ) → length ms ≡ suc n → (m : Payload) × (payload_at ms 0 ≡ Some m)
oldest [] n e = cc
oldest (m ∷ ms) n e = (m, refl)

module _ (P : Program) (r : RoleText) (source : IsStarSource P) (centre : IsCentre P r) (V : Served) (said : V.left ≡ []) where
  abbrev M : Name
  M = r.name

  abbrev me : Pid
  me = single M

  abbrev Leads : (List Event → Type 0) → Code → List Word → Type 0
  Leads = stages.Leads P r source centre V

  abbrev Keeps : (List Event → Type 0) → Code → Type 0
  Keeps = stages.Keeps P r source centre V

  -- with other words, or other code, that are the same
  pub same_words : (Q : List Event → Type 0) (L : Code) (W W' : List Word) → W ≡ W' → Leads Q L W' → Leads Q L W
  same_words Q L W W' e more = subst (Leads Q L) (sym e) more

  pub same_code : (Q : List Event → Type 0) (L L' : Code) (W : List Word) → L ≡ L' → Leads Q L' W → Leads Q L W
  same_code Q L L' W e more = subst (λ c. Leads Q c W) (sym e) more

  -- local code
  pub locals : (Q : List Event → Type 0) (a rest : Code) (W : List Word) → all_local a ≡ true → ((x : Code) → Keeps Q (x then rest)) → Leads Q rest W → Leads Q (a then rest) W
  locals Q done rest W l keeps more = more
  locals Q (Assign x e ⨾ a) rest W l keeps more =
      silently P r source centre V Q (Assign x e ⨾ (a then rest)) W (keeps (Assign x e ⨾ a)) (λ s. refl) tt
      (λ s sized. (a then rest, x ∷ [], value_of s.sizes (s.store me) e ∷ [], refl, keeps a, locals Q a rest W l keeps more))
  locals Q (If e b ⨾ a) rest W l keeps more =
      let k = both_true (all_local b) (all_local a) l in
      let on : Leads Q (a then rest) W = locals Q a rest W k.1 keeps more in
      silently P r source centre V Q (If e b ⨾ (a then rest)) W (keeps (If e b ⨾ a)) (λ s. refl) tt
      (λ s sized. let t = is_true (value_of s.sizes (s.store me) e) in (
        if t then b then (a then rest) else (a then rest),
        [],
        [],
        refl,
        elim t as (λ t. Keeps Q (if t then b then (a then rest) else (a then rest))) [ true ↦ subst (Keeps Q) (then_assoc b a rest) (keeps (b then a)) | false ↦ keeps a ],
        elim t as (λ t. Leads Q (if t then b then (a then rest) else (a then rest)) W) [ true ↦ locals Q b (a then rest) W k.0 (λ x. subst (Keeps Q) (then_assoc x a rest) (keeps (x then a))) on | false ↦ on ],
      ))
  locals Q (IfElse e b c ⨾ a) rest W l keeps more =
      let k = both_true (all_local b && all_local c) (all_local a) l in
      let sides = both_true (all_local b) (all_local c) k.0 in
      let on : Leads Q (a then rest) W = locals Q a rest W k.1 keeps more in
      let behind : (x : Code) → Keeps Q (x then (a then rest)) = λ x. subst (Keeps Q) (then_assoc x a rest) (keeps (x then a)) in
      silently P r source centre V Q (IfElse e b c ⨾ (a then rest)) W (keeps (IfElse e b c ⨾ a)) (λ s. refl) tt
      (λ s sized. let t = is_true (value_of s.sizes (s.store me) e) in (
        (if t then b else c) then (a then rest),
        [],
        [],
        refl,
        behind (if t then b else c),
        elim t as (λ t. Leads Q ((if t then b else c) then (a then rest)) W) [ true ↦ locals Q b (a then rest) W sides.0 behind on | false ↦ locals Q c (a then rest) W sides.1 behind on ],
      ))
  locals Q (s ⨾ a) rest W l keeps more = cc

  -- a message is sent to a member
  sends_on : (Q : List Event → Type 0) (c : Name) (es : List Expression) (w : Pid) (L : Code) (W : List Word) → same_name M w.role ≡ false → Keeps Q (Send c es (who.Pid w) ⨾ L) → Keeps Q L → Leads Q L W → Leads Q (Send c es (who.Pid w) ⨾ L) (tells w c ∷ W)
  sends_on Q c es w L W other keeps later more = settles P r source centre V Q (Send c es (who.Pid w) ⨾ L) (tells w c ∷ W) keeps (λ n past s g st.
      let m : Payload = map (value_of s.sizes (s.store me)) es in
      let x : Effect = record { next = L; variables = []; values = []; mail = appended (queue me w c) m } in
      let e : Event = record { process = me; sender = None; place = None } in
      moves P r source centre V Q Q (Send c es (who.Pid w) ⨾ L) (tells w c ∷ W) W None None n past s x g st refl tt
      (enabled s e [] x (ap (λ c. effect (seen_by s me) me c None None) g.at))
      (it_tells w c m other refl refl) (later past e g.kept) more)

  -- what waits from a settled member
  pub waiting : (s : State) (w : Pid) (c : Name) (n : ℕ) → same_name M w.role ≡ false → (members_in M s w).up c ≡ suc n → (m : Payload) × (payload_at (s.mail (queue w me c)) 0 ≡ Some m)
  waiting s w c n other e = oldest (s.mail (queue w me c)) n (ap (λ b. (if b then nobody else there).up c) (sym other) ∙ e)
    where
      there : Member
      there = record { left = messages (s.code w); up = λ c. length (s.mail (queue w (single M) c)); down = λ c. length (s.mail (queue (single M) w c)) }

  -- a receive on a strict channel takes it
  pub takes_oldest : (s : State) (w : Pid) (c : Name) (xs : List Name) (L : Code) (m : Payload) → is_loose s.program.channels c ≡ false → payload_at (s.mail (queue w me c)) 0 ≡ Some m →
      receives (seen_by s me) (queue w me c) xs L None ≡ Some record { next = L; variables = xs; values = m; mail = taken (queue w me c) 0 }
  takes_oldest s w c xs L m strict waits =
      ap (λ l. option_and_then (λ k. takes_from (queue w me c) xs L k (payload_at (s.mail (queue w me c)) k)) (place_of l None)) strict
      ∙ ap (takes_from (queue w me c) xs L 0) waits

  -- a message is received from a member
  receives_on : (Q : List Event → Type 0) (c : Name) (xs : List Name) (w : Pid) (L : Code) (W : List Word) → same_name M w.role ≡ false → Keeps Q (Recv c xs (who.Pid w) ⨾ L) → Keeps Q L → Leads Q L W → Leads Q (Recv c xs (who.Pid w) ⨾ L) (hears w c ∷ W)
  receives_on Q c xs w L W other keeps later more = settles P r source centre V Q (Recv c xs (who.Pid w) ⨾ L) (hears w c ∷ W) keeps (λ n past s g st.
      let some = hears_some w c W (members_in M s) V g.served said in
      let m = waiting s w c some.0 other (ap (λ (z : Member). z.up c) (sym (st.members w)) ∙ some.1) in
      let x : Effect = record { next = L; variables = xs; values = m.0; mail = taken (queue w me c) 0 } in
      let e : Event = record { process = me; sender = None; place = None } in
      let acts : effect (seen_by s me) me (Recv c xs (who.Pid w) ⨾ L) None None ≡ Some x = takes_oldest s w c xs L m.0 (g.base.star.strict c) m.1 in
      moves P r source centre V Q Q (Recv c xs (who.Pid w) ⨾ L) (hears w c ∷ W) W None None n past s x g st acts tt
      (ap (λ l. first_enabled s (record { process = me; sender = None; place = plain_place l } ∷ [])) (g.base.star.strict c)
      ∙ enabled s e [] x (ap (λ c. effect (seen_by s me) me c None None) g.at ∙ acts))
      (it_hears w c m.0 other m.1 refl refl) (later past e g.kept) more)

  -- what the centre says to one member
  pub bodies : (Q : List Event → Type 0) (v : Name) (w : Pid) (b rest : Code) (W : List Word) → same_name M w.role ≡ false → every (talks_to (is_named v)) b ≡ true → ((x : Code) → Keeps Q (x then rest)) → Leads Q rest W →
      Leads Q (code_with v (who.Pid w) b then rest) (words_to w (messages b) ++ W)
  bodies Q v w done rest W other talks keeps more = more
  bodies Q v w (s ⨾ b) rest W other talks keeps more =
      let k = both_true (talks_to (is_named v) s) (every (talks_to (is_named v)) b) talks in one s k.0 (bodies Q v w b rest W other k.1 keeps more)
    where
      on : Code
      on = code_with v (who.Pid w) b

      said_on : List Word
      said_on = words_to w (messages b) ++ W

      as_local : (s : Statement) → is_local s ≡ true → Leads Q (on then rest) said_on → Leads Q (statement_map (who_with v (who.Pid w)) s ⨾ (on then rest)) (words_to w (messages (s ⨾ b)) ++ W)
      as_local s l go =
          same_words Q (statement_map (who_with v (who.Pid w)) s ⨾ (on then rest)) (words_to w (messages (s ⨾ b)) ++ W) said_on (ap (λ ms. words_to w ms ++ W) (local_messages s b l))
          (locals Q (statement_map (who_with v (who.Pid w)) s ⨾ done) (on then rest) said_on (λ i. (local_mapped (who_with v (who.Pid w)) s l i) && true) (λ x. subst (Keeps Q) (then_assoc x on rest) (keeps (x then on))) go)

      one : (s : Statement) → talks_to (is_named v) s ≡ true → Leads Q (on then rest) said_on → Leads Q (statement_map (who_with v (who.Pid w)) s ⨾ (on then rest)) (words_to w (messages (s ⨾ b)) ++ W)
      one (Send c es u) k go =
          subst (λ (z : Who). Leads Q (Send c es z ⨾ (on then rest)) (tells w c ∷ said_on)) (sym (named_with v (who.Pid w) u k))
          (sends_on Q c es w (on then rest) said_on other (keeps (Send c es (who.Pid w) ⨾ on)) (keeps on) go)
      one (Recv c xs u) k go =
          subst (λ (z : Who). Leads Q (Recv c xs z ⨾ (on then rest)) (hears w c ∷ said_on)) (sym (named_with v (who.Pid w) u k))
          (receives_on Q c xs w (on then rest) said_on other (keeps (Recv c xs (who.Pid w) ⨾ on)) (keeps on) go)
      one (Assign y e) k go = as_local (Assign y e) k go
      one (If e a) k go = as_local (If e a) k go
      one (IfElse e a c) k go = as_local (IfElse e a c) k go
      one s k go = cc

  -- a turn of a loop over a set
  module _ (v s : Name) (b rest : Code) (W : List Word) (other : same_name M s ≡ false) (talks : every (talks_to (is_named v)) b ≡ true) (more : Leads Free rest W) where
    abbrev sizes : Name → ℕ
    sizes = (plain_start P 2).sizes

    abbrev say : Pid → List Word
    say w = words_to w (messages b)

    abbrev turns : ℕ → List Word
    turns k = in_turns s (sizes s - k) k say ++ W

    for_turn : (k : ℕ) (t : Bool) → nat_lt k (sizes s) ≡ t → (t ≡ true → Leads Free (For v s (k + 1) b ⨾ rest) (turns (k + 1))) → Leads Free (For v s k b ⨾ rest) (turns k)
    for_turn k t e again =
        silently P r source centre V Free (For v s k b ⨾ rest) (turns k) (λ past e q h. tt) (λ z. refl) tt
        (λ z sized. (
          if t then code_with v (who.Pid (member s k)) b then (For v s (k + 1) b ⨾ rest) else rest,
          [],
          [],
          ap (λ u. goes_to (if u then code_with v (who.Pid (member s k)) b then (For v s (k + 1) b ⨾ rest) else rest)) (ap (λ (n : Name → ℕ). nat_lt k (n s)) sized ∙ e),
          (λ past e q h. tt),
          on t e again,
        ))
      where
        on : (t : Bool) → nat_lt k (sizes s) ≡ t → (t ≡ true → Leads Free (For v s (k + 1) b ⨾ rest) (turns (k + 1))) →
            Leads Free (if t then code_with v (who.Pid (member s k)) b then (For v s (k + 1) b ⨾ rest) else rest) (turns k)
        on true e again =
            same_words Free (code_with v (who.Pid (member s k)) b then (For v s (k + 1) b ⨾ rest)) (turns k) (say (member s k) ++ turns (k + 1)) (turn_first sizes s k say W e)
            (bodies Free v (member s k) b (For v s (k + 1) b ⨾ rest) (turns (k + 1)) other talks (λ x past e q h. tt) (again refl))
        on false e again = same_words Free rest (turns k) W (no_turn sizes s k say W e) more

    -- so many turns at most
    pub fors : (d k : ℕ) → sizes s ≤ d + k → Leads Free (For v s k b ⨾ rest) (turns k)
    fors zero k few = for_turn k (nat_lt k (sizes s)) refl (λ e. absurd (let l = ltb-true k (sizes s) e in omega (arith, l, few)))
    fors (suc d) k few = for_turn k (nat_lt k (sizes s)) refl (λ e. fors d (k + 1) (omega (arith, few)))
