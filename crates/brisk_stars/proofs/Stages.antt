-- The plain run of a star at size two, from one state to a later one: members first, and then an event of the centre.
use Rattle.std.proofs.Common.{◌≡◌, ◌⊎◌, inl, inr, ℕ, zero, suc, ◌+◌, ◌≤◌, Bool, true, false, List, [], ◌∷◌, ◌++◌, length, Option, Some, None, refl, sym, ap, ◌∙◌, subst, arith}
use Rattle.std.specs.Prelude.{◌||◌, if◌then◌else◌, option_and_then, option_map}
use Rattle.std.specs.List.{AllByRecursion, list_any}
use Rattle.std.proofs.lemmas.List.{append_assoc, append-nil}
use Rattle.brisk_values.specs.declared.value.Pid.{Pid}
use Rattle.brisk_values.specs.Names.{Name, same_name, same_process, single}
use Rattle.brisk_values.proofs.Changes.{exact_process, name_laws, process_laws, changed-same}
use Rattle.brisk_syntax.specs.declared.program.Program.{Program}
use Rattle.brisk_syntax.specs.Instance.{Instance}
use Rattle.brisk_syntax.specs.Roles.{RoleText}
use Rattle.brisk_syntax.specs.Syntax.{Code, done}
use Rattle.brisk_async.specs.declared.event.Event.{Event}
use Rattle.brisk_async.specs.Machine.{State, Effect, Payload, unchanged, queue, effect, effect_in, seen_by, after, run, step}
use Rattle.brisk_async.specs.PlainRuns.{code_after, first_enabled, go_on, or_else, plain_events, plain_from, plain_instance, plain_next, plain_order, plain_schedule}
use Rattle.brisk_async.proofs.Runs.{mapped, run_on}
use Rattle.brisk_stars.specs.Runs.{IsStarState, members_in, nobody}
use Rattle.brisk_stars.specs.Serving.{Member, Served, Word, messages, settled, serve}
use Rattle.brisk_stars.specs.Sources.{IsCentre, IsStarSource, PlainRunOvertakes, plain_start}
use Rattle.brisk_stars.specs.Words.{InOrder}
use Rattle.brisk_stars.proofs.Ending.{NoneElse, any_append, one_spent, total, weight}
use Rattle.brisk_stars.proofs.Histories.{code_there}
use Rattle.brisk_stars.proofs.Keeping.{centre_serves, events_keep_serving, member_event}
use Rattle.brisk_stars.proofs.Orders.{found_leads, members_come_first}
use Rattle.brisk_stars.proofs.Running.{IsSaid, nothing}
use Rattle.brisk_stars.proofs.SizeTwo.{members_of_sets, order_is, others}

-- what holds of all in a list holds of one of them
of_one : (Q : Pid → Type 0) (p : Pid) (ps : List Pid) → AllByRecursion Q ps → list_any (same_process p) ps ≡ true → Q p
of_one Q p [] all h = cc
of_one Q p (q ∷ ps) all h =
    elim (same_process p q) as (λ b. same_process p q ≡ b → (b || list_any (same_process p) ps) ≡ true → Q p) [
      | true ↦ λ same g. subst Q (sym (exact_process p q same)) all.0
      | false ↦ λ apart g. of_one Q p ps all.1 g
    ] refl h

-- an event with an effect is enabled
pub enabled : (s : State) (e : Event) (es : List Event) (x : Effect) → effect_in s e ≡ Some x → first_enabled s (e ∷ es) ≡ Some (e, after s e.process x)
enabled s e es x h = ap (λ o. or_else e (option_map (after s e.process) o) (first_enabled s es)) h

-- no history is kept
abbrev pub Free : List Event → Type 0
Free past = Unit {0}

module _ (P : Program) (r : RoleText) (source : IsStarSource P) (centre : IsCentre P r) (V : Served) where
  abbrev pub M : Name
  M = r.name

  abbrev pub me : Pid
  me = single M

  abbrev pub order : List Pid
  order = plain_order P 2

  -- how many events are left in a state at most
  abbrev pub left_to : State → ℕ
  left_to s = total order (weight M s)

  -- a state on the way, after these events, with room for so many more
  pub record Base (n : ℕ) (past : List Event) (s : State) : Type 0 where
    pub runs : run (plain_start P 2) past ≡ Some s
    pub star : IsStarState M s
    pub sized : s.sizes ≡ (plain_start P 2).sizes
    pub none_else : NoneElse M order s
    pub room : left_to s ≤ n
    pub whole : plain_schedule P 2 ≡ past ++ plain_from n order s

  -- so it is after the next event
  pub goes_on : (n : ℕ) (past : List Event) (s t : State) (e : Event) → Base n past s → plain_next order s ≡ Some (e, t) → IsStarState M t → (m : ℕ) × (n ≡ suc m) × Base m (past ++ e ∷ []) t
  goes_on zero past s t e b next star =
      let x = one_spent M order s t e b.star b.none_else (found_leads s _ (e, t) next) in
      let falls = x.1 in let room = b.room in absurd (omega (arith, falls, room))
  goes_on (suc n) past s t e b next star =
      let steps : step s e ≡ Some t = found_leads s _ (e, t) next in
      let x = one_spent M order s t e b.star b.none_else steps in (
        n,
        refl,
        record {
          runs = run_on (plain_start P 2) s past (e ∷ []) b.runs ∙ ap (option_and_then (λ z. run z [])) steps;
          star = star;
          sized = x.2 ∙ b.sized;
          none_else = x.0;
          room = (let falls = x.1 in let room = b.room in omega (arith, falls, room));
          whole = b.whole ∙ ap (λ o. past ++ go_on o (plain_from n order)) next ∙ sym (append_assoc past (e ∷ []) (plain_from n order t));
        },
      )

  -- The centre is at this code, these words are still to be said, and what came so far is kept in mind.
  pub record Stage (Q : List Event → Type 0) (L : Code) (W : List Word) (n : ℕ) (past : List Event) (s : State) : Type 0 where
    pub base : Base n past s
    pub at : s.code me ≡ L
    pub served : serve W (members_in M s) ≡ V
    pub kept : Q past

  -- from there the plain run comes to overtake
  abbrev pub Leads : (List Event → Type 0) → Code → List Word → Type 0
  Leads Q L W = (n : ℕ) (past : List Event) (s : State) → Stage Q L W n past s → PlainRunOvertakes P

  -- it is enough to go on from the start
  pub from_start : (n : ℕ) (L : Code) (W : List Word) → plain_schedule P 2 ≡ plain_from n order (plain_start P 2) → left_to (plain_start P 2) ≤ n → IsStarState M (plain_start P 2) → NoneElse M order (plain_start P 2) →
      (plain_start P 2).code me ≡ L → serve W (members_in M (plain_start P 2)) ≡ V → Leads Free L W → PlainRunOvertakes P
  from_start n L W whole room star none_else at served more =
      more n [] (plain_start P 2) record { base = record { runs = refl; star = star; sized = refl; none_else = none_else; room = room; whole = whole }; at = at; served = served; kept = tt }

  -- what is kept in mind lasts over an event after which the centre is at this code
  abbrev pub Keeps : (List Event → Type 0) → Code → Type 0
  Keeps Q L = (past : List Event) (e : Event) → Q past → code_after P (plain_instance P 2) (past ++ e ∷ []) me ≡ Some L → Q (past ++ e ∷ [])

  -- no member goes on by itself, and the centre is asked
  pub record IsSettled (s : State) : Type 0 where
    pub members : (p : Pid) → settled (members_in M s p) ≡ members_in M s p
    pub asked : plain_next order s ≡ first_enabled s (plain_events s me (s.code me))

  abbrev there : State → Pid → Code → Member
  there s p c = record { left = messages c; up = λ d. length (s.mail (queue p me d)); down = λ d. length (s.mail (queue me p d)) }

  silent : (s : State) (p : Pid) → s.code p ≡ done → settled (members_in M s p) ≡ members_in M s p
  silent s p none = elim (same_name M p.role) as (λ b. settled (if b then nobody else there s p (s.code p)) ≡ (if b then nobody else there s p (s.code p))) [
    | true ↦ refl
    | false ↦ ap (λ c. settled (there s p c)) none ∙ ap (there s p) (sym none)
  ]

  all_settled : (s : State) → NoneElse M order s → AllByRecursion (λ (p : Pid). settled (members_in M s p) ≡ members_in M s p) (members_of_sets P) → (p : Pid) → settled (members_in M s p) ≡ members_in M s p
  all_settled s none all p =
      elim (list_any (same_process p) (members_of_sets P)) as (λ b. list_any (same_process p) (members_of_sets P) ≡ b → settled (members_in M s p) ≡ members_in M s p) [
        | true ↦ λ there. of_one (λ q. settled (members_in M s q) ≡ members_in M s q) p (members_of_sets P) all there
        | false ↦ λ off. elim (same_name M p.role) as (λ b. same_name M p.role ≡ b → settled (members_in M s p) ≡ members_in M s p) [
          | true ↦ λ role. (let is : members_in M s p ≡ nobody = ap (λ b. if b then nobody else there s p (s.code p)) role in ap settled is ∙ sym is)
          | false ↦ λ other. silent s p (none p (
              ap (list_any (same_process p)) (order_is P r centre)
              ∙ any_append (same_process p) (members_of_sets P) (me ∷ [])
              ∙ (λ i. off i || (alone other i || false))))
        ] refl
      ] refl
    where
      alone : same_name M p.role ≡ false → same_process p me ≡ false
      alone other = elim (same_process p me) as (λ b. same_process p me ≡ b → b ≡ false) [
        | true ↦ λ same. absurd (let role = ap (λ (q : Pid). same_name M q.role) (exact_process p me same) in let both = sym other ∙ role ∙ name_laws.refl M in cc)
        | false ↦ λ e. refl
      ] refl

  after_member : (Q : List Event → Type 0) (L : Code) (W : List Word) (n : ℕ) (past : List Event) (s t : State) (e : Event) → Keeps Q L → Stage Q L W n past s → plain_next order s ≡ Some (e, t) → same_name M e.process.role ≡ false →
      (m : ℕ) × (n ≡ suc m) × Stage Q L W m (past ++ e ∷ []) t
  after_member Q L W n past s t e keeps g next other =
      let p = e.process in
      let m = mapped (after s p) (effect_in s e) t (found_leads s _ (e, t) next) in
      let x = member_event M s g.base.star p e.sender e.place m.0 other m.1 in
      let star : IsStarState M t = subst (IsStarState M) m.2 x.0 in
      let b = goes_on n past s t e g.base next star in
      let at : t.code me ≡ L = ap (λ (z : State). z.code me) (sym m.2) ∙ x.1.0 ∙ g.at in (
        b.0,
        b.1,
        record {
          base = b.2;
          at = at;
          served = ap (λ (z : State). serve W (members_in M z)) (sym m.2) ∙ x.1.1 W ∙ g.served;
          kept = keeps past e g.kept (code_there P (plain_instance P 2) M (past ++ e ∷ []) t L b.2.runs at);
        },
      )

  -- members come first: so it is enough to go on from where they are settled
  module _ (Q : List Event → Type 0) (L : Code) (W : List Word) (keeps : Keeps Q L) (more : (n : ℕ) (past : List Event) (s : State) → Stage Q L W n past s → IsSettled s → PlainRunOvertakes P) where
    -- the next event is a member's, or the members are settled
    one_more : (n : ℕ) (past : List Event) (s : State) → Stage Q L W n past s → ((later : List Event) (t : State) (m : ℕ) → n ≡ suc m → Stage Q L W m later t → PlainRunOvertakes P) → PlainRunOvertakes P
    one_more n past s g again =
        elim (members_come_first M s (members_of_sets P) (me ∷ []) g.base.star (others P r source centre)) [
          | inl x ↦ (let y = after_member Q L W n past s x.1 x.0 keeps g (ap (λ ps. plain_next ps s) (order_is P r centre) ∙ x.2) x.3 in again (past ++ x.0 ∷ []) x.1 y.0 y.1 y.2)
          | inr y ↦ more n past s g record {
            members = all_settled s g.base.none_else y.1;
            asked = ap (λ ps. plain_next ps s) (order_is P r centre) ∙ y.0 ∙ ap (first_enabled s) (append-nil (plain_events s me (s.code me)));
          }
        ]

    within : (fuel n : ℕ) (past : List Event) (s : State) → n ≤ fuel → Stage Q L W n past s → PlainRunOvertakes P
    within zero n past s few g = one_more n past s g (λ later t m is h. absurd (omega (arith, few, is)))
    within (suc fuel) n past s few g = one_more n past s g (λ later t m is h. within fuel m later t (omega (arith, few, is)) h)

  pub settles : (Q : List Event → Type 0) (L : Code) (W : List Word) → Keeps Q L → ((n : ℕ) (past : List Event) (s : State) → Stage Q L W n past s → IsSettled s → PlainRunOvertakes P) → Leads Q L W
  settles Q L W keeps more n past s g = within Q L W keeps more n n past s (omega arith) g

  -- The centre takes an event by which words are said.
  pub moves : (Q R : List Event → Type 0) (L : Code) (W later : List Word) (sender : Option Pid) (place : Option ℕ) (n : ℕ) (past : List Event) (s : State) (x : Effect) → Stage Q L W n past s → IsSettled s →
      let e : Event = record { process = me; sender = sender; place = place } in
      effect (seen_by s me) me L sender place ≡ Some x → InOrder L sender → first_enabled s (plain_events s me L) ≡ Some (e, after s me x) → IsSaid M (seen_by s me) x.mail W later →
      (code_after P (plain_instance P 2) (past ++ e ∷ []) me ≡ Some x.next → R (past ++ e ∷ [])) → Leads R x.next later → PlainRunOvertakes P
  moves Q R L W later sender place n past s x g st acts order found says history more =
      let e : Event = record { process = me; sender = sender; place = place } in
      let next : plain_next (plain_order P 2) s ≡ Some (e, after s me x) = st.asked ∙ ap (λ c. first_enabled s (plain_events s me c)) g.at ∙ found in
      let steps : step s e ≡ Some (after s me x) = found_leads s _ (e, after s me x) next in
      let star = (events_keep_serving M s (after s me x) e g.base.star (λ is. subst (λ (c : Code). InOrder c sender) (sym g.at) order) steps).0 in
      let b = goes_on n past s (after s me x) e g.base next star in
      let at : (after s me x).code me ≡ x.next = changed-same process_laws s.code me x.next in
      more b.0 (past ++ e ∷ []) (after s me x) record {
        base = b.2;
        at = at;
        served = centre_serves M s g.base.star x W later says ∙ g.served;
        kept = history (code_there P (plain_instance P 2) M (past ++ e ∷ []) (after s me x) x.next b.2.runs at);
      }

  -- it takes one that says nothing
  pub silently : (Q : List Event → Type 0) (L : Code) (W : List Word) → Keeps Q L → ((s : State) → plain_events s me L ≡ record { process = me; sender = None; place = None } ∷ []) → InOrder L None →
      ((s : State) → s.sizes ≡ (plain_start P 2).sizes → (next : Code) × (xs : List Name) × (vs : Payload) ×
      (effect (seen_by s me) me L None None ≡ Some record { next = next; variables = xs; values = vs; mail = unchanged }) × Keeps Q next × Leads Q next W) → Leads Q L W
  silently Q L W keeps tried order acts = settles Q L W keeps (λ n past s g st.
      let a = acts s g.base.sized in
      let x : Effect = record { next = a.0; variables = a.1; values = a.2; mail = unchanged } in
      let e : Event = record { process = me; sender = None; place = None } in
      moves Q Q L W W None None n past s x g st a.3 order
      (ap (first_enabled s) (tried s) ∙ enabled s e [] x (ap (λ c. effect (seen_by s me) me c None None) g.at ∙ a.3))
      (nothing refl refl) (a.4 past e g.kept) a.5)
