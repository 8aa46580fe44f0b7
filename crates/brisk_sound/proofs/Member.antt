-- A receive from any, with one member of its set in focus as the sender.
use Rattle.std.proofs.Common.{◌≡◌, ℕ, suc, ◌+◌, true, false, List, Some, refl, sym, ap, ◌∙◌, subst, arith, zero-add, inl, inr}
use Rattle.std.specs.Prelude.{if◌then◌else◌, ◌&&◌, nat_lt}
use Rattle.brisk_values.specs.declared.value.Pid.{Pid}
use Rattle.brisk_values.specs.Functions.{changed}
use Rattle.brisk_values.specs.Names.{Name, same_name, same_process, member}
use Rattle.brisk_values.proofs.Changes.{name_laws, process_laws, exact_name, changed-other, changed-same}
use Rattle.brisk_syntax.specs.declared.tree.Who.TheVariants as who
use Rattle.brisk_syntax.specs.Substitution.{code_with}
use Rattle.brisk_syntax.specs.Syntax.{Statement, Recv, Code, done, ◌⨾◌, ◌then◌}
use Rattle.brisk_seq.specs.Sequential.{Focus, in_focus}
use Rattle.brisk_async.specs.declared.event.Event.{Event}
use Rattle.brisk_async.specs.Laws.{AnyReceive, any_code, named_code, count}
use Rattle.brisk_async.specs.Machine.{is_member, run}
use Rattle.brisk_async.proofs.Named.{same_run}
use Rattle.brisk_async.proofs.Senders.{Sent, any_schedule}
use Rattle.brisk_state.specs.declared.thread.Mode.TheVariants as thread_mode
use Rattle.brisk_rules.specs.Heads.{from_focus}
use Rattle.brisk_sound.proofs.Control.{silent_fits, silent_still, gone_on, not_both}
use Rattle.brisk_sound.proofs.Events as events
use Rattle.brisk_sound.proofs.Fits.{World, Conf, Picks, Fits, Still}
use Rattle.brisk_sound.proofs.For.{picks_in}
use Rattle.brisk_sound.proofs.Free.{Free, code_bound}
use Rattle.brisk_sound.proofs.Leads.{state}
use Rattle.brisk_sound.proofs.Loops.{facts_back}
use Rattle.brisk_sound.proofs.Middle.{focused, in_turn}
use Rattle.brisk_rules.proofs.Readings.{Reading, is_active, is_each, code_by}
use Rattle.brisk_sound.proofs.Sound.{Typing}

abbrev code_size : Code → ℕ
code_size done = 0
code_size (x ⨾ k) = suc (code_size k)

size-then : (a b : Code) → code_size (a then b) ≡ code_size a + code_size b
size-then done b = sym (zero-add (code_size b))
size-then (x ⨾ a) b = let h = size-then a b in omega (arith, h)

-- code isn't longer than itself
not_longer : (x : Statement) (a k : Code) → x ⨾ (a then k) ≡ k → ⊥
not_longer x a k e = let h = ap code_size e in let g = size-then a k in omega (arith, h, g)

-- a member of a set is its number
pub member_is : (sizes : Name → ℕ) (s : Name) (w : Pid) → is_member sizes s w ≡ true → (w ≡ member s w.member) × (nat_lt w.member (sizes s) ≡ true)
member_is sizes s w h =
    elim (same_name s w.role) as (λ b. same_name s w.role ≡ b → (b && nat_lt w.member (sizes s)) ≡ true → (w ≡ member s w.member) × (nat_lt w.member (sizes s) ≡ true)) [
      | true ↦ λ e g. ((λ i. record { role = sym (exact_name s w.role e) i; member = w.member }), g)
      | false ↦ λ e g. cc
    ] refl h

pub is_inside : (sizes : Name → ℕ) (s : Name) (m : ℕ) → nat_lt m (sizes s) ≡ true → is_member sizes s (member s m) ≡ true
is_inside sizes s m inside = λ i. name_laws.refl s i && inside i

-- a thread that rules move isn't a set
pub not_a_set : (S : Reading) (s t : Name) → S.mode s ≡ Some thread_mode.Each → is_active (S.mode t) ≡ true → same_name s t ≡ false
not_a_set S s t set act =
    elim (same_name s t) as (λ b. same_name s t ≡ b → b ≡ false) [
      | true ↦ λ e. absurd (not_both (S.mode t) act (ap (λ z. is_each (S.mode z)) (sym (exact_name s t e)) ∙ ap is_each set))
      | false ↦ λ e. refl
    ] refl

-- the receive as a process stands at it, with this code behind
abbrev pub stands : Focus → AnyReceive → Code → AnyReceive
stands φ a behind = record { channel = a.channel; variables = a.variables; binder = a.binder; set = a.set; body = code_by φ a.body; rest = behind }

-- where the process p stands at the receive, but names the member m
abbrev pub took : Focus → AnyReceive → Code → Pid → Conf → ℕ → Conf
took φ a behind p c m = record c { code = changed same_process c.code p (named_code (stands φ a behind) (member a.set m)) }

module _ (world : World) (T : Typing world) (S : Reading) (t : Name) (a : AnyReceive) (set : S.mode a.set ≡ Some thread_mode.Each) (act : is_active (S.mode t) ≡ true) (κ : Pid → Code) (φ : Focus) (picks : Picks S.mode φ) (X : Code) where
  abbrev pub behind_it : Pid → Code
  behind_it = changed same_process κ (φ t) X

  not_set : same_name a.set t ≡ false
  not_set = not_a_set S a.set t set act

  module _ (m : ℕ) where
    abbrev ψ : Focus
    ψ = in_focus a.set m φ

    pub same_focus : in_focus a.set m φ t ≡ φ t
    same_focus = ap (λ b. if b then member a.set m else φ t) not_set

    pub act_in : is_active (focused S.mode a.set t) ≡ true
    act_in = ap (λ b. is_active (if b then Some thread_mode.At else S.mode t)) not_set ∙ act

    first_is : Free a.set a.body → code_by ψ (from_focus a) then X ≡ named_code (stands φ a X) (member a.set m)
    first_is free = λ i. Recv a.channel a.variables (who.Pid (if name_laws.refl a.set i then member a.set m else φ a.set)) ⨾ (code_bound a.set m φ a.binder a.body free i then X)

    -- c is where the process stands, in front of which other codes of it may have stood
    module _ (free : Free a.set a.body) (c b : Conf) (again : (k : Code) → record c { code = changed same_process c.code (φ t) k } ≡ record b { code = changed same_process b.code (φ t) k }) where
      conf_is : (F : Name → Code) → gone_on world (in_turn S a.set F) κ behind_it ψ c (picks_in S.mode a.set φ m picks) t act_in (code_by ψ (from_focus a) then behind_it (ψ t)) ≡ took φ a X (φ t) b m
      conf_is F =
          (λ i. record c { code = changed same_process c.code (same_focus i) (code_by ψ (from_focus a) then behind_it (same_focus i)) })
          ∙ (λ i. record c { code = changed same_process c.code (φ t) (code_by ψ (from_focus a) then changed-same process_laws κ (φ t) X i) })
          ∙ (λ i. record c { code = changed same_process c.code (φ t) (first_is free i) })
          ∙ again (named_code (stands φ a X) (member a.set m))

      -- it fits where the thread stands at the receive from the member in focus
      pub took_fits : (F G : Name → Code) → changed same_name F t (from_focus a) ≡ G → Fits world (in_turn S a.set F) κ ψ c → Fits world (in_turn S a.set G) behind_it ψ (took φ a X (φ t) b m)
      took_fits F G codes fits =
          subst (λ (d : Conf). Fits world (in_turn S a.set G) behind_it ψ d) (conf_is F)
          (subst (λ (Z : Reading). Fits world Z behind_it ψ (gone_on world (in_turn S a.set F) κ behind_it ψ c (picks_in S.mode a.set φ m picks) t act_in (code_by ψ (from_focus a) then behind_it (ψ t))))
          (λ i. record S { mode = focused S.mode a.set; code = codes i; facts = facts_back S.facts t i })
          (silent_fits world (in_turn S a.set F) κ behind_it ψ c (picks_in S.mode a.set φ m picks) t act_in fits
          record { same = λ q l d. changed-other process_laws κ (φ t) X q (ap (λ z. same_process z q) (sym same_focus) ∙ d) } (from_focus a) (S.facts t)
          (events.own_facts world (in_turn S a.set F) κ ψ c (picks_in S.mode a.set φ m picks) t act_in fits)))

      pub took_still : Still world (focused S.mode a.set) ψ c (took φ a X (φ t) b m)
      took_still =
          subst (λ (d : Conf). Still world (focused S.mode a.set) ψ c d) (conf_is S.code)
          (silent_still world (in_turn S a.set S.code) κ behind_it ψ c (picks_in S.mode a.set φ m picks) t act_in (code_by ψ (from_focus a) then behind_it (ψ t)))

  module _ (b : Conf) (m : ℕ) where
    -- the process takes an event on the way to the code behind
    pub moves : (d : Conf) (u : List Event) → run (state world (took φ a X (φ t) b m)) u ≡ Some (state world d) → d.code (φ t) ≡ X → count (φ t) u ≡ 0 → ⊥
    moves d u r ends n =
        not_longer (Recv a.channel a.variables (who.Pid (member a.set m))) (code_with a.binder (who.Pid (member a.set m)) (code_by φ a.body)) X
        (sym (changed-same process_laws b.code (φ t) (named_code (stands φ a X) (member a.set m))) ∙ sym (same_run (state world (took φ a X (φ t) b m)) (state world d) (φ t) u n r).code ∙ ends)

    -- and the schedule on which it does, with the sender in its first event
    pub with_sender : b.code (φ t) ≡ any_code (stands φ a X) → nat_lt m (world.given.sizes a.set) ≡ true → (d : Conf) (u : List Event) →
        run (state world (took φ a X (φ t) b m)) u ≡ Some (state world d) → d.code (φ t) ≡ X → Sent (φ t) (member a.set m) (state world b) u (state world d)
    with_sender is inside d u r ends =
        elim (any_schedule (stands φ a X) (φ t) (state world b) u (state world d) (member a.set m) is (is_inside world.given.sizes a.set m inside) r) [
          | inl x ↦ x
          | inr n ↦ absurd (moves d u r ends n)
        ]

    pub typed_in : T.IsTyped b → b.code (φ t) ≡ any_code (stands φ a X) → nat_lt m (world.given.sizes a.set) ≡ true → T.IsTyped (took φ a X (φ t) b m)
    typed_in typed is inside = T.named b (φ t) (stands φ a X) (member a.set m) typed is (is_inside world.given.sizes a.set m inside)
