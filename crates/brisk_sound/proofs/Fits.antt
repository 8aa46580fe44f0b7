-- Configurations that fit a symbolic state.
use Rattle.std.proofs.Common.{◌≡◌, ℕ, Bool, true, false, map, Option, Some, None, refl, sym, ap, ◌∙◌, subst, nat_eq}
use Rattle.std.specs.Prelude.{if◌then◌else◌, ◌&&◌, nat_lt}
use Rattle.brisk_values.specs.declared.value.Pid.{Pid}
use Rattle.brisk_values.specs.declared.value.Value.{Value}
use Rattle.brisk_values.specs.Functions.{changed}
use Rattle.brisk_values.specs.Names.{Name, same_name, same_process, single}
use Rattle.brisk_values.proofs.Changes.{process_laws, exact_name}
use Rattle.brisk_syntax.specs.declared.program.Program.{Program}
use Rattle.brisk_syntax.specs.Stores.{Store}
use Rattle.brisk_syntax.specs.Syntax.{Code, done, ◌then◌}
use Rattle.brisk_syntax.specs.Value.{or_false}
use Rattle.brisk_seq.specs.Sequential.{Boxes, Focus, Given}
use Rattle.brisk_async.specs.Machine.{Mail, queue}
use Rattle.brisk_state.specs.declared.thread.Mode.{Mode}
use Rattle.brisk_state.specs.declared.thread.Mode.TheVariants.{One}
use Rattle.brisk_state.specs.Symbolic.{key}
use Rattle.brisk_sound.specs.Does.{Mem}
use Rattle.brisk_rules.proofs.Readings.{Reading, is_active, is_each, has, denoted, code_by}

-- what stays the same in a run: the program, the sizes and the kinds
pub record World : Type 0 where
  pub program : Program
  pub given : Given

-- a state of the processes together with boxes
pub record Conf : Type 0 where
  pub code : Pid → Code
  pub store : Store
  pub mail : Mail
  pub box : Boxes

-- what a sequential program sees of it
abbrev pub mem : Conf → Mem
mem c = record { store = c.store; box = c.box }

-- the process is denoted by a thread
abbrev pub live : World → (Name → Option Mode) → Focus → Pid → Bool
live world mode φ p = denoted world.given.sizes φ (mode p.role) p

-- each focus is a process of its role
pub record Picks (mode : Name → Option Mode) (φ : Focus) : Type 0 where
  pub role_of : (t : Name) → (φ t).role ≡ t
  pub one : (t : Name) → mode t ≡ Some One → φ t ≡ single t

-- The configuration fits a symbolic state, where κ is the code behind that of each thread and φ the member in focus of each set.
pub record Fits (world : World) (S : Reading) (κ : Pid → Code) (φ : Focus) (c : Conf) : Type 0 where
  pub code : (p : Pid) → live world S.mode φ p ≡ true → c.code p ≡ code_by φ (S.code p.role) then κ p
  pub mail : (p q : Pid) → live world S.mode φ p ≡ true → live world S.mode φ q ≡ true → (C : Name) →
      map (λ n. c.box n p q) (S.pending (key p.role q.role C)) ≡ map Some (c.mail (queue p q C))
  pub empty : (p q : Pid) → live world S.mode φ p ≡ true → live world S.mode φ q ≡ true → (n : ℕ) →
      ((C : Name) → has n (S.pending (key p.role q.role C)) ≡ false) → c.box n p q ≡ None
  pub facts : (p : Pid) → live world S.mode φ p ≡ true → (x : Name) (v : Value) → S.facts p.role x ≡ Some v → or_false (c.store p x) ≡ v
  pub sets : (p : Pid) → live world S.mode φ p ≡ true → is_each (S.mode p.role) ≡ true → κ p ≡ done

-- nothing is done by, or sent to or from, a process that no thread denotes
pub record Still (world : World) (mode : Name → Option Mode) (φ : Focus) (c d : Conf) : Type 0 where
  pub code : (p : Pid) → live world mode φ p ≡ false → d.code p ≡ c.code p
  pub store : (p : Pid) → live world mode φ p ≡ false → d.store p ≡ c.store p
  pub sent : (p q : Pid) → live world mode φ p ≡ false → (C : Name) → d.mail (queue p q C) ≡ c.mail (queue p q C)
  pub got : (p q : Pid) → live world mode φ q ≡ false → (C : Name) → d.mail (queue p q C) ≡ c.mail (queue p q C)
  pub box_sent : (p q : Pid) → live world mode φ p ≡ false → (n : ℕ) → d.box n p q ≡ c.box n p q
  pub box_got : (p q : Pid) → live world mode φ q ≡ false → (n : ℕ) → d.box n p q ≡ c.box n p q

-- two changes at keys that are told apart alike
pub updated : {A B X Y : Type 0} (same : A → A → Bool) (alike : B → B → Bool) (f : A → X) (g : B → Y) (a q : A) (b r : B) (x : X) (y : Y) →
    same a q ≡ alike b r → (P : X → Y → Type 0) → (same a q ≡ true → P x y) → (same a q ≡ false → P (f q) (g r)) →
    P (changed same f a x q) (changed alike g b y r)
updated same alike f g a q b r x y e P here other =
    subst (λ (t : Bool). P (changed same f a x q) (if t then y else g r)) e
    (elim (same a q) as (λ t. same a q ≡ t → P (if t then x else f q) (if t then y else g r)) [ true ↦ here | false ↦ other ] refl)

both : (a b : Bool) → a ≡ false → (a && b) ≡ false
both a b e = ap (λ t. t && b) e

-- of the processes that are denoted, the active thread's alone has its role
pub sole : (world : World) (mode : Name → Option Mode) (φ : Focus) (t : Name) (q : Pid) → Picks mode φ → is_active (mode t) ≡ true → live world mode φ q ≡ true →
    same_process (φ t) q ≡ same_name t q.role
sole world mode φ t q picks act l =
    elim (same_name t q.role) as (λ b. same_name t q.role ≡ b → same_process (φ t) q ≡ b) [
      | true ↦ λ e.
          let s : t ≡ q.role = exact_name t q.role e in
          let a : is_active (mode q.role) ≡ true = subst (λ (z : Name). is_active (mode z) ≡ true) s act in
          ap (λ z. same_process (φ z) q) s ∙ sym (ap (λ b. if b then same_process (φ q.role) q else (is_each (mode q.role) && nat_lt q.member (world.given.sizes q.role))) a) ∙ l
      | false ↦ λ e. ap (λ z. same_name z q.role && nat_eq (φ t).member q.member) (picks.role_of t) ∙ both (same_name t q.role) _ e
    ] refl

pub active_live : (world : World) (mode : Name → Option Mode) (φ : Focus) (t : Name) → Picks mode φ → is_active (mode t) ≡ true → live world mode φ (φ t) ≡ true
active_live world mode φ t picks act =
    ap (λ z. if is_active (mode z) then same_process (φ z) (φ t) else (is_each (mode z) && nat_lt (φ t).member (world.given.sizes z))) (picks.role_of t)
    ∙ ap (λ b. if b then same_process (φ t) (φ t) else (is_each (mode t) && nat_lt (φ t).member (world.given.sizes t))) act
    ∙ process_laws.refl (φ t)
