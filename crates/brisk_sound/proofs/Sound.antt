-- What it is for steps of a derivation to be sound.
use Rattle.std.proofs.Common.{◌≡◌, Bool, true, List, Option, Some, None}
use Rattle.brisk_values.specs.declared.value.Pid.{Pid}
use Rattle.brisk_values.specs.declared.value.Value.{Value}
use Rattle.brisk_values.specs.Functions.{changed}
use Rattle.brisk_values.specs.Names.{Name, same_process}
use Rattle.brisk_syntax.specs.declared.tree.Who.{Who}
use Rattle.brisk_syntax.specs.Stores.{is_true}
use Rattle.brisk_syntax.specs.Syntax.{Expression, Statement, Recv, If, IfElse, While, Code, ◌⨾◌}
use Rattle.brisk_syntax.specs.Value.{value_of}
use Rattle.brisk_seq.specs.Sequential.{Focus, are_of_kinds}
use Rattle.brisk_async.specs.declared.event.Event.{Event}
use Rattle.brisk_async.specs.Laws.{AnyReceive, any_code, named_code}
use Rattle.brisk_async.specs.Machine.{State, is_member, queue, payload_at, run, IsTerminal}
use Rattle.brisk_facts.specs.Laws.{Agrees}
use Rattle.brisk_sound.specs.Does.{Mem, Does}
use Rattle.brisk_sound.proofs.Fits.{World, Conf, mem, Picks, Fits, Still}
use Rattle.brisk_sound.proofs.Leads.{state, Rest, Leads}
use Rattle.brisk_rules.proofs.Readings.{Reading, Known, learnt}

-- the guard of a statement
abbrev pub guard_of : Statement → Option Expression
guard_of (If e a) = Some e
guard_of (IfElse e a b) = Some e
guard_of (While e b) = Some e
guard_of s = None

-- what holds of every state of a well-typed program
pub record Typing (world : World) : Type 1 where
  pub IsTyped : Conf → Type 0
  pub runs : (c d : Conf) (es : List Event) → IsTyped c → run (state world c) es ≡ Some (state world d) → IsTyped d
  pub finds : (c : Conf) (p q : Pid) (C : Name) (xs : List Name) (u : Who) (k : Code) (m : List Value) → IsTyped c → c.code p ≡ Recv C xs u ⨾ k → payload_at (c.mail (queue q p C)) 0 ≡ Some m → are_of_kinds (world.given.kind p.role) xs m ≡ true
  pub learns : (c : Conf) (p : Pid) (s : Statement) (k : Code) (e : Expression) (f : Known) (b : Bool) → IsTyped c → c.code p ≡ s ⨾ k → guard_of s ≡ Some e →
      Agrees (c.store p) f → is_true (value_of world.given.sizes (c.store p) e) ≡ b → Agrees (c.store p) (learnt f e b)
  -- what may stand behind the codes of the threads
  pub Behind : (Pid → Code) → Focus → Type 0
  pub named : (c : Conf) (p : Pid) (a : AnyReceive) (w : Pid) → IsTyped c → c.code p ≡ any_code a → is_member world.given.sizes a.set w ≡ true →
      IsTyped record c { code = changed same_process c.code p (named_code a w) }

-- the same, where other code may stand behind
abbrev pub behind_by : (world : World) → Typing world → ((Pid → Code) → Focus → Type 0) → Typing world
behind_by world T B = record { IsTyped = T.IsTyped; runs = T.runs; finds = T.finds; learns = T.learns; Behind = B; named = T.named }

pub record Arrives (world : World) (S S' : Reading) (κ : Pid → Code) (φ : Focus) (c d : Conf) (t : List Event) : Type 0 where
  pub runs : run (state world c) t ≡ Some (state world d)
  pub fits : Fits world S' κ φ d
  pub still : Still world S.mode φ c d

module _ (world : World) (T : Typing world) where
  pub record Sound (S : Reading) (R : Does) (S' : Reading) : Type 0 where
    pub there : (κ : Pid → Code) (φ : Focus) (c : Conf) → T.IsTyped c → T.Behind κ φ → Picks S.mode φ → Fits world S κ φ c → (m : Mem) → R φ (mem c) m →
        (d : Conf) × (mem d ≡ m) × (t : List Event) × Arrives world S S' κ φ c d t
    pub back : (κ : Pid → Code) (φ : Focus) (c : Conf) → T.IsTyped c → T.Behind κ φ → Picks S.mode φ → Fits world S κ φ c → (s : List Event) (z : State) → run (state world c) s ≡ Some z → IsTerminal z →
        (d : Conf) × R φ (mem c) (mem d) × (t : List Event) × Arrives world S S' κ φ c d t × Rest world d t s z

  -- where there is one way to go on, by these events
  pub record Goes (S : Reading) (R : Does) (S' : Reading) (κ : Pid → Code) (φ : Focus) (c : Conf) (by : List Event) : Type 0 where
    pub to : Conf
    pub leads : Leads world c to
    pub schedule : leads.by ≡ by
    pub does : R φ (mem c) (mem to)
    pub alone : (m : Mem) → R φ (mem c) m → mem to ≡ m
    pub fits : Fits world S' κ φ to
    pub still : Still world S.mode φ c to

  abbrev pub Going : Reading → Does → Reading → (Focus → List Event) → Type 0
  Going S R S' by = (κ : Pid → Code) (φ : Focus) (c : Conf) → T.IsTyped c → T.Behind κ φ → Picks S.mode φ → Fits world S κ φ c → Goes S R S' κ φ c (by φ)

  pub sound_going : (S : Reading) (R : Does) (S' : Reading) (by : Focus → List Event) → Going S R S' by → Sound S R S'
  sound_going S R S' by h = record {
    there = λ κ φ c y b p f m r. let g = h κ φ c y b p f in (g.to, g.alone m r, g.leads.by, record { runs = g.leads.runs; fits = g.fits; still = g.still });
    back = λ κ φ c y b p f s z r end. let g = h κ φ c y b p f in (g.to, g.does, g.leads.by, record { runs = g.leads.runs; fits = g.fits; still = g.still }, g.leads.first s z r end);
  }
