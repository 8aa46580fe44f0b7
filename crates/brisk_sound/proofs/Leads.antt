-- Configurations through which every schedule to a terminal state can be made to pass.
use Rattle.std.proofs.Common.{◌≡◌, ◌+◌, true, false, List, [], ◌∷◌, ◌++◌, Some, None, refl, sym, ap, ◌∙◌, arith, zero-add, Bool}
use Rattle.std.specs.Prelude.{option_map, option_and_then, if◌then◌else◌}
use Rattle.brisk_values.specs.declared.value.Pid.{Pid}
use Rattle.brisk_values.specs.Functions.{changed}
use Rattle.brisk_values.specs.Names.{same_process}
use Rattle.brisk_values.proofs.Changes.{exact_process}
use Rattle.brisk_syntax.specs.Syntax.{Code}
use Rattle.brisk_seq.specs.Sequential.{Boxes}
use Rattle.brisk_async.specs.declared.event.Event.{Event}
use Rattle.brisk_async.specs.Laws.{plain_event, count}
use Rattle.brisk_async.specs.Machine.{State, Effect, effect, seen_by, after, step, run, IsTerminal, Change, changed_mail}
use Rattle.brisk_async.proofs.Alone.{front_first}
use Rattle.brisk_async.proofs.Runs.{run-append}
use Rattle.brisk_sound.proofs.Fits.{World, Conf}
use Rattle.brisk_sound.proofs.Fronts.{IsFirst, front_of}

-- the state of the processes
abbrev pub state : World → Conf → State
state world c = record { program = world.program; sizes = world.given.sizes; code = c.code; store = c.store; mail = c.mail }

pub count-append : (p : Pid) (xs ys : List Event) → count p (xs ++ ys) ≡ count p xs + count p ys
count-append p [] ys = sym (zero-add (count p ys))
count-append p (e ∷ xs) ys = let h = count-append p xs ys in omega (arith, h)

-- what is left of a schedule once these events were taken first
pub record Rest (world : World) (d : Conf) (t s : List Event) (z : State) : Type 0 where
  pub left : List Event
  pub ends : run (state world d) left ≡ Some z
  pub counts : (p : Pid) → count p s ≡ count p t + count p left

-- c comes to d, and so does, first of all, every schedule to a terminal state
pub record Leads (world : World) (c d : Conf) : Type 0 where
  pub by : List Event
  pub runs : run (state world c) by ≡ Some (state world d)
  pub first : (s : List Event) (z : State) → run (state world c) s ≡ Some z → IsTerminal z → Rest world d by s z

abbrev pub stays : (world : World) (c : Conf) → Leads world c c
stays world c = record { by = []; runs = refl; first = λ s z r end. record { left = s; ends = r; counts = λ p. sym (zero-add (count p s)) } }

pub rest-append : (world : World) (d e : Conf) (t u s : List Event) (z : State) (a : Rest world d t s z) → Rest world e u a.left z → Rest world e (t ++ u) s z
rest-append world d e t u s z a b = record {
  left = b.left;
  ends = b.ends;
  counts = λ p. let h = a.counts p in let i = b.counts p in let j = count-append p t u in omega (arith, h, i, j);
}

pub runs-append : (world : World) (c d e : Conf) (t u : List Event) → run (state world c) t ≡ Some (state world d) → run (state world d) u ≡ Some (state world e) → run (state world c) (t ++ u) ≡ Some (state world e)
runs-append world c d e t u a b = run-append (state world c) t u ∙ ap (option_and_then (λ z. run z u)) a ∙ b

abbrev pub then_leads : (world : World) (c d e : Conf) → Leads world c d → Leads world d e → Leads world c e
then_leads world c d e a b = record {
  by = a.by ++ b.by;
  runs = runs-append world c d e a.by b.by a.runs b.runs;
  first = λ s z r end. let x = a.first s z r end in let y = b.first x.left z x.ends end in rest-append world d e a.by b.by s z x y;
}

abbrev pub one_leads : (world : World) (c d : Conf) (p : Pid) → step (state world c) (plain_event p) ≡ Some (state world d) → Leads world c d
one_leads world c d p h = record {
  by = plain_event p ∷ [];
  runs = ap (option_and_then (λ t. run t [])) h;
  first = λ s z r end. let f = front_first (state world c) (state world d) z p s h r end in record { left = f.0; ends = f.1; counts = λ q. let i = f.2 q in omega (arith, i) };
}

-- the same of a receive that is the first event of its process
abbrev pub first_leads : (world : World) (c d : Conf) (e : Event) → IsFirst (state world c) e → step (state world c) e ≡ Some (state world d) → Leads world c d
first_leads world c d e first h = record {
  by = e ∷ [];
  runs = ap (option_and_then (λ t. run t [])) h;
  first = λ s z r end. let f = front_of (state world c) (state world d) z e s first h r end in record { left = f.0; ends = f.1; counts = λ q. let i = f.2 q in omega (arith, i) };
}

-- an event, from the code and the effect
abbrev pub event_leads : (world : World) (c : Conf) (p : Pid) (k : Code) (x : Effect) (box : Boxes) → c.code p ≡ k →
    effect (seen_by (state world c) p) p k None None ≡ Some x →
    let s = after (state world c) p x in Leads world c record { code = s.code; store = s.store; mail = s.mail; box = box }
event_leads world c p k x box e h =
    one_leads world c _ p (ap (λ k. option_map (after (state world c) p) (effect (seen_by (state world c) p) p k None None)) e ∙ ap (option_map (after (state world c) p)) h)

pub unchanged_at : {K X : Type 0} (same : K → K → Bool) → ((a b : K) → same a b ≡ true → a ≡ b) → (f : K → X) (k : K) (x : X) → x ≡ f k → changed same f k x ≡ f
unchanged_at {K = K} same exact f k x e = λ i q. back q i
  where
    back : (q : K) → changed same f k x q ≡ f q
    back q = elim (same k q) as (λ b. same k q ≡ b → (if b then x else f q) ≡ f q) [ true ↦ λ h. e ∙ ap f (exact k q h) | false ↦ λ h. refl ] refl

pub changed_back : {X : Type 0} (f : Pid → X) (p : Pid) → changed same_process f p (f p) ≡ f
changed_back f p = λ i q. back q i
  where
    back : (q : Pid) → changed same_process f p (f p) q ≡ f q
    back q = elim (same_process p q) as (λ b. same_process p q ≡ b → (if b then f p else f q) ≡ f q) [ true ↦ λ e. ap f (exact_process p q e) | false ↦ λ e. refl ] refl

-- an event that stores nothing
abbrev pub quiet_leads : (world : World) (c : Conf) (p : Pid) (k next : Code) (change : Change) (box : Boxes) → c.code p ≡ k →
    effect (seen_by (state world c) p) p k None None ≡ Some record { next = next; variables = []; values = []; mail = change } →
    Leads world c record { code = changed same_process c.code p next; store = c.store; mail = changed_mail change c.mail; box = box }
quiet_leads world c p k next change box e h =
    one_leads world c _ p (
    ap (λ k. option_map (after (state world c) p) (effect (seen_by (state world c) p) p k None None)) e
    ∙ ap (option_map (after (state world c) p)) h
    ∙ (λ i. Some record { program = world.program; sizes = world.given.sizes; code = changed same_process c.code p next; store = changed_back c.store p i; mail = changed_mail change c.mail })
    )
