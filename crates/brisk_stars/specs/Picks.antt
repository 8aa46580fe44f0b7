-- A pick of the centre never closes: what is heard from a member is gone, and the close asks that the member is as it was.
use Rattle.std.specs.Prelude.{◌≡◌, ℕ, suc, ◌+◌, ◌≤◌, List, [], ◌∷◌, Some, None, Ok, if◌then◌else◌}
use Rattle.brisk_syntax.specs.declared.program.Program.{Program}
use Rattle.brisk_state.specs.Symbolic.{Symbolic}
use Rattle.brisk_derivation.specs.declared.steps.Fact.{Fact}
use Rattle.brisk_rules.specs.Following.{Follow}
use Rattle.brisk_sound.proofs.Strict.{IsStrict}
use Rattle.brisk_rules.specs.Rules.{Entered, close, enter_pick, enter_repeat}
use Rattle.brisk_syntax.specs.Syntax.{Code, RecvAny, Repeat, done, ◌⨾◌}
use Rattle.brisk_search.specs.Tries.{nine_tries, repeat_rule}
use Rattle.brisk_search.specs.Turns.{Failures, Stays}
use Rattle.brisk_search.specs.Drives.{Reached, Way, premise_of}
use Rattle.brisk_search.specs.Passes.{driver}
use Rattle.brisk_answered.proofs.Sides.{own_sides}
use Rattle.brisk_stars.specs.Searching.{IsAlone, IsRoomy}
use Rattle.brisk_stars.specs.Threads.{IsStarThreads, at_in}
use Rattle.brisk_values.specs.declared.value.Pid.{Pid}
use Rattle.brisk_values.specs.Names.{Name, same_name}
use Rattle.brisk_stars.specs.Serving.{Member, Message, Word, hears, sends, takes, serve}

-- how many sends on the channel are left
abbrev pub sends_on : Name → List Message → ℕ
sends_on c [] = 0
sends_on c (sends d ∷ more) = (if same_name d c then 1 else 0) + sends_on c more
sends_on c (takes d ∷ more) = sends_on c more

-- how many messages on the channel the centre can hear from the member at most
abbrev pub to_hear : Name → Member → ℕ
to_hear c m = sends_on c m.left + m.up c

-- After a word was heard from a member, and whatever was said then, there is less to hear from it. So it isn't again as it was, as the close
-- of a pick asks.
abbrev pub HearingTakes : Type 0
HearingTakes =
    (k : Pid) (c : Name) (words : List Word) (members : Pid → Member) → let s = serve (hears k c ∷ words) members in
    s.left ≡ [] → to_hear c (s.members k) + 1 ≤ to_hear c (members k)

-- So no try of a pick of the centre closes, where rules may nest deep enough.
abbrev pub PicksNeverClose : Type 0
PicksNeverClose =
    (P : Program) → IsStrict P → (F : Follow) (sizes : Name → ℕ) (M : Name) (n : ℕ) (S next : Symbolic) (drops : List Fact) (r : Entered) (w : Way) → 64 ≤ n → IsStarThreads sizes M S → IsAlone M S →
    enter_pick P S M drops ≡ Ok r → IsRoomy r.start → driver P own_sides (suc n) F (premise_of r) r.start None ≡ Reached w None → close r w.end ≡ Ok next → ⊥

-- And the repeat after a gather stays: in its premise the centre stands at a receive from any, whose one rule is a pick.
abbrev pub RepeatsStay : Type 0
RepeatsStay =
    (P : Program) → IsStrict P → (F : Follow) (sizes : Name → ℕ) (M : Name) (S : Symbolic) (c : Name) (xs : List Name) (v s : Name) (b rest : Code) (failures : Failures) → IsStarThreads sizes M S → IsAlone M S →
    at_in S M ≡ Repeat s 0 (RecvAny c xs v s b ⨾ done) ⨾ rest →
    ((drops more : List Fact) (r q : Entered) → enter_repeat S M drops ≡ Ok r → enter_pick P r.start M more ≡ Ok q → IsRoomy q.start) →
    (more : Failures) × (nine_tries P (Some (driver P own_sides 255)) S (repeat_rule F S M) failures None ≡ Stays more None)
