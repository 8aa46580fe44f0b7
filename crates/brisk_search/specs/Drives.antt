-- What a drive asks for, who comes in turn, and to what it comes.
use Rattle.std.specs.Prelude.{Bool, true, false, ◌&&◌, not, List, [], ◌∷◌, ◌++◌, filter, is_none, if◌then◌else◌}
use Rattle.std.specs.List.{list_any}
use Rattle.brisk_values.specs.Names.{Name}
use Rattle.brisk_syntax.specs.Syntax.{Code}
use Rattle.brisk_syntax.specs.Typing.{is_among}
use Rattle.brisk_seq.specs.Items.{Items}
use Rattle.brisk_state.specs.Same.{same_code}
use Rattle.brisk_state.specs.Symbolic.{Symbolic}
use Rattle.brisk_derivation.specs.Reports.{Tries}
use Rattle.brisk_derivation.specs.Steps.{Steps}
use Rattle.brisk_rules.specs.Derives.{first_unfinished}
use Rattle.brisk_rules.specs.Following.{Follow}
use Rattle.brisk_rules.specs.Rules.{looks, Entered}
use Rattle.brisk_rules.specs.Standing.{movable, fault_aside, focus_of, has_code, is_candidate, owners_of, stands_at}
use Rattle.brisk_search.specs.Turns.{RulesLeft}

-- A drive: its owners, its goal, who else comes in turn where no owner has code, and whether sets are tried too.
pub record Drive : Type 0 where
  pub owners : List Name
  pub goal : Symbolic → Bool
  pub candidates : Symbolic → List Name
  pub sets : Bool

-- a way through steps: the steps, what they give, and the state at their end
pub record Way : Type 0 where
  pub steps : Steps
  pub items : Items
  pub end : Symbolic

-- A drive reaches its goal; or it is stuck on its way, with the tries of its last round; or a rule is due and none is left.
pub data Driven : Type 0 where
  Reached : (way : Way) (left : RulesLeft) → Driven
  Stuck : (way : Way) (tries : Tries) (left : RulesLeft) → Driven
  Spent : Driven

-- what drives from a state on, where this follows, with so many rules left
abbrev pub Driver : Type 0
Driver = Follow → Drive → Symbolic → RulesLeft → Driven

-- the threads that rules move, but for these, in role order
abbrev pub others : List Name → Symbolic → List Name
others these S = filter (λ t. not (is_among these t)) (movable S)

-- the threads whose turn it may be: the owners, and then, while one of them has code, all others
abbrev pub in_turn : Drive → Symbolic → List Name
in_turn d S = d.owners ++ (if list_any (has_code S) d.owners then others d.owners S else d.candidates S)

-- the drive at the top: all code is to come to its end
abbrev pub top : Drive
top = record { owners = []; goal = λ S. is_none (first_unfinished S.threads); candidates = others []; sets = true }

-- the drive of a branch's side: its owner is to come to the code after the branch
abbrev pub side_of : Name → Code → Drive
side_of t rest = record { owners = t ∷ []; goal = λ S. same_code (stands_at S t) rest; candidates = others (t ∷ []); sets = false }

-- these, or others where there are none
abbrev pub or_others : List Name → List Name → List Name
or_others [] more = more
or_others (t ∷ ts) more = t ∷ ts

-- whose code must come to its end in a premise: the owners', or in a `for` without owners that of the member in focus
abbrev pub must_end : Entered → List Name
must_end r = or_others (owners_of r) (focus_of (looks r.kind))

-- the candidates in a premise; in one without owners the member in focus, and then all others
abbrev pub candidates_of : Entered → List Name → Symbolic → List Name
candidates_of r [] E = focus_of (looks r.kind) ++ others (focus_of (looks r.kind)) E
candidates_of r (t ∷ ts) E = filter (is_candidate r E) (others (t ∷ ts) E)

-- the drive of a premise: the rule may be closed, facts aside
abbrev pub premise_of : Entered → Drive
premise_of r = record {
  owners = owners_of r;
  goal = λ E. not (list_any (has_code E) (must_end r)) && is_none (fault_aside r E);
  candidates = candidates_of r (owners_of r);
  sets = false;
}
