-- What a sequential program does, as a relation: all that it can do, whatever the choices and however many turns.
use Rattle.std.specs.Prelude.{◌≡◌, ◌⊎◌, ◌↔◌, ℕ, zero, suc, ◌+◌, Bool, true, false, List, [], ◌∷◌, map, Some, None, nat_eq, nat_lt}
use Rattle.std.specs.List.{list_any}
use Rattle.brisk_values.specs.declared.value.Value.{Value}
use Rattle.brisk_values.specs.Names.{Name, single}
use Rattle.brisk_syntax.specs.Instance.{Instance, start_store}
use Rattle.brisk_syntax.specs.Stores.{Store, stored, is_true}
use Rattle.brisk_syntax.specs.Syntax.{Expression}
use Rattle.brisk_syntax.specs.Value.{value_of}
use Rattle.brisk_seq.specs.declared.tree.SeqProgram.{SeqProgram}
use Rattle.brisk_seq.specs.Items.{Item, Pass, Fill, Take, If, While, For, ForAny, Pick, Repeat, Items, nothing, ◌⨟◌}
use Rattle.brisk_seq.specs.Sequential.{Boxes, Focus, Given, in_focus, with_box, are_of_kinds, given_by, Ends}

-- the store, and the full boxes
pub record Mem : Type 0 where
  pub store : Store
  pub box : Boxes

-- what can be done: in a focus, from a store and boxes to others
abbrev pub Does : Type 1
Does = Focus → Mem → Mem → Type 0

-- a pass computes all values and then stores them
abbrev pub passes : Given → Name → List Name → Name → List Expression → Does
passes given to xs from es φ m n =
    n ≡ record { store = stored m.store (φ to) xs (map (value_of given.sizes (m.store (φ from))) es); box = m.box }

-- a fill puts values into an empty box
abbrev pub fills : Given → ℕ → Name → Name → List Expression → Does
fills given k from to es φ m n =
    (m.box k (φ from) (φ to) ≡ None)
    × (n ≡ record { store = m.store; box = with_box k (φ from) (φ to) (Some (map (value_of given.sizes (m.store (φ from))) es)) m.box })

-- a take stores what a box holds, and empties it
abbrev pub takes : Given → Name → List Name → ℕ → Name → Does
takes given to xs k from φ m n =
    (vs : List Value) × (m.box k (φ from) (φ to) ≡ Some vs) × (are_of_kinds (given.kind (φ to).role) xs vs ≡ true)
    × (n ≡ record { store = stored m.store (φ to) xs vs; box = with_box k (φ from) (φ to) None m.box })

-- nothing
abbrev pub stays : Does
stays φ m n = n ≡ m

-- first the one, then the other
infixr 5 ◌andthen◌
abbrev pub ◌andthen◌ : Does → Does → Does
(R andthen Q) φ m n = (l : Mem) × R φ m l × Q φ l n

-- whether the guard holds at a process
abbrev pub guard : Given → Name → Expression → Focus → Mem → Bool
guard given p e φ m = is_true (value_of given.sizes (m.store (φ p)) e)

-- the one where the guard holds, and otherwise the other
abbrev pub branches : Given → Name → Expression → Does → Does → Does
branches given p e R Q φ m n = ((guard given p e φ m ≡ true) × R φ m n) ⊎ ((guard given p e φ m ≡ false) × Q φ m n)

-- so many turns, while the guard holds
abbrev pub turns : Given → Name → Expression → Does → ℕ → Does
turns given p e R zero φ m n = (guard given p e φ m ≡ false) × (n ≡ m)
turns given p e R (suc k) φ m n = (guard given p e φ m ≡ true) × (l : Mem) × R φ m l × turns given p e R k φ l n

-- turns until the guard doesn't hold
abbrev pub loops : Given → Name → Expression → Does → Does
loops given p e R φ m n = (k : ℕ) × turns given p e R k φ m n

-- the turns from k on, so many
abbrev pub each : Name → Does → ℕ → ℕ → Does
each s R zero k φ m n = n ≡ m
each s R (suc left) k φ m n = (l : Mem) × R (in_focus s k φ) m l × each s R left (k + 1) φ l n

-- so many turns, each with a member that wasn't used
abbrev pub any : Name → Does → ℕ → ℕ → List ℕ → Does
any s R zero size used φ m n = n ≡ m
any s R (suc left) size used φ m n =
    (k : ℕ) × (nat_lt k size ≡ true) × (list_any (nat_eq k) used ≡ false) × (l : Mem) × R (in_focus s k φ) m l × any s R left size (k ∷ used) φ l n

-- so many turns
abbrev pub times : Does → ℕ → Does
times R zero φ m n = n ≡ m
times R (suc left) φ m n = (l : Mem) × R φ m l × times R left φ l n

-- one turn, with some member
abbrev pub picked : Name → Does → ℕ → Does
picked s R size φ m n = (k : ℕ) × (nat_lt k size ≡ true) × R (in_focus s k φ) m n

-- what an item can do, and what items can do one after another
abbrev mutual
  pub does : Given → Item → Does
  does given (Pass to xs from es) = passes given to xs from es
  does given (Fill k from to es) = fills given k from to es
  does given (Take to xs k from) = takes given to xs k from
  does given (If p e a b) = branches given p e (does_all given a) (does_all given b)
  does given (While p e b) = loops given p e (does_all given b)
  does given (For s b) = each s (does_all given b) (given.sizes s) 0
  does given (ForAny s b) = any s (does_all given b) (given.sizes s) (given.sizes s) []
  does given (Pick s b) = picked s (does_all given b) (given.sizes s)
  does given (Repeat s b) = times (does_all given b) (given.sizes s)

  pub does_all : Given → Items → Does
  does_all given nothing = stays
  does_all given (q ⨟ rest) = does given q andthen does_all given rest

-- the store and the boxes before the first item
abbrev pub start_mem : SeqProgram → Instance → Mem
start_mem Q i = record { store = start_store Q.roles i; box = λ n p q. None }

-- the stores with which a program halts, on any choices and turns, are those to which its items can lead
abbrev pub EndsAreDone : Type 0
EndsAreDone =
    (Q : SeqProgram) (i : Instance) (store : Store) →
    Ends Q i store ↔ ((m : Mem) × does_all (given_by Q i) Q.body single (start_mem Q i) m × (m.store ≡ store))
