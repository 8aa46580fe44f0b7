-- What a sequential program does.
use Rattle.std.specs.Prelude.{◌≡◌, ℕ, zero, suc, ◌+◌, Bool, true, false, ◌&&◌, not, List, [], ◌∷◌, map, Option, Some, None, Result, Ok, Err, if◌then◌else◌, nat_lt, nat_eq}
use Rattle.std.specs.List.{list_any}
use Rattle.brisk_values.specs.declared.value.Kind.{Kind}
use Rattle.brisk_values.specs.declared.value.Pid.{Pid}
use Rattle.brisk_values.specs.declared.value.Value.{Value}
use Rattle.brisk_values.specs.Names.{Name, same_name, same_process, single, member}
use Rattle.brisk_values.specs.Values.{kind_of, same_kind}
use Rattle.brisk_syntax.specs.Declarations.{kind_in, role_named, decls_of}
use Rattle.brisk_syntax.specs.Instance.{Instance, set_sizes, start_store}
use Rattle.brisk_syntax.specs.Stores.{Store, stored, is_true}
use Rattle.brisk_syntax.specs.Syntax.{Expression}
use Rattle.brisk_syntax.specs.Value.{value_of}
use Rattle.brisk_seq.specs.declared.tree.SeqProgram.{SeqProgram}
use Rattle.brisk_seq.specs.Items.{Item, Pass, Fill, Take, If, While, For, ForAny, Pick, Repeat, Items, nothing, ◌⨟◌}

-- what stops a run: the number of a choice, or of a pass, fill or take, counts from 1
pub data Stop : Type 0 where
  BadChoice : (k : ℕ) → Stop
  ChoicesLeft : Stop
  Turns : Stop
  BadBox : (k : ℕ) → Stop

-- the boxes: from a number, a sender and a receiver to the values of a full box
abbrev pub Boxes : Type 0
Boxes = ℕ → Pid → Pid → Option (List Value)

-- a run so far: the store, the boxes, the choices that are left and the number of those that were asked for,
-- the turns of `while` that are left, and the number of passes, fills and takes
pub record Run : Type 0 where
  pub store : Store
  pub box : Boxes
  pub choices : List ℕ
  pub asked : ℕ
  pub turns : ℕ
  pub moves : ℕ

-- a run that goes on, or what stopped it
abbrev pub Ended : Type 0
Ended = Result Run Stop

-- goes on where nothing stopped the run
abbrev pub and_then : Ended → (Run → Ended) → Ended
and_then (Ok r) go = go r
and_then (Err stop) go = Err stop

-- the process that a name stands for: that of a single role, or a set's member in focus
abbrev pub Focus : Type 0
Focus = Name → Pid

-- the member k of the set is in focus
abbrev pub in_focus : Name → ℕ → Focus → Focus
in_focus s k who n = if same_name s n then member s k else who n

-- what stays the same in a run: the sizes, and the kind of each variable of each role
pub record Given : Type 0 where
  pub sizes : Name → ℕ
  pub kind : Name → Name → Option Kind

-- the boxes, but these contents in box n from p to q
abbrev pub with_box : ℕ → Pid → Pid → Option (List Value) → Boxes → Boxes
with_box n p q b f m p' q' = if nat_eq n m && same_process p p' && same_process q q' then b else f m p' q'

-- the value has the variable's kind
abbrev pub is_of_kind : Option Kind → Value → Bool
is_of_kind None v = false
is_of_kind (Some k) v = same_kind k (kind_of v)

-- there are as many values as variables, each of its variable's kind
abbrev pub are_of_kinds : (Name → Option Kind) → List Name → List Value → Bool
are_of_kinds kind [] [] = true
are_of_kinds kind (x ∷ xs) (v ∷ vs) = is_of_kind (kind x) v && are_of_kinds kind xs vs
are_of_kinds kind _ _ = false

-- fills a box that holds nothing
abbrev pub fill : Run → ℕ → Pid → Pid → List Value → Option (List Value) → Ended
fill r n p q vs None = Ok record r { box = with_box n p q (Some vs) r.box; moves = r.moves + 1 }
fill r n p q vs (Some ws) = Err (BadBox (r.moves + 1))

-- takes the values out of a box, if it holds values of the variables' kinds
abbrev pub take : Run → (Name → Option Kind) → ℕ → Pid → Pid → List Name → Option (List Value) → Ended
take r kind n p q xs None = Err (BadBox (r.moves + 1))
take r kind n p q xs (Some vs) =
    if are_of_kinds kind xs vs
    then Ok record r { store = stored r.store q xs vs; box = with_box n p q None r.box; moves = r.moves + 1 }
    else Err (BadBox (r.moves + 1))

-- goes on with the next choice, which must be a member of a set of this size that wasn't used
abbrev pub choose : ℕ → List ℕ → Run → List ℕ → (ℕ → Run → Ended) → Ended
choose size used r [] go = Err (BadChoice (r.asked + 1))
choose size used r (k ∷ ks) go =
    if nat_lt k size && not (list_any (nat_eq k) used)
    then go k record r { choices = ks; asked = r.asked + 1 }
    else Err (BadChoice (r.asked + 1))

-- n turns, with the members from k on in number order
abbrev pub for_each : ℕ → ℕ → (ℕ → Run → Ended) → Run → Ended
for_each zero k body r = Ok r
for_each (suc n) k body r = and_then (body k r) (for_each n (k + 1) body)

-- n turns, each with a choice at its beginning, and no member twice
abbrev pub for_any : ℕ → ℕ → List ℕ → (ℕ → Run → Ended) → Run → Ended
for_any zero size used body r = Ok r
for_any (suc n) size used body r = choose size used r r.choices (λ k s. and_then (body k s) (for_any n size (k ∷ used) body))

-- begins a turn of a `while`, where one is left
abbrev pub take_turn : ℕ → Run → (Run → Ended) → Ended
take_turn zero r go = Err Turns
take_turn (suc left) r go = go record r { turns = left }

-- turns while the guard holds: at most n, where n is the number of turns that are left
abbrev pub while_true : ℕ → (Run → Bool) → (Run → Ended) → Run → Ended
while_true zero guard body r = if guard r then Err Turns else Ok r
while_true (suc n) guard body r =
    if guard r then take_turn r.turns r (λ s. and_then (body s) (while_true n guard body)) else Ok r

-- the values of expressions at a process
abbrev pub values_at : Given → Run → Pid → List Expression → List Value
values_at given r p es = map (value_of given.sizes (r.store p)) es

-- the guard holds at a process
abbrev pub holds_at : Given → Run → Pid → Expression → Bool
holds_at given r p e = is_true (value_of given.sizes (r.store p) e)

-- what an item does, and what items do one after another
abbrev mutual
  pub does : Given → Item → Focus → Run → Ended
  does given (Pass to xs from es) who r =
      Ok record r { store = stored r.store (who to) xs (values_at given r (who from) es); moves = r.moves + 1 }
  does given (Fill n from to es) who r = fill r n (who from) (who to) (values_at given r (who from) es) (r.box n (who from) (who to))
  does given (Take to xs n from) who r = take r (given.kind (who to).role) n (who from) (who to) xs (r.box n (who from) (who to))
  does given (If p e a b) who r = if holds_at given r (who p) e then do_all given a who r else do_all given b who r
  does given (While p e b) who r = while_true r.turns (λ s. holds_at given s (who p) e) (λ s. do_all given b who s) r
  does given (For s b) who r = for_each (given.sizes s) 0 (λ k t. do_all given b (in_focus s k who) t) r
  does given (ForAny s b) who r = for_any (given.sizes s) (given.sizes s) [] (λ k t. do_all given b (in_focus s k who) t) r
  does given (Pick s b) who r = choose (given.sizes s) [] r r.choices (λ k t. do_all given b (in_focus s k who) t)
  does given (Repeat s b) who r = for_each (given.sizes s) 0 (λ k t. do_all given b who t) r

  pub do_all : Given → Items → Focus → Run → Ended
  do_all given nothing who r = Ok r
  do_all given (q ⨟ rest) who r = and_then (does given q who r) (λ s. do_all given rest who s)

-- what an instance gives to a run
abbrev pub given_by : SeqProgram → Instance → Given
given_by Q i = record { sizes = set_sizes Q.roles i; kind = λ n. kind_in (decls_of (role_named Q.roles n)) }

-- the run before the first item
abbrev pub begin : SeqProgram → Instance → List ℕ → ℕ → Run
begin Q i choices turns = record {
  store = start_store Q.roles i;
  box = λ n p q. None;
  choices = choices;
  asked = 0;
  turns = turns;
  moves = 0;
}

-- halted with a store, unless choices are left
abbrev pub halted_with : Run → List ℕ → Result Store Stop
halted_with r [] = Ok r.store
halted_with r (k ∷ ks) = Err ChoicesLeft

-- the store of a run that has halted, or what stopped it
abbrev pub ended : Ended → Result Store Stop
ended (Ok r) = halted_with r r.choices
ended (Err stop) = Err stop

-- the store with which the program halts on these choices and at most so many turns of `while`, or what stops it first
abbrev pub seq : SeqProgram → Instance → List ℕ → ℕ → Result Store Stop
seq Q i choices turns = ended (do_all (given_by Q i) Q.body single (begin Q i choices turns))

-- the store is one with which the program halts
abbrev pub Ends : SeqProgram → Instance → Store → Type 0
Ends Q i store = (choices : List ℕ) × (turns : ℕ) × (seq Q i choices turns ≡ Ok store)
