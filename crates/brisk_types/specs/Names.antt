-- What names mean, read from the indexes.
use Rattle.std.specs.Prelude.{Bool, if◌then◌else◌, List, [], ◌∷◌, Option, None, Some, option_map}
use Rattle.std.specs.Option.{is_some}
use Rattle.brisk_values.specs.Names.{Name, same_name}
use Rattle.brisk_types.specs.declared.names.Globals.{Globals}
use Rattle.brisk_types.specs.declared.names.Names.{Names}
use Rattle.brisk_types.specs.declared.names.Processes.{Processes}
use Rattle.brisk_types.specs.Expressions.{Meaning}
use Rattle.brisk_types.specs.Indexes.{same_key, same_tag, key, tag_key, found}
use Rattle.brisk_types.specs.Sequences.{Meanings}

-- the enumerations and the tags that are known
abbrev pub known_enum : Globals → Name → Bool
known_enum globals e = is_some (found same_key globals.enums (key e))

abbrev pub known_tag : Globals → Name → Name → Bool
known_tag globals e t = is_some (found same_tag globals.tags (tag_key e t))

-- the sets and the single roles that are known
abbrev pub known_set : Globals → Name → Bool
known_set globals s = is_some (found same_key globals.sets (key s))

abbrev pub known_single : Globals → Name → Bool
known_single globals s = is_some (found same_key globals.singles (key s))

-- what names mean in the text of a role before its declarations
abbrev pub global_meaning : Globals → Name → Meaning
global_meaning globals own = record {
  is_enum = known_enum globals;
  is_tag = known_tag globals;
  kinds_on = λ c. option_map (λ k. k.now) (found same_key globals.channels (key c));
  is_set = known_set globals;
  is_single = known_single globals;
  place = λ n. found same_key globals.places (key n);
  own = own;
  kind_of_variable = λ x. None;
}

-- what names mean, as far as the variables are known
abbrev pub meaning_of : Names → Meaning
meaning_of names = record (global_meaning names.globals.now names.own) { kind_of_variable = λ x. found same_key names.variables (key x) }

-- the first of these meanings that is the own role's
abbrev pub named : List Meaning → Name → Option Meaning
named [] n = None
named (m ∷ ms) n = if same_name n m.own then Some m else named ms n

-- what names mean in the items, where this is what they mean in the text of each role
abbrev pub named_meanings : Globals → List Meaning → Meanings
named_meanings globals ms = record { is_set = known_set globals; is_single = known_single globals; meaning_at = named ms }

-- what names mean in the items of a sequential program, by the index of its roles
abbrev pub meanings_of : Processes → Meanings
meanings_of processes = record {
  is_set = known_set processes.globals.now;
  is_single = known_single processes.globals.now;
  meaning_at = λ p. option_map (λ names. meaning_of names.now) (found same_key processes.names (key p));
}
