-- Indexes as functions.
use Rattle.std.specs.Prelude.{Bool, ◌&&◌, cond, Option, Some, None}
use Rattle.std.specs.Option.{option_or}
use Rattle.indexmap.specs.IndexMap.{get}
use Rattle.brisk_values.specs.Names.{Name, same_name}
use Rattle.brisk_types.specs.declared.index.Key.{Key}
use Rattle.brisk_types.specs.declared.index.TagKey.{TagKey}
use Rattle.brisk_types.specs.declared.index.Index.{Index}

-- the value that the index has for the key
abbrev pub found : {K V : Type 0} → (K → K → Bool) → Index K V → K → Option V
found eq index k = get eq index.entries k

abbrev pub nothing : {K V : Type 0} → K → Option V
nothing k = None

-- what there is, and a value for one more key
abbrev pub added : {K V : Type 0} → (K → K → Bool) → (K → Option V) → K → V → K → Option V
added eq f k v q = option_or (f q) (cond (eq q k) (Some v) None)

-- the keys are of one name
abbrev pub same_key : Key → Key → Bool
same_key a b = same_name a.name b.name

-- the keys are of one tag
abbrev pub same_tag : TagKey → TagKey → Bool
same_tag a b = same_key a.of b.of && same_key a.tag b.tag

abbrev pub key : Name → Key
key n = record { name = n }

abbrev pub tag_key : Name → Name → TagKey
tag_key e t = record { of = key e; tag = key t }
