-- Values, their kinds, and when two are the same.
use Rattle.std.specs.Prelude.{ℤ, Bool, false, true, ◌&&◌}
use Rattle.std.specs.Int.{int_wrap, w64}
use Rattle.std.specs.Bool.{beq}
use Rattle.std.specs.Ordering.{int_eq}
use Rattle.brisk_values.specs.Names.{same_name}
use Rattle.brisk_values.specs.declared.value.Value.{Value}
use Rattle.brisk_values.specs.declared.value.Value.TheVariants.{Int, Bool as Truth, Tag}
use Rattle.brisk_values.specs.declared.value.Kind.{Kind}
use Rattle.brisk_values.specs.declared.value.Kind.TheVariants as kind

-- the kind of a value
abbrev pub kind_of : Value → Kind
kind_of (Int n) = kind.Int
kind_of (Truth b) = kind.Bool
kind_of (Tag e t) = kind.Enum e

-- the number from -2^63 to 2^63 - 1 that is congruent modulo 2^64
abbrev pub wrapped : ℤ → ℤ
wrapped n = int_wrap w64 n

-- the two kinds are the same
abbrev pub same_kind : Kind → Kind → Bool
same_kind kind.Int kind.Int = true
same_kind kind.Bool kind.Bool = true
same_kind (kind.Enum e) (kind.Enum f) = same_name e f
same_kind _ _ = false

-- the two values are the same
abbrev pub same_value : Value → Value → Bool
same_value (Int m) (Int n) = int_eq m n
same_value (Truth p) (Truth q) = beq p q
same_value (Tag e t) (Tag f u) = same_name e f && same_name t u
same_value _ _ = false
