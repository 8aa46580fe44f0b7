-- The word `drop` is a name of the language.
use Rattle.std.proofs.Common.{refl, arith}
use Rattle.std.specs.Prelude.{codes}
use lib.Utf8.{encode}
use Rattle.unicode_ident.specs.Ident.{is_xid_start, is_xid_continue}
use Rattle.ucd_table.specs.Rows.{in_ranges}
use Rattle.ucd_derived.specs.XidStartRanges.{xid_start_ranges}
use Rattle.ucd_derived.specs.XidContinueRanges.{xid_continue_ranges}
use Rattle.brisk_lex.specs.Spelled.{IsName}
use Rattle.brisk_lex.specs.Vocabulary.{word}
use Rattle.brisk_lex.proofs.Spellable.{name_of_spelled}

pub drop_is_name : IsName (codes "drop")
unfolding is_xid_start is_xid_continue in_ranges xid_start_ranges xid_continue_ranges word encode
drop_is_name = name_of_spelled (codes "drop") (codes "drop", refl, (refl, refl, refl, omega arith))
