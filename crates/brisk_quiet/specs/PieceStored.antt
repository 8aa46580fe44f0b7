-- How pieces are kept by proofs. A piece is plain data, so that it has a code.
use Rattle.std.specs.Prelude.{Option, refl}
use Rattle.std.specs.Coded.{Coded, code_by, coded×, coded_option}
use Rattle.brisk_values.specs.Names.{Name}
use Rattle.brisk_values.specs.Places.{coded_name}
use Rattle.brisk_syntax.specs.Syntax.{Code}
use Rattle.brisk_syntax.specs.Stored.{coded_code}
use Rattle.brisk_quiet.specs.Sender.{Piece}

abbrev pub coded_piece : Coded Piece
coded_piece = code_by (Option Name × Code) (coded× (coded_option coded_name) coded_code) (λ p. (p.mark, p.code)) (λ p. record { mark = p.0; code = p.1 }) (λ _. refl)
