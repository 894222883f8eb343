-- The number of each cause of refusal, and its place.
use Rattle.std.specs.Prelude.{ℕ, List, [], ◌∷◌, length}
use Rattle.tiny.specs.Token.{Token}
use Rattle.tiny.specs.Refusals.{scan_number}
use Rattle.parser.specs.declared.faults.ParseFault.{ParseFault}
use Rattle.parser.specs.declared.faults.ParseFault.TheVariants.{Scan, Syntax, Full}
use Rattle.parser.specs.declared.faults.SyntaxCause.TheVariants.{Unexpected}

abbrev pub parse_number : ParseFault → ℕ
parse_number (Scan f) = scan_number f.what
parse_number (Syntax f) = 6
parse_number Full = 1

abbrev pub parse_place : ParseFault → ℕ
parse_place (Scan f) = f.place
parse_place (Syntax f) = f.place
parse_place Full = 0

-- where a refusal stands: at the first token that is left, or at the end of the source
abbrev pub place_of : List ℕ → List Token → ℕ
place_of source [] = length source
place_of source (t ∷ ts) = t.place

abbrev pub refusal : List ℕ → List Token → ParseFault
refusal source ts = Syntax (record { what = Unexpected; place = place_of source ts })
