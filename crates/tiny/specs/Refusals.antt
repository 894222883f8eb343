-- The number of each cause of refusal. The place of a refusal is where its cause stands:
-- TooLong, 16384; NoToken, the byte that begins no token; TooLarge, the literal, with its sign; TooMany, the token.
use Rattle.std.specs.Prelude.{ℕ}
use Rattle.tiny.specs.declared.faults.ScanCause.{ScanCause}
use Rattle.tiny.specs.declared.faults.ScanCause.TheVariants.{TooLong, NoToken, TooLarge, TooMany}

abbrev pub scan_number : ScanCause → ℕ
scan_number TooLong = 2
scan_number NoToken = 3
scan_number TooLarge = 4
scan_number TooMany = 5
