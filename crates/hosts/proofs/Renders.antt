-- Laws of decimals.
use Rattle.std.proofs.Common.{◌≡◌, ℕ, ◌+◌, ◌/◌, ◌%◌, ◌^◌, ◌<◌, ◌≤◌, length, ℤ, pos, negsuc, decimal, w32, FitsSigned, ap, ◌∙◌, arith}
use Rattle.std.specs.Fmt.{signed_decimal}
use Rattle.std.proofs.lemmas.Fmt.{decimal_digit, decimal_step, decimal_nonempty, length-decimal-le}
use Rattle.std.proofs.lemmas.List.{length_push}

pub length_one : (n : ℕ) → n < 10 → length (decimal n) ≡ 1
length_one n h = ap length (decimal_digit n h)

pub length_step : (n : ℕ) → 10 ≤ n → n < 2 ^ 32 → length (decimal n) ≡ length (decimal (n / 10)) + 1
length_step n h k = ap length (decimal_step n h (omega arith)) ∙ length_push (decimal (n / 10)) (48 + n % 10)

pub length_most : (n : ℕ) → n < 2 ^ 32 → length (decimal n) ≤ 10
length_most n h = length-decimal-le 10 n (omega arith) (omega arith) (omega arith)

-- an int takes at least a byte
pub signed_some : (v : ℤ) → FitsSigned w32 v → 1 ≤ length (signed_decimal v)
signed_some (pos n) f = omega (arith, decimal_nonempty n (omega arith))
signed_some (negsuc n) f = omega arith
