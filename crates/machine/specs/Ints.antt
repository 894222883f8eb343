-- Numbers of 32 bits with a sign, and what an operator makes of them: a value, or a fault.
use Rattle.std.specs.Prelude.{ℕ, zero, suc, ◌^◌, Bool, true, false, cond, not, ℤ, pos, negsuc, ◌+ℤ◌, ◌-ℤ◌, ◌*ℤ◌, neg_ℤ, int_div, int_le, int_lt, int_rem, nat_lt}
use Rattle.std.specs.Int.Signed.{mag}
use Rattle.tiny.specs.Operators.{Unary, neg, Binary, add, sub, mul, quot, rem, and, or, lt, le, gt, ge, eq, ne}
use Rattle.tiny.specs.Operators as Rule

pub data Answer : Type 0 where
  gives : ℤ → Answer
  faults : ℕ → Answer

abbrev pub is_zero : ℤ → Bool
is_zero (pos zero) = true
is_zero (pos (suc n)) = false
is_zero (negsuc n) = false

abbrev pub truth : Bool → ℤ
truth true = pos 1
truth false = pos 0

-- a result outside 32 bits is fault 22
abbrev pub fit : ℤ → Answer
fit z = cond (nat_lt (mag z) (2 ^ 31)) (gives z) (faults 22)

abbrev pub unless_zero : ℤ → Answer → Answer
unless_zero d a = cond (is_zero d) (faults 23) a

abbrev pub both : ℤ → ℤ → Bool
both x y = cond (is_zero x) false (not (is_zero y))

abbrev pub either : ℤ → ℤ → Bool
either x y = cond (is_zero x) (not (is_zero y)) true

abbrev pub unary_of : Unary → ℤ → Answer
unary_of neg x = fit (neg_ℤ x)
unary_of Rule.not x = gives (truth (is_zero x))

abbrev pub binary_of : Binary → ℤ → ℤ → Answer
binary_of add x y = fit (x +ℤ y)
binary_of sub x y = fit (x -ℤ y)
binary_of mul x y = fit (x *ℤ y)
binary_of quot x y = unless_zero y (fit (int_div x y))
binary_of rem x y = unless_zero y (gives (int_rem x y))
binary_of and x y = gives (truth (both x y))
binary_of or x y = gives (truth (either x y))
binary_of lt x y = gives (truth (int_lt x y))
binary_of le x y = gives (truth (int_le x y))
binary_of gt x y = gives (truth (int_lt y x))
binary_of ge x y = gives (truth (int_le y x))
binary_of eq x y = gives (truth (is_zero (x -ℤ y)))
binary_of ne x y = gives (truth (not (is_zero (x -ℤ y))))

-- 0 ≤ i < n
abbrev pub in_range : ℤ → ℕ → Bool
in_range (pos i) n = nat_lt i n
in_range (negsuc i) n = false

abbrev pub nat : ℤ → ℕ
nat (pos i) = i
nat (negsuc i) = 0
