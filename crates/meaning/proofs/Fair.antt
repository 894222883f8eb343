-- The faults of operators and of items are among 21 to 27.
use Rattle.std.proofs.Common.{zero, suc, ◌^◌, ◌≤◌, Bool, true, false, cond, ltb, ℤ, pos, negsuc, ◌+ℤ◌, ◌-ℤ◌, ◌*ℤ◌, neg_ℤ, Ok, Err, arith}
use lib.Signed.{quot_z, rem_z, mag}
use Rattle.machine.specs.Ints.{Answer, gives, faults, unary_of, binary_of, is_zero, fit, unless_zero}
use Rattle.machine.specs.Host.{Item, as_int, as_bool, bit}
use Rattle.meaning.specs.Rule.{Unary, Binary}
use Rattle.meaning.specs.Rule as Rule

abbrev pub Fair : Answer → Type 0
Fair (gives z) = Unit {0}
Fair (faults f) = (21 ≤ f) × (f ≤ 27)

fit_fair : (z : ℤ) → Fair (fit z)
fit_fair z = go (ltb (mag z) (2 ^ 31))
  where
    go : (b : Bool) → Fair (cond b (gives z) (faults 22))
    go true = tt
    go false = omega arith

unless_fair : (d : ℤ) (a : Answer) → Fair a → Fair (unless_zero d a)
unless_fair d a h = go (is_zero d)
  where
    go : (b : Bool) → Fair (cond b (faults 23) a)
    go true = omega arith
    go false = h

pub unary_fair : (o : Unary) (x : ℤ) → Fair (unary_of o x)
unary_fair Rule.neg x = fit_fair (neg_ℤ x)
unary_fair Rule.not x = tt

pub binary_fair : (o : Binary) (x y : ℤ) → Fair (binary_of o x y)
binary_fair Rule.add x y = fit_fair (x +ℤ y)
binary_fair Rule.sub x y = fit_fair (x -ℤ y)
binary_fair Rule.mul x y = fit_fair (x *ℤ y)
binary_fair Rule.quot x y = unless_fair y (fit (quot_z x y)) (fit_fair (quot_z x y))
binary_fair Rule.rem x y = unless_fair y (gives (rem_z x y)) tt
binary_fair Rule.and x y = tt
binary_fair Rule.or x y = tt
binary_fair Rule.lt x y = tt
binary_fair Rule.le x y = tt
binary_fair Rule.gt x y = tt
binary_fair Rule.ge x y = tt
binary_fair Rule.eq x y = tt
binary_fair Rule.ne x y = tt

bit_fair : (z : ℤ) → Fair (bit z)
bit_fair (pos zero) = tt
bit_fair (pos (suc zero)) = tt
bit_fair (pos (suc (suc n))) = omega arith
bit_fair (negsuc n) = omega arith

pub int_fair : (i : Item) → Fair (as_int i)
int_fair (Ok z) = tt
int_fair (Err e) = omega arith

pub bool_fair : (i : Item) → Fair (as_bool i)
bool_fair (Ok z) = bit_fair z
bool_fair (Err e) = omega arith
