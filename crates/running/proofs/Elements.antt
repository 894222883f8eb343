-- Laws of the address of an element: the sum is made in 64 bits, and they suffice.
use Rattle.std.proofs.Common.{◌≡◌, ℕ, suc, ◌-◌, ◌*◌, ◌^◌, ◌<◌, ◌≤◌, true, false, cond, ltb, ℤ, pos, negsuc, ◌+ℤ◌, ◌*ℤ◌, nat_abs, Result, ap, mul-le-mul, arith, w32, w64, SFits, to_z, of_z}
use lib.Signed.{lt_z}
use Rattle.std.proofs.lemmas.Int.{to_z-of_z}
use Rattle.std.proofs.lemmas.Bool.{false≢true, lt-ltb, cond_both}
use Rattle.machine.specs.declared.fault.Fault.{Fault}
use Rattle.machine.specs.Machine.{made}
use Rattle.running.specs.Calculations.{element}
use Rattle.running.specs.Settling.{Settles}

pub wide : (z : ℤ) → SFits w32 z → SFits w64 z
wide z f = record { sfits = omega (arith, f.sfits) }

distance_most : (j s : ℕ) → j < 2 ^ 31 → s < 2 ^ 32 → j * s ≤ 9223372030412324865
distance_most j s h k =
    let a : j ≤ 2147483647 = omega arith in
    let b : s ≤ 4294967295 = omega arith in
    mul-le-mul a b

pub distance_fits : (i : ℤ) (s : ℕ) → SFits w32 i → lt_z i (pos 0) ≡ false → s < 2 ^ 32 → SFits w64 (i *ℤ pos s)
distance_fits (pos j) s f n k = let m = distance_most j s f.sfits k in record { sfits = omega arith }
distance_fits (negsuc j) s f n k = absurd (false≢true (ap (λ b. cond b false true) n))

pub sum_fits : (a i : ℤ) (s : ℕ) → SFits w32 a → SFits w32 i → lt_z i (pos 0) ≡ false → s < 2 ^ 32 → SFits w64 (a +ℤ i *ℤ pos s)
sum_fits (pos b) (pos j) s g f n k = let m = distance_most j s f.sfits k in record { sfits = omega (arith, g.sfits) }
sum_fits (negsuc b) (pos j) s g f n k =
    let m = distance_most j s f.sfits k in
    let h = g.sfits in
    cond_both (ltb (j * s) (suc b)) (negsuc (suc b - suc (j * s))) (pos (j * s - suc b)) (SFits w64) (λ _. record { sfits = omega arith }) (λ _. record { sfits = omega arith })
sum_fits a (negsuc j) s g f n k = absurd (false≢true (ap (λ b. cond b false true) n))

-- an index in range
pub in_bounds : (count size : ℕ) (a i : ℤ) (r : Result ℕ Fault) → lt_z i (pos 0) ≡ false → nat_abs i < count
    → Settles (made (a +ℤ i *ℤ pos size)) r → Settles (element count size a i) r
in_bounds count size a (pos j) r n h e = let t = lt-ltb j count h in record { goes_on = λ go. simp t (e.goes_on go) }
in_bounds count size a (negsuc j) r n h e = absurd (false≢true (ap (λ b. cond b false true) n))

-- the sum as it is made
pub made_sum : (a i b j k : ℤ) (s : ℕ) (r : Result ℕ Fault) → SFits w32 a → SFits w32 i → lt_z i (pos 0) ≡ false → s < 2 ^ 32
    → b ≡ to_z w32 (of_z w32 a) → j ≡ to_z w32 (of_z w32 i) → k ≡ pos s
    → Settles (made (to_z w64 (of_z w64 (to_z w64 (of_z w64 b) +ℤ to_z w64 (of_z w64 (to_z w64 (of_z w64 j) *ℤ to_z w64 (of_z w64 k))))))) r
    → Settles (made (a +ℤ i *ℤ pos s)) r
made_sum a i b j k s r g f n l eb ej ek h =
    let w = wide i f in
    let v = wide a g in
    let d = distance_fits i s f n l in
    let t = sum_fits a i s g f n l in
    let u : SFits w64 (pos s) = record { sfits = omega arith } in
    simp (eb, ej, ek, to_z-of_z) at h
