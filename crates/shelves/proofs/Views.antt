-- The view of an instruction determines it.
use Rattle.std.proofs.Common.{◌≡◌, ℕ, ◌+◌, ◌*◌, ◌/◌, ◌%◌, ◌<◌, ◌≤◌, min, true, leb, List, [], ◌∷◌, map, length, take, ℤ, pos, negsuc, Some, refl, ap, ◌∙◌, arith}
use native.Mathlib.Nat.{min-eq_left}
use Rattle.std.specs.List.{AllByRecursion as All}
use Rattle.std.proofs.lemmas.Bool.{leb-true, and_parts, eq-eqb, ne_eqb}
use Rattle.std.proofs.lemmas.Bool.Decides.{nat_tests}
use Rattle.shelves.specs.Groups.{zigzag, unzigzag}
use Rattle.machine.specs.Instructions.{Operand, value, level, number, view, allowed, all_allowed, lawful}
use Rattle.machine.specs.declared.instruction.Instruction.{Instruction}
use Rattle.shelves.specs.Parts.{raw, raws, padded, parts_of, arity, instruction_of}
use Rattle.shelves.specs.declared.parts.Parts.{Parts}

unzigzag_zigzag : (v : ℤ) → unzigzag (zigzag v) ≡ v
unzigzag_zigzag (pos n) =
    let even = eq-eqb ((2 * n) % 2) 0 (omega arith) in
    let half : (2 * n) / 2 ≡ n = omega arith in
    rw even (ap pos half)
unzigzag_zigzag (negsuc n) =
    let odd = ne_eqb ((2 * n + 1) % 2) 0 (λ e. omega arith) in
    let half : (2 * n + 1) / 2 ≡ n = omega arith in
    rw odd (ap negsuc half)

low : (l : ℕ) → leb l 8 ≡ true → min l 255 ≡ l
low l h = let k = leb-true l 8 h in min-eq_left (omega arith)

-- the one lemma over all instructions: the code number tells how many operands there are, and with them the instruction
pub seen : (i : Instruction) → (arity (view i).0 ≡ length (raws i)) × (lawful i ≡ true → instruction_of (view i).0 (padded (raws i)) ≡ Some i)
seen i = (grind arith, λ h. grind (arith, nat_tests, unzigzag_zigzag, low))

-- an allowed operand is written as a number of 32 bits
raw_short : (o : Operand) → allowed o ≡ true → raw o < 4294967296
raw_short (value (pos n)) h = let k = leb-true n 2147483647 h in omega arith
raw_short (value (negsuc n)) h = let k = leb-true n 2147483647 h in omega arith
raw_short (level l) h = let k = leb-true l 8 h in omega arith
raw_short (number n) h = let k = leb-true n 2147483647 h in omega arith

raws_short : (os : List Operand) → all_allowed os ≡ true → All (λ (n : ℕ). n < 4294967296) (map raw os)
raws_short [] h = tt
raws_short (o ∷ []) h = (raw_short o h, tt)
raws_short (o ∷ p ∷ os) h = let k = and_parts (allowed o) (all_allowed (p ∷ os)) h in (raw_short o k.0, raws_short (p ∷ os) k.1)

pub operands_short : (i : Instruction) → lawful i ≡ true → All (λ (n : ℕ). n < 4294967296) (raws i)
operands_short i h = raws_short (view i).1 h

arity_most : (c : ℕ) → arity c ≤ 3
arity_most c = grind (arith, nat_tests)

pub operands_few : (i : Instruction) → length (raws i) ≤ 3
operands_few i = omega (arith, (seen i).0, arity_most (view i).0)

taken_padded : (ns : List ℕ) → length ns ≤ 3 → take (length ns) (padded ns) ≡ ns
taken_padded [] h = refl
taken_padded (a ∷ []) h = refl
taken_padded (a ∷ b ∷ []) h = refl
taken_padded (a ∷ b ∷ c ∷ []) h = refl
taken_padded (a ∷ b ∷ c ∷ d ∷ ns) h = absurd (omega arith)

-- the operands that are present, out of three
operands_taken : (i : Instruction) → take (arity (view i).0) (padded (raws i)) ≡ raws i
operands_taken i = ap (λ (n : ℕ). take n (padded (raws i))) (seen i).0 ∙ taken_padded (raws i) (operands_few i)

-- the operands that are written
pub operands_present : (i : Instruction) (parts : Parts) → parts ≡ parts_of i → take (arity parts.code) parts.operands ≡ raws i
operands_present i parts e = ap (λ (q : Parts). take (arity q.code) q.operands) e ∙ operands_taken i
