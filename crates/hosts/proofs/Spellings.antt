-- What the test for a literal tells: the text is spelled as the source spells a literal.
use Rattle.std.proofs.Common.{◌≡◌, ℕ, ◌≤◌, true, false, ◌||◌, eqb, List, [], ◌∷◌, sym, refl, subst, ◌⊎◌, ⊎_elim, arith}
use Rattle.std.proofs.lemmas.Bool.{false≢true, and_parts, and_from, cases_eq, cases_Bool}
use Rattle.std.proofs.lemmas.Bool.Decides.{nat_tests}
use Rattle.tiny.specs.Spelling.{between, digit, Every, Numeral, nought, digits}
use Rattle.hosts.specs.Parts.{are_digits, numeral, literal, Spelled, plain, signed}

every_digit : (ds : List ℕ) → are_digits ds ≡ true → Every digit ds
every_digit [] h = tt
every_digit (d ∷ ds) h = let p = and_parts (digit d) (are_digits ds) h in (p.0, every_digit ds p.1)

all_digits : (ds : List ℕ) → Every digit ds → are_digits ds ≡ true
all_digits [] h = refl
all_digits (d ∷ ds) h = and_from (digit d) (are_digits ds) h.0 (all_digits ds h.1)

not_nought : (d : ℕ) → digit d ≡ true → (d ≡ 48 → ⊥) → between 49 57 d ≡ true
not_nought d h n = grind (arith, nat_tests)

pub numeral_spelled : (ds : List ℕ) → numeral ds ≡ true → Numeral ds
numeral_spelled [] h = absurd (false≢true h)
numeral_spelled (d ∷ []) h =
    ⊎_elim (λ (e : d ≡ 48). subst (λ (x : ℕ). Numeral (x ∷ [])) (sym e) nought) (λ (n : d ≡ 48 → ⊥). digits (not_nought d h n) tt) (cases_eq d 48)
numeral_spelled (d ∷ e ∷ ds) h =
    let first : between 49 57 d ≡ true = grind (arith, nat_tests) in
    let rest : are_digits (e ∷ ds) ≡ true = grind (arith, nat_tests) in
    digits first (every_digit (e ∷ ds) rest)

digits_numeral : (d : ℕ) (ds : List ℕ) → between 49 57 d ≡ true → are_digits ds ≡ true → numeral (d ∷ ds) ≡ true
digits_numeral d [] p q = grind (arith, nat_tests)
digits_numeral d (e ∷ ds) p q = grind (arith, nat_tests)

pub spelled_numeral : {ds : List ℕ} → Numeral ds → numeral ds ≡ true
spelled_numeral nought = refl
spelled_numeral (digits {d = d} {ds = ds} p q) = digits_numeral d ds p (all_digits ds q)

-- a numeral begins with a digit
abbrev Begins : List ℕ → Type 0
Begins [] = ⊥
Begins (b ∷ bs) = 48 ≤ b

begins : {bs : List ℕ} → Numeral bs → Begins bs
begins nought = omega arith
begins (digits {d = d} p q) = grind (arith, nat_tests)

sign_of : (b : ℕ) → (eqb b 45 || eqb b 43) ≡ true → (b ≡ 43) ⊎ (b ≡ 45)
sign_of b h = grind (arith, nat_tests)

pub literal_spelled : (part : List ℕ) → literal part ≡ true → Spelled part
literal_spelled [] h = absurd (false≢true h)
literal_spelled (b ∷ bs) h = ⊎_elim
    (λ (t : (eqb b 45 || eqb b 43) ≡ true). signed (sign_of b t) (numeral_spelled bs (simp t at h)))
    (λ (f : (eqb b 45 || eqb b 43) ≡ false). plain (numeral_spelled (b ∷ bs) (simp f at h)))
    (cases_Bool (eqb b 45 || eqb b 43))

unsigned : (bs : List ℕ) → Begins bs → numeral bs ≡ true → literal bs ≡ true
unsigned [] h n = absurd h
unsigned (b ∷ bs) h n = let f : (eqb b 45 || eqb b 43) ≡ false = grind (arith, nat_tests) in simp f n

pub spelled_literal : {part : List ℕ} → Spelled part → literal part ≡ true
spelled_literal (plain {bs = bs} n) = unsigned bs (begins n) (spelled_numeral n)
spelled_literal (signed {b = b} {bs = bs} s n) = let t : (eqb b 45 || eqb b 43) ≡ true = grind (arith, nat_tests) in simp t (spelled_numeral n)
