-- Words without their letter case, and numbers digit by digit.
use Rattle.std.proofs.Common.{◌≡◌, ℕ, ◌+◌, ◌-◌, ◌*◌, ◌≤◌, min, Bool, ◌&&◌, eqb, List, [], ◌∷◌, fold, sym, refl, ap, ◌∙◌, ap₂, inl, inr, arith}
use Rattle.std.proofs.lemmas.Bool.{cases_lt}
use Rattle.tiny.specs.Spelling.{lower, number}
use Rattle.tiny.specs.Automaton.{same}
use Rattle.std.specs.Char.{to_ascii_lowercase}
use Rattle.std.specs.Str.{str_eq_ignore_ascii_case, str_to_ascii_lowercase}
use Rattle.std.proofs.lemmas.Bool.Decides.{nat_tests}

lower_is : (b : ℕ) → to_ascii_lowercase b ≡ lower b
lower_is b = grind (arith, nat_tests)

-- two texts are alike but for their letter case where one is the other in small letters
pub same_word : (bs w : List ℕ) → str_eq_ignore_ascii_case bs w ≡ same bs (str_to_ascii_lowercase w)
same_word [] [] = refl
same_word [] (w ∷ ws) = refl
same_word (b ∷ bs) [] = refl
same_word (b ∷ bs) (w ∷ ws) = ap₂ (λ (l : ℕ) (c : Bool). eqb l (to_ascii_lowercase w) && c) (lower_is b) (same_word bs ws)

number_grows : (n : ℕ) (ds : List ℕ) → n ≤ number n ds
number_grows n [] = omega arith
number_grows n (d ∷ ds) = let h = number_grows (n * 10 + (d - 48)) ds in omega arith

abbrev pub cap : ℕ → ℕ
cap n = min n 2147483649

capped : (n : ℕ) (ds : List ℕ) → cap (number n ds) ≡ cap (number (cap n) ds)
capped n ds = elim (cases_lt n 2147483649) [
  | inl h ↦ ap (λ (m : ℕ). cap (number m ds)) (let e : n ≡ cap n = omega arith in e)
  | inr h ↦ omega (arith, number_grows n ds, number_grows (cap n) ds)
]

-- what digits write, with each digit cut off
pub fold_digits : (ds : List ℕ) (n : ℕ) → n ≤ 2147483649 → fold (λ n d. cap (n * 10 + (d - 48))) n ds ≡ cap (number n ds)
fold_digits [] n h = omega arith
fold_digits (d ∷ ds) n h = fold_digits ds (cap (n * 10 + (d - 48))) (omega arith) ∙ sym (capped (n * 10 + (d - 48)) ds)
