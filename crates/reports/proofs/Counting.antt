-- Lines and columns, as counts of line ends and of the bytes in front of one.
use Rattle.std.proofs.Common.{◌≡◌, ℕ, suc, ◌+◌, ◌^◌, ◌%◌, ◌<◌, ◌≤◌, Bool, true, false, cond, eqb, not, List, [], ◌∷◌, length, fold, refl, arith}
use Rattle.std.specs.List.{prefix_len}
use Rattle.std.proofs.lemmas.List.Recursion.{is_position_or_len}
use Rattle.reports.specs.Lines.{line_ends, since, line_length}

abbrev pub within : ℕ → Bool
within b = not (eqb b 10)

pub length_counted : (bs : List ℕ) → line_length bs ≡ prefix_len within bs
length_counted = is_position_or_len line_length (λ b. eqb b 10) refl (λ _ _. refl)

-- a byte more, in a count of lines and in one of the bytes of a line
abbrev pub more_lines : ℕ → ℕ → ℕ
more_lines n b = (n + cond (eqb b 10) 1 0) % 2 ^ 64

abbrev pub more_bytes : ℕ → ℕ → ℕ
more_bytes n b = cond (eqb b 10) 0 ((n + 1) % 2 ^ 64)

pub ends_folded : (bs : List ℕ) (n : ℕ) → n + length bs < 2 ^ 64 → fold more_lines n bs ≡ n + line_ends bs
ends_folded [] n h = omega arith
ends_folded (b ∷ bs) n h = go (eqb b 10) (λ m l. ends_folded bs m l)
  where
    go : (c : Bool) → ((m : ℕ) → m + length bs < 2 ^ 64 → fold more_lines m bs ≡ m + line_ends bs) → fold more_lines ((n + cond c 1 0) % 2 ^ 64) bs ≡ n + cond c (1 + line_ends bs) (line_ends bs)
    go true f = let small : (n + 1) % 2 ^ 64 ≡ n + 1 = omega (arith, h) in rw small (omega (arith, f (n + 1) (omega (arith, h))))
    go false f = let small : (n + 0) % 2 ^ 64 ≡ n = omega (arith, h) in rw small (f n (omega (arith, h)))

pub since_folded : (bs : List ℕ) (n : ℕ) → n + length bs < 2 ^ 64 → fold more_bytes n bs ≡ since n bs
since_folded [] n h = refl
since_folded (b ∷ bs) n h = go (eqb b 10) (λ m l. since_folded bs m l)
  where
    go : (c : Bool) → ((m : ℕ) → m + length bs < 2 ^ 64 → fold more_bytes m bs ≡ since m bs) → fold more_bytes (cond c 0 ((n + 1) % 2 ^ 64)) bs ≡ since (cond c 0 (n + 1)) bs
    go true f = f 0 (omega (arith, h))
    go false f = let small : (n + 1) % 2 ^ 64 ≡ n + 1 = omega (arith, h) in rw small (f (n + 1) (omega (arith, h)))

pub ends_few : (bs : List ℕ) → line_ends bs ≤ length bs
ends_few [] = omega arith
ends_few (b ∷ bs) = go (eqb b 10) (ends_few bs)
  where
    go : (c : Bool) → line_ends bs ≤ length bs → cond c (1 + line_ends bs) (line_ends bs) ≤ suc (length bs)
    go true f = omega (arith, f)
    go false f = omega (arith, f)

pub since_few : (bs : List ℕ) (n : ℕ) → since n bs ≤ n + length bs
since_few [] n = omega arith
since_few (b ∷ bs) n = go (eqb b 10) (since_few bs 0) (since_few bs (n + 1))
  where
    go : (c : Bool) → since 0 bs ≤ 0 + length bs → since (n + 1) bs ≤ n + 1 + length bs → since (cond c 0 (n + 1)) bs ≤ n + suc (length bs)
    go true f g = omega (arith, f)
    go false f g = omega (arith, g)
