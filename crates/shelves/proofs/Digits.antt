-- Laws of numbers in groups of seven bits.
use Rattle.std.proofs.Common.{◌≡◌, ℕ, zero, suc, ◌+◌, ◌-◌, ◌*◌, ◌/◌, ◌%◌, ◌^◌, ◌<◌, ◌≤◌, max, ltb, List, [], ◌∷◌, ◌++◌, length, drop, Some, refl, ap, ◌∙◌, ⊎_elim, le_trans, lt_of_lt_of_le, arith, drop_at, pow_mono}
use lib.Count.{count_leading_zeros, leading_length}
use Rattle.std.proofs.lemmas.Bool.{lt-ltb, le-ltb, cases_lt, cond_both}
use Rattle.std.proofs.lemmas.Nat.{pow-add}
use Rattle.shelves.specs.Groups.{coded, groups, read_first, limit}

-- a number of m significant bits takes a group for each seven of them, and at least one
few_bits : (n m : ℕ) → n < 2 ^ m → m ≤ 7 → n < 128
few_bits n m h k = lt_of_lt_of_le h (pow_mono k)

many_bits : (n m : ℕ) → 2 ^ m ≤ 2 * n + 1 → 8 ≤ m → 128 ≤ n
many_bits n m l k = let some : 2 ^ 8 ≤ 2 * n + 1 = le_trans (pow_mono k) l in omega arith

seven_bits : (m : ℕ) → 8 ≤ m → 2 ^ m ≡ 128 * 2 ^ (m - 7)
seven_bits m k = let whole : m ≡ 7 + (m - 7) = omega arith in ap (λ (i : ℕ). 2 ^ i) whole ∙ pow-add 2 7 (m - 7)

coded_bits : (k m n : ℕ) → n < 2 ^ m → 2 ^ m ≤ 2 * n + 1 → m ≤ 7 * k + 7 → length (coded k n) ≡ max ((m + 6) / 7) 1
coded_bits zero m n h l most = omega arith
coded_bits (suc k) m n h l most = ⊎_elim
    (λ (few : m < 8). rw (lt-ltb n 128 (few_bits n m h (omega arith))) (omega arith))
    (λ (many : 8 ≤ m). let part = seven_bits m many in
    let rest = coded_bits k (m - 7) (n / 128) (omega arith) (omega arith) (omega arith) in
    rw (le-ltb n 128 (many_bits n m l many)) (omega arith))
    (cases_lt m 8)

pub groups_bits : (n lz : ℕ) → n < 2 ^ 32 → lz ≡ count_leading_zeros 32 n → length (groups n) ≡ max ((32 - lz + 6) / 7) 1
unfolding groups
groups_bits n lz h e =
    let p = leading_length 32 n h in
    let m : p.0 ≡ 32 - lz = omega (arith, p.1) in
    coded_bits 4 (32 - lz) n (rw m at p.2) (rw m at p.3) (omega arith)

-- reading gives back the number that was coded, and what follows it
read_coded : (k n : ℕ) (rest : List ℕ) → n < limit (suc k) → read_first (suc k) (coded k n ++ rest) ≡ Some (n, rest)
read_coded zero n rest h =
    let same : n % 128 ≡ n = omega arith in
    rw (same, lt-ltb n 128 (omega arith))
read_coded (suc k) n rest h = ⊎_elim small (large (read_coded k (n / 128) rest (omega arith))) (cases_lt n 128)
  where
    small : n < 128 → read_first (suc (suc k)) (coded (suc k) n ++ rest) ≡ Some (n, rest)
    small l = let same : n % 128 ≡ n = omega arith in rw (lt-ltb n 128 l, same, lt-ltb n 128 l)

    large : read_first (suc k) (coded k (n / 128) ++ rest) ≡ Some (n / 128, rest) → 128 ≤ n → read_first (suc (suc k)) (coded (suc k) n ++ rest) ≡ Some (n, rest)
    large ih l =
        let high = le-ltb (128 + n % 128) 128 (omega arith) in
        let back : 128 + n % 128 - 128 + 128 * (n / 128) ≡ n = omega arith in
        rw (le-ltb n 128 l, high, ih) (rw back)

-- a number of 32 bits is read back whole
pub read_groups : (n : ℕ) (rest : List ℕ) → n < 2 ^ 32 → read_first 5 (groups n ++ rest) ≡ Some (n, rest)
unfolding groups
read_groups n rest h = read_coded 4 n rest (omega arith)

-- what was added to a list is read back
pub read_back : (old new : List ℕ) (n : ℕ) → n < 2 ^ 32 → new ≡ old ++ groups n → (rest : List ℕ) → read_first 5 (drop (length old) new ++ rest) ≡ Some (n, rest)
read_back old new n h e rest =
    ap (λ (xs : List ℕ). read_first 5 (drop (length old) xs ++ rest)) e
    ∙ ap (λ (xs : List ℕ). read_first 5 (xs ++ rest)) (drop_at old (groups n) (length old) refl)
    ∙ read_groups n rest h

-- a number of fewer groups takes the same ones where more are allowed
coded_same : (k n : ℕ) → n < limit (suc k) → coded k n ≡ coded (suc k) n
coded_same zero n h = rw (lt-ltb n 128 (omega arith))
coded_same (suc k) n h = ⊎_elim
    (λ (l : n < 128). rw (lt-ltb n 128 l))
    (λ (l : 128 ≤ n). rw (le-ltb n 128 l) (ap (λ (gs : List ℕ). (128 + n % 128) ∷ gs) (coded_same k (n / 128) (omega arith))))
    (cases_lt n 128)

pub groups_last : (n : ℕ) → n < 128 → groups n ≡ n ∷ []
unfolding groups
groups_last n h = let same : n % 128 ≡ n = omega arith in rw (lt-ltb n 128 h, same)

pub groups_more : (n : ℕ) → 128 ≤ n → n < 2 ^ 32 → groups n ≡ (128 + n % 128) ∷ groups (n / 128)
unfolding groups
groups_more n h f = rw (le-ltb n 128 h) (ap (λ (gs : List ℕ). (128 + n % 128) ∷ gs) (coded_same 3 (n / 128) (omega arith)))

pub some_group : (n : ℕ) → 0 < length (groups n)
unfolding groups
some_group n = cond_both (ltb n 128) (n % 128 ∷ []) ((128 + n % 128) ∷ coded 3 (n / 128)) (λ (xs : List ℕ). 0 < length xs) (λ _. omega arith) (λ _. omega arith)

pub limit_step : (k : ℕ) → 0 < k → limit k ≡ 128 * limit (k - 1)
limit_step zero p = absurd (omega arith)
limit_step (suc k) p = let e : suc k - 1 ≡ k = omega arith in rw e

pub limit_some : (k : ℕ) → 0 < limit k
limit_some zero = omega arith
limit_some (suc k) = let h = limit_some k in omega arith

-- a number of 32 bits takes at most five groups
coded_most : (k n : ℕ) → length (coded k n) ≤ k + 1
coded_most zero n = omega arith
coded_most (suc k) n =
    let h = coded_most k (n / 128) in
    cond_both (ltb n 128) (n % 128 ∷ []) ((128 + n % 128) ∷ coded k (n / 128)) (λ (xs : List ℕ). length xs ≤ suc k + 1) (λ _. omega arith) (λ _. omega arith)

pub most_groups : (n : ℕ) → length (groups n) ≤ 5
unfolding groups
most_groups n = coded_most 4 n
