-- Numbers in groups of seven bits.
use Rattle.std.specs.Borrow.{Bor}
use Rattle.std.specs.Prelude.{ℕ, zero, suc, ◌+◌, ◌-◌, ◌*◌, ◌/◌, ◌%◌, cond, List, [], ◌∷◌, ℤ, pos, negsuc, Some, None, Option, ◌==◌, nat_lt}

-- a number in at most k + 1 groups of seven bits, low group first, the top bit set on all but the last
abbrev pub coded : ℕ → ℕ → List ℕ
coded zero n = n % 128 ∷ []
coded (suc k) n = cond (nat_lt n 128) (n % 128 ∷ []) ((128 + n % 128) ∷ coded k (n / 128))

-- a number of 32 bits. It stays shut, since it would compute to a tree of tests wherever it stands
unfoldable pub groups : ℕ → List ℕ
groups n = coded 4 n

-- a low group below the number of the higher ones
abbrev pub raised : ℕ → Option (ℕ × List ℕ) → Option (ℕ × List ℕ)
raised b None = None
raised b (Some q) = Some (b - 128 + 128 * q.0, q.1)

-- the number whose groups, at most k, stand first in the bytes, and the bytes after it
abbrev pub read_first : ℕ → List ℕ → Option (ℕ × List ℕ)
read_first zero xs = None
read_first (suc k) [] = None
read_first (suc k) (b ∷ bs) = cond (nat_lt b 128) (Some (b, bs)) (raised b (read_first k bs))

-- what a function that reads from the front of bytes answers: a value, and the bytes after it
abbrev pub answer_of : {X : Type 0} → Option (X × Bor (List ℕ)) → Option (X × List ℕ)
answer_of None = None
answer_of (Some q) = Some (q.0, q.1.now)

-- what k groups hold
abbrev pub limit : ℕ → ℕ
limit zero = 1
limit (suc k) = 128 * limit k

-- a signed number as an unsigned one: 2v, or -2v - 1 below 0; and back
abbrev pub zigzag : ℤ → ℕ
zigzag (pos n) = 2 * n
zigzag (negsuc n) = 2 * n + 1

abbrev pub unzigzag : ℕ → ℤ
unzigzag n = cond (n % 2 == 0) (pos (n / 2)) (negsuc (n / 2))
