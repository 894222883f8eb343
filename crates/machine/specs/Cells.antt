-- What is done to the cells of memory.
use Rattle.std.specs.Prelude.{ℕ, ◌+◌, List, ◌++◌, take, drop, replicate, ℤ, pos}

-- n cells from a on, all 0
abbrev pub zeroed : List ℤ → ℕ → ℕ → List ℤ
zeroed cs a n = take a cs ++ (replicate n (pos 0) ++ drop (a + n) cs)

-- n cells from b on, copied to a on
abbrev pub moved : List ℤ → ℕ → ℕ → ℕ → List ℤ
moved cs a b n = take a cs ++ (take n (drop b cs) ++ drop (a + n) cs)
