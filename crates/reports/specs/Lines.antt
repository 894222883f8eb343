-- Lines and columns of a source. Both count from 1, a line ends with byte 10, and a column is a byte of its line.
use Rattle.std.specs.Prelude.{ℕ, ◌+◌, ◌-◌, min, cond, List, [], ◌∷◌, length, take, drop, ◌==◌}
use Rattle.reports.specs.declared.lines.Location.{Location}

-- how many lines end in these bytes
abbrev pub line_ends : List ℕ → ℕ
line_ends [] = 0
line_ends (b ∷ bs) = cond (b == 10) (1 + line_ends bs) (line_ends bs)

-- how many bytes stand behind the last line end in these, the first n bytes of whose line stand before
abbrev pub since : ℕ → List ℕ → ℕ
since n [] = n
since n (b ∷ bs) = since (cond (b == 10) 0 (n + 1)) bs

-- how many bytes come before the first line end
abbrev pub line_length : List ℕ → ℕ
line_length [] = 0
line_length (b ∷ bs) = cond (b == 10) 0 (1 + line_length bs)

-- the location of a place; a place past the end is the end
abbrev pub located : List ℕ → ℕ → Location
located source place =
    let at : ℕ = min place (length source) in
    let before : List ℕ = take at source in
    record {
      line = 1 + line_ends before;
      column = 1 + since 0 before;
      start = at - since 0 before;
      end = at + line_length (drop at source);
    }
