-- What a list over a lent slice holds.
use Rattle.std.specs.Prelude.{◌≡◌, ℕ, ◌+◌, ◌≤◌, List, [], ◌∷◌, ◌++◌, length, take, slice_get, Option}
use Rattle.tables.specs.declared.table.Table.{Table}

abbrev pub items : {T : Type 0} → Table T → List T
items l = take l.used l.cells.now

-- how many items there may be
abbrev pub capacity : {T : Type 0} → Table T → ℕ
capacity l = length l.cells.now

-- the item at a number, or none past the end
abbrev pub item_at : {T : Type 0} → List T → ℕ → Option T
item_at xs n = slice_get xs n

-- an item was added at the end, and stands there
pub record Pushed {T : Type 0} (l : Table T) (x : T) (at : ℕ) (l' : Table T) : Type 0 where
  pub at_end : at ≡ length (items l)
  pub added : items l' ≡ items l ++ x ∷ []
  pub kept : capacity l' ≡ capacity l

-- these items may be added
abbrev pub HasRoom : {T : Type 0} → Table T → List T → Type 0
HasRoom l xs = length (items l) + length xs ≤ capacity l

-- items were added at the end, one after the other
pub record Extended {T : Type 0} (l : Table T) (xs : List T) (l' : Table T) : Type 0 where
  pub added : items l' ≡ items l ++ xs
  pub kept : capacity l' ≡ capacity l
