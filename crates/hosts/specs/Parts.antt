-- The parts of a text between blanks, and the item that each is.
use Rattle.std.specs.Prelude.{◌≡◌, ℕ, Bool, false, cond, not, ◌&&◌, ◌||◌, ◌⊎◌, List, [], ◌∷◌, map, ℤ, Some, None, Ok, Err, Option, ◌==◌}
use Rattle.std.specs.List.{list_all}
use Rattle.tiny.specs.Spelling.{digit, value, ranged, Numeral}
use Rattle.machine.specs.Host.{Item}

-- tab, line feed, carriage return, space
abbrev pub blank : ℕ → Bool
blank b = b == 9 || (b == 10 || (b == 13 || b == 32))

abbrev pub onto : ℕ → List (List ℕ) → List (List ℕ)
onto b [] = (b ∷ []) ∷ []
onto b (p ∷ ps) = (b ∷ p) ∷ ps

-- the parts between blanks
abbrev pub split : List ℕ → List (List ℕ)
split [] = [] ∷ []
split (b ∷ bs) = cond (blank b) ([] ∷ split bs) (onto b (split bs))

abbrev pub filled : List (List ℕ) → List (List ℕ)
filled [] = []
filled ([] ∷ ps) = filled ps
filled ((b ∷ p) ∷ ps) = (b ∷ p) ∷ filled ps

-- the parts between blanks, empty ones dropped
unfoldable pub parts : List ℕ → List (List ℕ)
parts bs = filled (split bs)

abbrev pub are_digits : List ℕ → Bool
are_digits = list_all digit

-- 0, or a digit 1 to 9 and any more digits
abbrev pub numeral : List ℕ → Bool
numeral [] = false
numeral (d ∷ []) = digit d
numeral (d ∷ e ∷ ds) = not (d == 48) && are_digits (d ∷ e ∷ ds)

-- a numeral, with or without a sign before it
abbrev pub literal : List ℕ → Bool
literal [] = false
literal (b ∷ bs) = cond (b == 45 || b == 43) (numeral bs) (numeral (b ∷ bs))

-- the text is a literal, as a source spells it
pub data Spelled : List ℕ → Type 0 where
  plain : {bs : List ℕ} → Numeral bs → Spelled bs
  signed : {b : ℕ} {bs : List ℕ} → (b ≡ 43) ⊎ (b ≡ 45) → Numeral bs → Spelled (b ∷ bs)

abbrev pub numbered : Option ℤ → Item
numbered None = Err (record {})
numbered (Some v) = Ok v

-- a literal in the range of an int is its value, and any other part is unreadable
abbrev pub item_of : List ℕ → Item
item_of part = cond (literal part) (numbered (ranged (value part))) (Err (record {}))

-- the items that wait in a text
abbrev pub items : List ℕ → List Item
items bs = map item_of (parts bs)
