-- The host of numbers: its items are ints, and an event is two numbers.
use Rattle.std.specs.Prelude.{ℕ, cond, List, [], ◌∷◌, map, ℤ, pos, Ok}
use Rattle.machine.specs.declared.host.Event.{Event}
use Rattle.machine.specs.declared.host.Event.TheVariants.{Int, Bool, Line}
use Rattle.machine.specs.Host.{Host, Item}

-- an int as 0 and itself, a bool as 1 and 0 or 1, a newline as 2 and 0
abbrev pub numbered : Event → List ℤ
numbered (Int v) = pos 0 ∷ v ∷ []
numbered (Bool b) = pos 1 ∷ cond b (pos 1) (pos 0) ∷ []
numbered Line = pos 2 ∷ pos 0 ∷ []

abbrev pub ints : List ℤ → List Item
ints xs = map (λ x. Ok x) xs

abbrev pub number_host : List ℤ → List ℤ → ℕ → Host
number_host waiting written room = record { items = ints waiting; marks = written; room = room; renders = numbered }
