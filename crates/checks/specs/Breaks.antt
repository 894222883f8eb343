-- What an answer tells: the first break of a list, or that there is none.
use Rattle.std.specs.Prelude.{◌≡◌, List, [], ◌∷◌, Some, None, Ok, Err, Option, Result}
use Rattle.tiny.specs.declared.placed.Placed.{Placed}
use Rattle.meaning.specs.Stages.{Break}
use Rattle.checks.specs.declared.faults.DepthCause.{DepthCause}
use Rattle.checks.specs.Numbers.{depth_number}

abbrev pub first_break : List Break → Option Break
first_break [] = None
first_break (b ∷ bs) = Some b

-- the break that an answer names; `f` is the break that a fault is
abbrev pub named_break : {X F : Type 0} → (F → Break) → Result X F → Option Break
named_break f (Ok x) = None
named_break f (Err e) = Some (f e)

-- the answer is the first of these breaks
pub record Tells {X F : Type 0} (f : F → Break) (r : Result X F) (bs : List Break) : Type 0 where
  pub first : named_break f r ≡ first_break bs

abbrev pub depth_break : Placed DepthCause → Break
depth_break f = record { number = depth_number f.what; at = f.place }
