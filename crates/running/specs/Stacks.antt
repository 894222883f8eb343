-- Operands as a list, the newest first, and what a push and a pop do to them.
use Rattle.std.specs.Prelude.{◌≡◌, ◌<◌, ◌≤◌, List, [], ◌∷◌, length, ℤ, Ok, Err, Result}
use Rattle.machine.specs.declared.fault.Fault.{Fault}
use Rattle.machine.specs.declared.fault.Fault.TheVariants.{Operands}

abbrev pub Roomy : List ℤ → Result Unit Fault → Type 0
Roomy before (Ok _) = length before < 128
Roomy before (Err f) = (f ≡ Operands) × (128 ≤ length before)

abbrev pub Pushed : List ℤ → ℤ → Result Unit Fault → List ℤ → Type 0
Pushed before v (Ok _) after = (length before < 128) × (after ≡ v ∷ before)
Pushed before v (Err f) after = (f ≡ Operands) × (128 ≤ length before) × (after ≡ before)

abbrev pub Popped : List ℤ → Result ℤ Fault → List ℤ → Type 0
Popped before (Ok v) after = (before ≡ v ∷ after) × (length after < 128)
Popped before (Err f) after = (f ≡ Operands) × (before ≡ []) × (after ≡ [])
