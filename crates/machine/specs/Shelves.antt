-- What a shelf means: a list of lawful instructions, a capacity and costs; what a put and a fetch answer.
use Rattle.std.specs.Prelude.{◌≡◌, ℕ, zero, suc, ◌+◌, ◌≤◌, Bool, true, cond, ◌&&◌, List, [], ◌∷◌, ◌++◌, Some, None, Ok, Err, Option, Result, nat_le}
use Rattle.machine.specs.Instructions.{lawful, lawful_all}
use Rattle.machine.specs.declared.instruction.Instruction.{Instruction}
use Rattle.machine.specs.declared.shelf.PutRefusal.{PutRefusal}
use Rattle.machine.specs.declared.shelf.PutRefusal.TheVariants.{Unlawful, Full}

-- the cost of a whole code
abbrev pub total : (Instruction → ℕ) → List Instruction → ℕ
total cost [] = 0
total cost (i ∷ is) = cost i + total cost is

-- what holds of every shelf: its code is lawful, and costs at most the capacity, itself at most 1,048,576
pub record Kept (cost : Instruction → ℕ) (capacity : ℕ) (code : List Instruction) : Type 0 where
  pub sound : lawful_all code ≡ true
  pub within : total cost code ≤ capacity
  pub most : capacity ≤ 1048576

-- instruction number n, or none past the end
abbrev pub fetched : List Instruction → ℕ → Option Instruction
fetched [] n = None
fetched (i ∷ is) zero = Some i
fetched (i ∷ is) (suc n) = fetched is n

-- whether the cost of one more instruction fits what is left
abbrev pub fitting : (Instruction → ℕ) → ℕ → List Instruction → Instruction → Bool
fitting cost capacity code i = nat_le (total cost code + cost i) capacity

-- what a put answers: lawfulness is tested first
abbrev pub answered : (Instruction → ℕ) → ℕ → List Instruction → Instruction → Result Unit PutRefusal
answered cost capacity code i = cond (lawful i) (cond (fitting cost capacity code i) (Ok tt) (Err Full)) (Err Unlawful)

-- the code after a put
abbrev pub appended : (Instruction → ℕ) → ℕ → List Instruction → Instruction → List Instruction
appended cost capacity code i = cond (lawful i && fitting cost capacity code i) (code ++ (i ∷ [])) code

-- the number of each refusal of a put, and the place that it names
abbrev pub put_number : PutRefusal → ℕ
put_number Unlawful = 16
put_number Full = 15

abbrev pub put_place : PutRefusal → Option ℕ
put_place Unlawful = None
put_place Full = Some 0
