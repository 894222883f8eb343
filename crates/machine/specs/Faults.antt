-- The number of each fault, and what it is for a call to answer with one.
use Rattle.std.specs.Prelude.{◌≡◌, ℕ, ℤ, Ok, Err, Result}
use Rattle.machine.specs.declared.fault.Fault.{Fault}
use Rattle.machine.specs.declared.fault.Fault.TheVariants.{Bounds, Overflow, ZeroDivisor, NoItem, Unreadable, NoRoom, NoMemory, PastCode, Operands, Address, Link}
use Rattle.machine.specs.Ints.{Answer, gives, faults}

abbrev pub fault_number : Fault → ℕ
fault_number Bounds = 21
fault_number Overflow = 22
fault_number ZeroDivisor = 23
fault_number NoItem = 24
fault_number Unreadable = 25
fault_number NoRoom = 26
fault_number NoMemory = 27
fault_number PastCode = 41
fault_number Operands = 42
fault_number Address = 43
fault_number Link = 44

-- the answer is the fault of this number
abbrev pub Failed : {T : Type 0} → ℕ → Result T Fault → Type 0
Failed n (Ok _) = ⊥
Failed n (Err f) = fault_number f ≡ n

-- the answer of an operator, as a call gives it
abbrev pub Answered : Answer → Result ℤ Fault → Type 0
Answered (gives z) r = r ≡ Ok z
Answered (faults n) r = Failed n r
