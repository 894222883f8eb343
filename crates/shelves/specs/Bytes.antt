-- The byte form of instructions and of code.
use Rattle.std.specs.Prelude.{ℕ, zero, suc, cond, List, [], ◌∷◌, length, Some, None, Option, nat_lt}
use Rattle.std.specs.List.{flat_map}
use Rattle.shelves.specs.Groups.{groups, read_first}
use Rattle.machine.specs.Instructions.{view, lawful}
use Rattle.machine.specs.declared.instruction.Instruction.{Instruction}
use Rattle.shelves.specs.Parts.{raws, padded, arity, instruction_of}

-- the bytes of an instruction: its code number, then its operands in groups
unfoldable pub encoded : Instruction → List ℕ
encoded i = (view i).0 ∷ flat_map groups (raws i)

abbrev pub encoded_all : List Instruction → List ℕ
encoded_all is = flat_map encoded is

-- what an instruction costs: its bytes
abbrev pub byte_cost : Instruction → ℕ
byte_cost i = length (encoded i)

abbrev pub after : {X Y : Type 0} → Option X → (X → Option Y) → Option Y
after None f = None
after (Some x) f = f x

-- the number of 32 bits whose groups stand first in the bytes, and the bytes after it
abbrev pub number_first : List ℕ → Option (ℕ × List ℕ)
number_first bytes = after (read_first 5 bytes) (λ q. cond (nat_lt q.0 4294967296) (Some q) None)

-- so many numbers, one after the other, and the bytes after them
abbrev pub numbers_first : ℕ → List ℕ → Option (List ℕ × List ℕ)
numbers_first zero bytes = Some ([], bytes)
numbers_first (suc n) bytes = after (number_first bytes) (λ q. after (numbers_first n q.1) (λ r. Some (q.0 ∷ r.0, r.1)))

-- three operands, of which the first so many stand first in the bytes, and the bytes after them
abbrev pub operands_first : ℕ → List ℕ → Option (List ℕ × List ℕ)
operands_first count bytes = after (numbers_first count bytes) (λ q. Some (padded q.0, q.1))

-- the lawful instruction of a code number and the operands that were read
abbrev pub assembled : ℕ → Option (List ℕ × List ℕ) → Option (Instruction × List ℕ)
assembled code read = after read (λ q. after (instruction_of code q.0) (λ i. cond (lawful i) (Some (i, q.1)) None))

-- the lawful instruction that stands first in the bytes, and the bytes after it
abbrev pub instruction_first : List ℕ → Option (Instruction × List ℕ)
instruction_first [] = None
instruction_first (code ∷ bytes) = assembled code (operands_first (arity code) bytes)

abbrev pub going_on_from : Option (Instruction × List ℕ) → (List ℕ → List Instruction) → List Instruction
going_on_from None f = []
going_on_from (Some q) f = q.0 ∷ f q.1

-- at most n instructions, one after the other
abbrev pub decoded_first : ℕ → List ℕ → List Instruction
decoded_first zero bytes = []
decoded_first (suc n) bytes = going_on_from (instruction_first bytes) (decoded_first n)

-- the instructions whose bytes these are, as far as they are lawful ones
unfoldable pub decoded : List ℕ → List Instruction
decoded bytes = decoded_first (length bytes) bytes
