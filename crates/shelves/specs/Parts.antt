-- An instruction as a number and at most three operands without a sign.
use Rattle.std.specs.Prelude.{ℕ, min, cond, ◌||◌, List, [], ◌∷◌, map, Some, None, Option, ◌==◌, slice_index, slice_index_or}
use Rattle.shelves.specs.Groups.{zigzag, unzigzag}
use Rattle.machine.specs.Instructions.{Operand, value, level, number, view}
use Rattle.machine.specs.declared.instruction.Instruction.{Instruction}
use Rattle.machine.specs.declared.instruction.Instruction.TheVariants.{Lit, Var, Off, Ld, St, Stk, Copy, Index, Add, Sub, Mul, Div, Mod, Neg, Not, And, Or, Lt, Le, Gt, Ge, Eq, Ne, Jmp, Jf, Geti, Getb, Puti, Putb, Nl, Zero, Frame, Enter, Leave, Dup, Pop, Stop}
use Rattle.shelves.specs.declared.parts.Parts.{Parts}

-- an operand as the number that is written
abbrev pub raw : Operand → ℕ
raw (value v) = zigzag v
raw (level l) = l
raw (number n) = n

abbrev pub raws : Instruction → List ℕ
raws i = map raw (view i).1

-- three operands, unused ones 0
abbrev pub padded : List ℕ → List ℕ
padded [] = 0 ∷ 0 ∷ 0 ∷ []
padded (a ∷ []) = a ∷ 0 ∷ 0 ∷ []
padded (a ∷ b ∷ []) = a ∷ b ∷ 0 ∷ []
padded (a ∷ b ∷ c ∷ ds) = a ∷ b ∷ c ∷ []

abbrev pub parts_of : Instruction → Parts
parts_of i = record { code = (view i).0; operands = padded (raws i) }

-- how many operands the instruction of a code number has
abbrev pub arity : ℕ → ℕ
arity c =
    cond (c == 30) 3
    (cond (c == 1 || (c == 7 || c == 32)) 2
    (cond (c == 0 || (c == 2 || (c == 6 || (c == 23 || (c == 24 || (c == 31 || c == 33)))))) 1 0))

-- the instruction of each code number, over three operands
abbrev pub table : ℕ → ℕ → ℕ → List (Option Instruction)
table a b c =
    Some (Lit (unzigzag a)) ∷
    Some (Var (min a 255) b) ∷
    Some (Off a) ∷
    Some Ld ∷
    Some St ∷
    Some Stk ∷
    Some (Copy a) ∷
    Some (Index a b) ∷
    Some Add ∷
    Some Sub ∷
    Some Mul ∷
    Some Div ∷
    Some Mod ∷
    Some Neg ∷
    Some Not ∷
    Some And ∷
    Some Or ∷
    Some Lt ∷
    Some Le ∷
    Some Gt ∷
    Some Ge ∷
    Some Eq ∷
    Some Ne ∷
    Some (Jmp a) ∷
    Some (Jf a) ∷
    Some Geti ∷
    Some Getb ∷
    Some Puti ∷
    Some Putb ∷
    Some Nl ∷
    Some (Zero (min a 255) b c) ∷
    Some (Frame a) ∷
    Some (Enter (min a 255) b) ∷
    Some (Leave (min a 255)) ∷
    Some Dup ∷
    Some Pop ∷
    Some Stop ∷ []

abbrev pub instruction_of : ℕ → List ℕ → Option Instruction
instruction_of code operands = slice_index_or (table (slice_index operands 0) (slice_index operands 1) (slice_index operands 2)) code None
