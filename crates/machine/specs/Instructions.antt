-- The table of instructions: each one's number and operands, and which instructions are lawful.
use Rattle.std.specs.Prelude.{ℕ, Bool, true, ◌&&◌, List, [], ◌∷◌, ℤ, nat_le}
use Rattle.std.specs.Int.Signed.{mag}
use Rattle.machine.specs.declared.instruction.Instruction.{Instruction}
use Rattle.machine.specs.declared.instruction.Instruction.TheVariants.{Lit, Var, Off, Ld, St, Stk, Copy, Index, Add, Sub, Mul, Div, Mod, Neg, Not, And, Or, Lt, Le, Gt, Ge, Eq, Ne, Jmp, Jf, Geti, Getb, Puti, Putb, Nl, Zero, Frame, Enter, Leave, Dup, Pop, Stop}

-- an operand: the value of a literal, a level, or any other number
pub data Operand : Type 0 where
  value : ℤ → Operand
  level : ℕ → Operand
  number : ℕ → Operand

-- the table of instructions: each one's code number and operands
abbrev pub view : Instruction → ℕ × List Operand
view (Lit v) = (0, value v ∷ [])
view (Var l k) = (1, level l ∷ number k ∷ [])
view (Off k) = (2, number k ∷ [])
view Ld = (3, [])
view St = (4, [])
view Stk = (5, [])
view (Copy k) = (6, number k ∷ [])
view (Index n w) = (7, number n ∷ number w ∷ [])
view Add = (8, [])
view Sub = (9, [])
view Mul = (10, [])
view Div = (11, [])
view Mod = (12, [])
view Neg = (13, [])
view Not = (14, [])
view And = (15, [])
view Or = (16, [])
view Lt = (17, [])
view Le = (18, [])
view Gt = (19, [])
view Ge = (20, [])
view Eq = (21, [])
view Ne = (22, [])
view (Jmp t) = (23, number t ∷ [])
view (Jf t) = (24, number t ∷ [])
view Geti = (25, [])
view Getb = (26, [])
view Puti = (27, [])
view Putb = (28, [])
view Nl = (29, [])
view (Zero l k s) = (30, level l ∷ number k ∷ number s ∷ [])
view (Frame n) = (31, number n ∷ [])
view (Enter l t) = (32, level l ∷ number t ∷ [])
view (Leave l) = (33, level l ∷ [])
view Dup = (34, [])
view Pop = (35, [])
view Stop = (36, [])

-- a value of 32 bits, a level of at most 8, any other number of at most 31 bits
abbrev pub allowed : Operand → Bool
allowed (value v) = nat_le (mag v) 2147483647
allowed (level l) = nat_le l 8
allowed (number n) = nat_le n 2147483647

abbrev pub all_allowed : List Operand → Bool
all_allowed [] = true
all_allowed (o ∷ []) = allowed o
all_allowed (o ∷ p ∷ os) = allowed o && all_allowed (p ∷ os)

abbrev pub lawful : Instruction → Bool
lawful i = all_allowed (view i).1

abbrev pub lawful_all : List Instruction → Bool
lawful_all [] = true
lawful_all (i ∷ is) = lawful i && lawful_all is
