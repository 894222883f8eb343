-- The code of {int x && @ x = 3; write x}, and its bytes.
use Rattle.std.specs.Prelude.{ℕ, List, [], ◌∷◌, pos}
use Rattle.machine.specs.declared.instruction.Instruction.{Instruction}
use Rattle.machine.specs.declared.instruction.Instruction.TheVariants.{Frame, Pop, Zero, Var, Lit, Stk, Ld, Puti, Stop}

abbrev pub sample : List Instruction
sample = Frame 3 ∷ Pop ∷ Zero 0 2 1 ∷ Var 0 2 ∷ Lit (pos 3) ∷ Stk ∷ Pop ∷ Var 0 2 ∷ Ld ∷ Puti ∷ Stop ∷ []

abbrev pub bytes : List ℕ
bytes =
    0x1f ∷ 0x03 ∷ 0x23 ∷ 0x1e ∷ 0x00 ∷ 0x02 ∷ 0x01 ∷ 0x01 ∷ 0x00 ∷ 0x02 ∷ 0x00 ∷ 0x06 ∷ 0x05 ∷ 0x23 ∷ 0x01 ∷ 0x00 ∷ 0x02 ∷ 0x03 ∷ 0x1b ∷ 0x24 ∷ []
