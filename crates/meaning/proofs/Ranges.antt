-- The ranges of an instruction's operands, as facts: within them it is lawful.
use Rattle.std.proofs.Common.{◌≡◌, ℕ, ◌^◌, ◌<◌, ◌≤◌, Bool, true, ◌&&◌, T, leb, List, [], ◌∷◌, sym, refl, subst, arith, le→leb, ltb→lt}
use lib.Signed.{mag}
use Rattle.machine.specs.Instructions.{lawful, lawful_all}
use Rattle.machine.specs.declared.instruction.Instruction.{Instruction}
use Rattle.machine.specs.declared.instruction.Instruction.TheVariants.{Lit, Var, Off, Ld, St, Stk, Copy, Index, Add, Sub, Mul, Div, Mod, Neg, Not, And, Or, Lt, Le, Gt, Ge, Eq, Ne, Jmp, Jf, Geti, Getb, Puti, Putb, Nl, Zero, Frame, Enter, Leave, Dup, Pop, Stop}
use Rattle.meaning.specs.Lawful.{is_int}
use Rattle.meaning.proofs.Tracks.{is_true}

abbrev pub Lawful : Instruction → Type 0
Lawful (Lit v) = T (is_int v)
Lawful (Var l k) = (l ≤ 8) × (k < 2 ^ 31)
Lawful (Off k) = k < 2 ^ 31
Lawful Ld = Unit {0}
Lawful St = Unit {0}
Lawful Stk = Unit {0}
Lawful (Copy n) = n < 2 ^ 31
Lawful (Index n m) = (n < 2 ^ 31) × (m < 2 ^ 31)
Lawful Add = Unit {0}
Lawful Sub = Unit {0}
Lawful Mul = Unit {0}
Lawful Div = Unit {0}
Lawful Mod = Unit {0}
Lawful Neg = Unit {0}
Lawful Not = Unit {0}
Lawful And = Unit {0}
Lawful Or = Unit {0}
Lawful Lt = Unit {0}
Lawful Le = Unit {0}
Lawful Gt = Unit {0}
Lawful Ge = Unit {0}
Lawful Eq = Unit {0}
Lawful Ne = Unit {0}
Lawful (Jmp t) = t < 2 ^ 31
Lawful (Jf t) = t < 2 ^ 31
Lawful Geti = Unit {0}
Lawful Getb = Unit {0}
Lawful Puti = Unit {0}
Lawful Putb = Unit {0}
Lawful Nl = Unit {0}
Lawful (Zero l k n) = (l ≤ 8) × (k < 2 ^ 31) × (n < 2 ^ 31)
Lawful (Frame n) = n < 2 ^ 31
Lawful (Enter l t) = (l ≤ 8) × (t < 2 ^ 31)
Lawful (Leave l) = l ≤ 8
Lawful Dup = Unit {0}
Lawful Pop = Unit {0}
Lawful Stop = Unit {0}

abbrev pub LawfulCode : List Instruction → Type 0
LawfulCode [] = Unit {0}
LawfulCode (i ∷ is) = Lawful i × LawfulCode is

number : {n : ℕ} → n < 2 ^ 31 → leb n 2147483647 ≡ true
number {n} h = is_true (leb n 2147483647) (le→leb n 2147483647 (omega arith))

level : {l : ℕ} → l ≤ 8 → leb l 8 ≡ true
level {l} h = is_true (leb l 8) (le→leb l 8 h)

both : {a b : Bool} → a ≡ true → b ≡ true → (a && b) ≡ true
both {a} {b} p q = subst (λ (x : Bool). (x && b) ≡ true) (sym p) q

lawful_is : (i : Instruction) → Lawful i → lawful i ≡ true
lawful_is (Lit v) h = number (ltb→lt (mag v) (2 ^ 31) h)
lawful_is (Var l k) h = both (level h.0) (number h.1)
lawful_is (Off k) h = number h
lawful_is Ld h = refl
lawful_is St h = refl
lawful_is Stk h = refl
lawful_is (Copy n) h = number h
lawful_is (Index n m) h = both (number h.0) (number h.1)
lawful_is Add h = refl
lawful_is Sub h = refl
lawful_is Mul h = refl
lawful_is Div h = refl
lawful_is Mod h = refl
lawful_is Neg h = refl
lawful_is Not h = refl
lawful_is And h = refl
lawful_is Or h = refl
lawful_is Lt h = refl
lawful_is Le h = refl
lawful_is Gt h = refl
lawful_is Ge h = refl
lawful_is Eq h = refl
lawful_is Ne h = refl
lawful_is (Jmp t) h = number h
lawful_is (Jf t) h = number h
lawful_is Geti h = refl
lawful_is Getb h = refl
lawful_is Puti h = refl
lawful_is Putb h = refl
lawful_is Nl h = refl
lawful_is (Zero l k n) h = both (level h.0) (both (number h.1) (number h.2))
lawful_is (Frame n) h = number h
lawful_is (Enter l t) h = both (level h.0) (number h.1)
lawful_is (Leave l) h = level h
lawful_is Dup h = refl
lawful_is Pop h = refl
lawful_is Stop h = refl

pub lawful_each : (c : List Instruction) → LawfulCode c → lawful_all c ≡ true
lawful_each [] h = refl
lawful_each (i ∷ c) h = both (lawful_is i h.0) (lawful_each c h.1)
