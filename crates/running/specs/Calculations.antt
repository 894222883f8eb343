-- What an instruction makes of the operands, where it changes nothing else.
use Rattle.std.specs.Prelude.{ℕ, cond, ◌∷◌, ℤ, pos, ◌+ℤ◌, ◌*ℤ◌, Result, FitsSigned}
use Rattle.std.specs.Int.{w32}
use Rattle.machine.specs.declared.fault.Fault.{Fault}
use Rattle.machine.specs.Faults.{Answered}
use Rattle.machine.specs.Ints.{Answer, in_range}
use Rattle.machine.specs.Machine.{Machine, Effect, goes, fails, on, one, two, made, settled}

-- the address of an element
abbrev pub element : ℕ → ℕ → ℤ → ℤ → (ℕ → Effect) → Effect
element n s a i go = cond (in_range i n) (made (a +ℤ i *ℤ pos s) go) (fails 21)

-- two operands become one by a rule, or one does
abbrev pub combined : (ℤ → ℤ → Answer) → Machine → Effect
combined rule m = two m.operands (λ x y ops. settled (rule x y) (λ z. goes (on m (z ∷ ops))))

abbrev pub turned : (ℤ → Answer) → Machine → Effect
turned rule m = one m.operands (λ x ops. settled (rule x) (λ z. goes (on m (z ∷ ops))))

-- what a call answers of two ints follows a rule
abbrev pub Follows : (ℤ → ℤ → Result ℤ Fault → Type 0) → (ℤ → ℤ → Answer) → Type 0
Follows answers rule = (x y : ℤ) (r : Result ℤ Fault) → FitsSigned w32 x → FitsSigned w32 y → answers x y r → Answered (rule x y) r

abbrev pub FollowsOne : (ℤ → Result ℤ Fault → Type 0) → (ℤ → Answer) → Type 0
FollowsOne answers rule = (x : ℤ) (r : Result ℤ Fault) → FitsSigned w32 x → answers x r → Answered (rule x) r
