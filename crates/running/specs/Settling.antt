-- A call that settles what an effect waits for.
use Rattle.std.specs.Prelude.{◌≡◌, Ok, Err, Result}
use Rattle.machine.specs.declared.fault.Fault.{Fault}
use Rattle.machine.specs.Faults.{fault_number}
use Rattle.machine.specs.Machine.{Effect, fails}

-- how an effect goes on with what a call answers: a fault ends it
abbrev pub onward : {A : Type 0} → (A → Effect) → Result A Fault → Effect
onward go (Ok x) = go x
onward go (Err f) = fails (fault_number f)

-- whatever follows, the effect goes on with what the call answers
pub record Settles {A : Type 0} (e : (A → Effect) → Effect) (r : Result A Fault) : Type 0 where
  pub goes_on : (go : A → Effect) → e go ≡ onward go r
