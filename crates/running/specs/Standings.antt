-- How a run stands, as the calls answer it.
use Rattle.std.specs.Prelude.{◌≡◌, ℕ}
use Rattle.running.specs.declared.advance.Standing.{Standing}
use Rattle.running.specs.declared.advance.Standing.TheVariants.{Going, Finished, Failed}
use Rattle.machine.specs.Faults.{fault_number}
use Rattle.machine.specs.Machine as Spec
use Rattle.machine.specs.Machine.{Machine, Effect, goes, stops, fails, Run, going, finished, failed}

abbrev pub standing_of : Standing → Spec.Standing
standing_of Going = going
standing_of Finished = finished
standing_of (Failed f) = failed (fault_number f)

-- a run that is going
abbrev pub begun : ℕ → Machine → Run
begun count m = record { standing = going; count = count; machine = m }

abbrev pub Fell : ℕ → Standing → Type 0
Fell n Going = ⊥
Fell n Finished = ⊥
Fell n (Failed f) = fault_number f ≡ n

-- how a run stands after one instruction, with the machine before and after it
abbrev pub Came : Effect → Standing → Machine → Machine → Type 0
Came (goes m) s before after = (s ≡ Going) × (after ≡ m)
Came (stops m) s before after = (s ≡ Finished) × (after.cells ≡ m.cells) × (after.host ≡ m.host)
Came (fails n) s before after = Fell n s × (after.cells ≡ before.cells) × (after.host ≡ before.host)

-- A run seen from outside: how it stands, its count, cells and host; its registers only while it is going.
pub record Shows (r : Run) (s : Standing) (n : ℕ) (m : Machine) : Type 0 where
  pub standing : r.standing ≡ standing_of s
  pub count : r.count ≡ n
  pub cells : r.machine.cells ≡ m.cells
  pub host : r.machine.host ≡ m.host
  pub registers : s ≡ Going → r.machine ≡ m
