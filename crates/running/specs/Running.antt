-- The machine that registers, cells and a host make up, and what a call makes of it.
use Rattle.std.specs.Prelude.{◌≡◌, ℕ, suc, Bool, true, false, List, ℤ, Ok, Err, Result, FitsSigned}
use Rattle.std.specs.Int.{w32}
use Rattle.machine.specs.declared.fault.Fault.{Fault}
use Rattle.machine.specs.declared.instruction.Instruction.{Instruction}
use Rattle.machine.specs.declared.instruction.Instruction.TheVariants.{Copy, Zero, Frame, Enter, Leave, Geti, Getb, Puti, Putb, Nl, Stop}
use Rattle.machine.specs.declared.host.Host.{Ghosts}
use Rattle.machine.specs.declared.host.Event.{Event}
use Rattle.machine.specs.declared.host.Unreadable.{Unreadable}
use Rattle.machine.specs.Faults.{fault_number, Answered}
use Rattle.machine.specs.Host.{Host, Item}
use Rattle.machine.specs.Ints.{Answer, faults}
use Rattle.machine.specs.Machine.{Machine, Effect, goes, stops, fails, one, say}
use Rattle.running.specs.declared.registers.Registers.{Registers}
use Rattle.running.specs.declared.run.Run.{Run}
use Rattle.running.specs.declared.flow.Flow.{Flow}
use Rattle.running.specs.declared.flow.Flow.TheVariants.{Next, To, Stop as Halt}

abbrev pub machine_of : Registers → List ℤ → Host → Machine
machine_of r cs h = record { operands = r.operands; bases = r.bases; next = r.next; top = r.top; cells = cs; host = h }

-- the machine that a run is
abbrev pub machine : {H : Type 0} → Ghosts H → Run H → Machine
machine g r = machine_of r.registers.now r.cells.now (g.meaning r.host.now)

-- the machine at another next instruction
abbrev pub at : ℕ → Machine → Machine
at n m = record { operands = m.operands; bases = m.bases; next = n; top = m.top; cells = m.cells; host = m.host }

-- where a call leads that goes on
abbrev pub Leads : Machine → Flow → Machine → Machine → Type 0
Leads m Next before after = m ≡ at (suc before.next) after
Leads m (To n) before after = m ≡ at n after
Leads m Halt before after = ⊥

abbrev pub Ends : Machine → Flow → Machine → Machine → Type 0
Ends m Next before after = ⊥
Ends m (To n) before after = ⊥
Ends m Halt before after = m ≡ at (suc before.next) after

-- The effect as a call's answer, with the machine before and after it, but for the move to the next instruction.
-- A fault leaves cells and host; the registers of a run that has ended mean nothing.
abbrev pub Went : Effect → Result Flow Fault → Machine → Machine → Type 0
Went (goes m) (Ok f) before after = Leads m f before after
Went (goes m) (Err e) before after = ⊥
Went (stops m) (Ok f) before after = Ends m f before after
Went (stops m) (Err e) before after = ⊥
Went (fails n) (Ok f) before after = ⊥
Went (fails n) (Err e) before after = (fault_number e ≡ n) × (after.cells ≡ before.cells) × (after.host ≡ before.host)

-- the same registers, cells and host are lent
abbrev pub Lent : {H : Type 0} → Run H → Run H → Type 0
Lent before after =
    (after.registers.ghost_name ≡ before.registers.ghost_name)
    × (after.cells.ghost_name ≡ before.cells.ghost_name)
    × (after.host.ghost_name ≡ before.host.ghost_name)

-- an effect, carried out over what a run has lent
pub record Carried {H : Type 0} (g : Ghosts H) (e : Machine → Effect) (before : Run H) (r : Result Flow Fault) (after : Run H) : Type 0 where
  pub went : Went (e (machine g before)) r (machine g before) (machine g after)
  pub lent : Lent before after

-- a call answers of a number as a kind of item does
pub record Accepts (answers : ℤ → Result ℤ Fault → Type 0) (kind : Item → Answer) : Type 0 where
  pub number : (z : ℤ) (r : Result ℤ Fault) → FitsSigned w32 z → answers z r → Answered (kind (Ok z)) r
  pub other : (e : Unreadable) → kind (Err e) ≡ faults 25

-- a call makes this event of an int
abbrev pub Makes : (ℤ → Event → Type 0) → (ℤ → Event) → Type 0
Makes answers event = (z : ℤ) (e : Event) → FitsSigned w32 z → answers z e → e ≡ event z

-- the event of the operand on top is written
abbrev pub written : (ℤ → Event) → Machine → Effect
written event m = one m.operands (λ x ops. say (event x) m ops)

-- the instructions on frames, on many cells or on the host, and the last one
abbrev pub managed : Instruction → Bool
managed (Copy n) = true
managed (Zero l k n) = true
managed (Frame n) = true
managed (Enter l t) = true
managed (Leave l) = true
managed Geti = true
managed Getb = true
managed Puti = true
managed Putb = true
managed Nl = true
managed Stop = true
managed _ = false
