-- Laws of runs, whatever the code.
use Rattle.std.specs.Prelude.{◌≡◌, ℕ, suc, ◌+◌, ◌<◌, ◌≤◌, ◌⊎◌, List, ◌++◌, length}
use Rattle.machine.specs.declared.instruction.Instruction.{Instruction}
use Rattle.machine.specs.Host.{Host}
use Rattle.machine.specs.Machine.{Run, going, run}

-- a run of a + b instructions is a run of a, and from there one of b
abbrev pub RunsAdd : Type 0
RunsAdd = (c : List Instruction) (a b : ℕ) (r : Run) → run c (a + b) r ≡ run c b (run c a r)

-- a run that is not going never changes
abbrev pub EndedStays : Type 0
EndedStays = (c : List Instruction) (n : ℕ) (r : Run) → ¬ (r.standing ≡ going) → run c n r ≡ r

-- each instruction of a going run adds 1 to its count
abbrev pub GoingCounts : Type 0
GoingCounts = (c : List Instruction) (r : Run) → r.standing ≡ going → (run c 1 r).count ≡ suc r.count

-- a budget of k on a going run: either it is spent whole and the run is still going, or the run ended within it
abbrev pub Spent : ℕ → Run → Run → Type 0
Spent k r after =
    ((after.standing ≡ going) × (after.count ≡ r.count + k))
    ⊎ (¬ (after.standing ≡ going) × (r.count < after.count) × (after.count ≤ r.count + k))

abbrev pub BudgetSpent : Type 0
BudgetSpent = (c : List Instruction) (k : ℕ) (r : Run) → r.standing ≡ going → Spent k r (run c k r)

-- memory keeps its length, whatever the code
abbrev pub MemoryKept : Type 0
MemoryKept = (c : List Instruction) (n : ℕ) (r : Run) → length (run c n r).machine.cells ≡ length r.machine.cells

abbrev pub Begins : {A : Type 0} → List A → List A → Type 0
Begins {A} xs ys = (more : List A) × (ys ≡ xs ++ more)

abbrev pub Ends : {A : Type 0} → List A → List A → Type 0
Ends {A} xs ys = (gone : List A) × (ys ≡ gone ++ xs)

-- from h to g output grows only at its end, waiting input shrinks only at its front, and neither the room for output nor
-- an event's rendering changes
pub record Onward (h g : Host) : Type 0 where
  pub output : Begins h.marks g.marks
  pub input : Ends g.items h.items
  pub room : g.room ≡ h.room
  pub renders : g.renders ≡ h.renders

abbrev pub HostOnward : Type 0
HostOnward = (c : List Instruction) (n : ℕ) (r : Run) → Onward r.machine.host (run c n r).machine.host

pub record RunLaws : Type 0 where
  pub runs_add : RunsAdd
  pub ended_stays : EndedStays
  pub going_counts : GoingCounts
  pub budget_spent : BudgetSpent
  pub memory_kept : MemoryKept
  pub host_onward : HostOnward
