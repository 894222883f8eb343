-- The two halves of the agreement, which meet in the evaluation over addresses: objects of their own come to the same as
-- cells at addresses, and cells at addresses to the same as the run of the code. Their sum speaks of neither addresses nor frames.
use Rattle.std.specs.Prelude.{◌≡◌, ℕ, ◌^◌, ◌<◌, ◌≤◌, List, length, ℤ}
use Rattle.machine.specs.Host.{Host}
use Rattle.machine.specs.Machine.{Run, going, finished, failed, run, opened}
use Rattle.meaning.specs.Rule.{Block}
use Rattle.meaning.specs.Objects.{State}
use Rattle.meaning.specs.Objects as Objects
use Rattle.meaning.specs.Meaning.{meaning, outermost}
use Rattle.meaning.specs.Evaluation.{World, Outcome, done, cut, fault, evaluated}
use Rattle.meaning.specs.Code.{program}
use Rattle.meaning.specs.Sound.{Sound}
use Rattle.meaning.specs.Agreement.{outermost_cells}

-- the outermost variables come to be with the third charge, if they have any cells; until then nothing is said of them
pub record Like (b : Block) (s : State) (w : World) : Type 0 where
  pub count : w.count ≡ s.count
  pub host : w.host ≡ s.host
  pub variables : 3 ≤ s.count → outermost_cells b w.cells ≡ outermost b s

pub data Likewise (b : Block) : Objects.Outcome Unit → Outcome Unit → Type 0 where
  dones : {s : State} {w : World} → Like b s w → Likewise b (Objects.done tt s) (done tt w)
  cuts : {s : State} {w : World} → Like b s w → Likewise b (Objects.cut s) (cut w)
  faults : {f : ℕ} {s : State} {w : World} → Like b s w → Likewise b (Objects.fault f s) (fault f w)

abbrev pub ObjectsAgree : Type 0
ObjectsAgree = (b : Block) → Sound b → (cs : List ℤ) (h : Host) (n : ℕ) → Likewise b (meaning n b (length cs) h) (evaluated n b cs h)

pub record Same (b : Block) (w : World) (r : Run) : Type 0 where
  pub count : r.count ≡ w.count
  pub host : r.machine.host ≡ w.host
  pub variables : outermost_cells b r.machine.cells ≡ outermost_cells b w.cells

abbrev pub Follows : Block → Outcome Unit → Run → Type 0
Follows b (done _ w) r = (r.standing ≡ finished) × Same b w r
Follows b (cut w) r = (r.standing ≡ going) × Same b w r
Follows b (fault f w) r = (r.standing ≡ failed f) × Same b w r

abbrev pub AddressesAgree : Type 0
AddressesAgree =
    (b : Block) → Sound b → (cs : List ℤ) → length cs < 2 ^ 31 → (h : Host) (n : ℕ) →
    Follows b (evaluated n b cs h) (run (program b) n (opened cs h))
