-- The meaning of a rule, cut off at n, and n instructions of its code cannot be told apart.
use Rattle.std.specs.Prelude.{◌≡◌, ℕ, suc, ◌^◌, ◌<◌, ◌≤◌, List, length, take, drop, ℤ}
use Rattle.tiny.specs.Tree.{BlockTree}
use Rattle.machine.specs.Host.{Host}
use Rattle.machine.specs.Machine.{Run, Standing, going, finished, failed, run, opened}
use Rattle.meaning.specs.Rule.{Block}
use Rattle.meaning.specs.Sizes.{own_cells}
use Rattle.meaning.specs.Objects.{Outcome, done, cut, fault}
use Rattle.meaning.specs.Meaning.{meaning, outermost}
use Rattle.meaning.specs.MeaningLaws.{state, IsCut}
use Rattle.meaning.specs.Code.{program}
use Rattle.meaning.specs.Stages.{judged, accepted}
use Rattle.meaning.specs.Sound.{Sound}

abbrev pub standing_of : Outcome Unit → Standing
standing_of (done _ s) = finished
standing_of (cut s) = going
standing_of (fault f s) = failed f

-- the cells of the outermost block's own variables, behind the two links
abbrev pub outermost_cells : Block → List ℤ → List ℤ
outermost_cells b cs = take (own_cells b) (drop 2 cs)

-- Nothing tells the run r from the meaning o of the rule b. The outermost variables have cells from the third charge on,
-- their block's own. A fault is one of the language's: none of the machine's own, 41 to 44, ever occurs.
pub record Agrees (b : Block) (o : Outcome Unit) (r : Run) : Type 0 where
  pub standing : r.standing ≡ standing_of o
  pub count : r.count ≡ (state o).count
  pub output : r.machine.host.marks ≡ (state o).host.marks
  pub input : r.machine.host.items ≡ (state o).host.items
  pub variables : 3 ≤ (state o).count → outermost_cells b r.machine.cells ≡ outermost b (state o)
  pub lawful : (f : ℕ) → r.standing ≡ failed f → (21 ≤ f) × (f ≤ 27)

abbrev pub MeaningAgrees : Type 0
MeaningAgrees =
    (b : Block) → Sound b → (cs : List ℤ) → length cs < 2 ^ 31 → (h : Host) (n : ℕ) →
    Agrees b (meaning n b (length cs) h) (run (program b) n (opened cs h))

-- for every tree that the checks accept
abbrev pub AcceptedTreesAgree : Type 0
AcceptedTreesAgree =
    (t : BlockTree) (b : Block) → judged t ≡ accepted b → (cs : List ℤ) → length cs < 2 ^ 31 → (h : Host) (n : ℕ) →
    Agrees b (meaning n b (length cs) h) (run (program b) n (opened cs h))

-- while the meaning goes on, charge n + 1 is made exactly as instruction n + 1 is carried out
abbrev pub ChargesAreInstructions : Type 0
ChargesAreInstructions =
    (t : BlockTree) (b : Block) → judged t ≡ accepted b → (cs : List ℤ) → length cs < 2 ^ 31 → (h : Host) (n : ℕ) →
    IsCut (meaning n b (length cs) h) →
    ((run (program b) n (opened cs h)).count ≡ n) × ((state (meaning (suc n) b (length cs) h)).count ≡ suc n) × ((run (program b) (suc n) (opened cs h)).count ≡ suc n)
