-- The lives of an engine. A life is any list of load, open and step calls from the engine's making, carried out or
-- refused. All is over `rule_of`, which says of a source the rule that the checks accept it as, if they do.
use Rattle.std.specs.Prelude.{◌≡◌, ℕ, ◌+◌, ◌^◌, ◌≤◌, Bool, true, false, cond, List, [], ◌∷◌, length, ℤ, Some, None, Option, ◌==◌, nat_le}
use Rattle.machine.specs.declared.instruction.Instruction.{Instruction}
use Rattle.tiny.specs.Tree.{BlockTree}
use Rattle.machine.specs.Host.{Host}
use Rattle.machine.specs.Machine.{Standing, Run, going, finished, failed, run, opened}
use Rattle.machine.specs.Shelves.{total}
use Rattle.meaning.specs.Rule.{Block}
use Rattle.meaning.specs.Meaning.{meaning}
use Rattle.meaning.specs.Code.{program}
use Rattle.meaning.specs.Stages.{Judged, refused, one_of, accepted, judged}
use Rattle.meaning.specs.Sound.{Sound}
use Rattle.meaning.specs.Agreement.{Agrees}
use Rattle.meaning.specs.Laws.{Spent}

-- a source is a list of bytes
abbrev pub Source : Type 0
Source = List ℕ

-- what a shelf means: its code, its capacity and what each instruction costs
pub record Shelf : Type 0 where
  pub code : List Instruction
  pub capacity : ℕ
  pub cost : Instruction → ℕ

-- what a run is tied to from its opening on: the code, its source if it has one, and memory and host as they were given
pub record Tie : Type 0 where
  pub code : List Instruction
  pub source : Option Source
  pub cells : List ℤ
  pub host : Host

-- an engine with the memory and the host of its run, which stand in the run's machine
pub data Engine : Type 0 where
  no_run : Engine
  runs : Tie → Run → Engine

abbrev pub most_cells : ℕ
most_cells = 1048576

abbrev pub most_count : ℕ
most_count = 2 ^ 40

-- why an open over code c and m cells is refused: 31 no code, 34 too many cells
abbrev pub open_cause : List Instruction → ℕ → Option ℕ
open_cause [] m = Some 31
open_cause (i ∷ is) m = cond (nat_le m most_cells) None (Some 34)

abbrev pub is_going : Standing → Bool
is_going going = true
is_going finished = false
is_going (failed f) = false

-- why a step over m cells with budget k is refused: 32 no run going, 34 other cells than at open, 33 the count could pass its bound
abbrev pub step_cause : Engine → ℕ → ℕ → Option ℕ
step_cause no_run m k = Some 32
step_cause (runs t r) m k =
    cond (is_going r.standing) (cond (m == length t.cells) (cond (nat_le (r.count + k) most_count) None (Some 33)) (Some 34)) (Some 32)

module _ (rule_of : Source → Option Block) where
  -- Code has a source if it is what an accepted load of that source leaves on a shelf, by whichever engine, unaltered since.
  abbrev pub Filled : Option Source → List Instruction → Type 0
  Filled None c = Unit {0}
  Filled (Some s) c = (b : Block) × (rule_of s ≡ Some b) × (c ≡ program b)

  -- an accepted load: the source has a rule, its code's cost is within the capacity, and the shelf then holds that code
  pub record Loads (s : Source) (before after : Shelf) : Type 0 where
    pub rule : Block
    pub accepted : rule_of s ≡ Some rule
    pub fits : total before.cost (program rule) ≤ before.capacity
    pub code : after.code ≡ program rule
    pub capacity : after.capacity ≡ before.capacity
    pub cost : after.cost ≡ before.cost

  -- A constructor for each call and outcome. Shelves are no part of it: a call names the one that it is given by its meaning,
  -- so that what happens to others does not matter.
  pub data Life : Engine → Type 0 where
    made : Life no_run
    loaded : {e : Engine} (s : Source) (before after : Shelf) → Loads s before after → Life e → Life no_run
    load_refused : {e : Engine} → Life e → Life e
    opens : {e : Engine} (t : Tie) → Filled t.source t.code → open_cause t.code (length t.cells) ≡ None → Life e → Life (runs t (opened t.cells t.host))
    open_refused : {e : Engine} (t : Tie) (cause : ℕ) → open_cause t.code (length t.cells) ≡ Some cause → Life e → Life e
    steps : {t : Tie} {r : Run} (m k : ℕ) → step_cause (runs t r) m k ≡ None → Life (runs t r) → Life (runs t (run t.code k r))
    step_refused : {e : Engine} (m k cause : ℕ) → step_cause e m k ≡ Some cause → Life e → Life e

-- a run that has a source agrees with the meaning of the source's rule, cut off at the run's count
abbrev pub Agreed : (Source → Option Block) → Engine → Type 0
Agreed rule_of no_run = Unit {0}
Agreed rule_of (runs t r) =
    (s : Source) → t.source ≡ Some s → (b : Block) × (rule_of s ≡ Some b) × Agrees b (meaning r.count b (length t.cells) t.host) r

abbrev pub RulesSound : (Source → Option Block) → Type 0
RulesSound rule_of = (s : Source) (b : Block) → rule_of s ≡ Some b → Sound b

abbrev pub LivesAgree : Type 0
LivesAgree = (rule_of : Source → Option Block) → RulesSound rule_of → (e : Engine) → Life rule_of e → Agreed rule_of e

-- the rule of a tree, if there is a tree and the checks accept it
abbrev pub passed : Judged → Option Block
passed (refused b) = None
passed (one_of bs) = None
passed (accepted b) = Some b

abbrev pub rule_of_tree : Option BlockTree → Option Block
rule_of_tree None = None
rule_of_tree (Some t) = passed (judged t)

-- the rules of sources whose trees the checks accept are sound, however sources are read as trees
abbrev pub JudgedRulesSound : Type 0
JudgedRulesSound = (tree_of : Source → Option BlockTree) → RulesSound (λ s. rule_of_tree (tree_of s))

-- how the budgets were cut up does not matter: of one opening, runs of the same count are the same
abbrev pub BudgetsFree : Type 0
BudgetsFree = (rule_of : Source → Option Block) (t : Tie) (r q : Run) → Life rule_of (runs t r) → Life rule_of (runs t q) → r.count ≡ q.count → r ≡ q

-- a run keeps the length of its memory, so that a step that gets it back is not refused for that, and its count stays within its bound
abbrev pub RunsBounded : Type 0
RunsBounded = (rule_of : Source → Option Block) (t : Tie) (r : Run) → Life rule_of (runs t r) → (length r.machine.cells ≡ length t.cells) × (r.count ≤ most_count)

-- a step that is not refused spends its budget whole, or ends the run within it; the count stays within its bound
abbrev pub StepsSpend : Type 0
StepsSpend = (t : Tie) (r : Run) (m k : ℕ) → step_cause (runs t r) m k ≡ None →
    Spent k r (run t.code k r) × ((run t.code k r).count ≤ most_count)

-- what an open tied to t, or a step over m cells with budget k, makes of an engine: nothing if there is a cause to refuse it
abbrev pub after_open : Option ℕ → Tie → Engine → Engine
after_open None t e = runs t (opened t.cells t.host)
after_open (Some cause) t e = e

abbrev pub after_step : Option ℕ → ℕ → Engine → Engine
after_step None k no_run = no_run
after_step None k (runs t r) = runs t (run t.code k r)
after_step (Some cause) k e = e

-- each call carries every life on, and the agreement holds where it leads; an accepted load fills its shelf for opens to come
abbrev pub LoadCarries : Type 0
LoadCarries = (rule_of : Source → Option Block) (e : Engine) → Life rule_of e → (s : Source) (before after : Shelf) → Loads rule_of s before after →
    Life rule_of no_run × Filled rule_of (Some s) after.code

abbrev pub OpenCarries : Type 0
OpenCarries = (rule_of : Source → Option Block) → RulesSound rule_of → (e : Engine) → Life rule_of e → (t : Tie) → Filled rule_of t.source t.code →
    let next : Engine = after_open (open_cause t.code (length t.cells)) t e in
    Life rule_of next × Agreed rule_of next

abbrev pub StepCarries : Type 0
StepCarries = (rule_of : Source → Option Block) → RulesSound rule_of → (e : Engine) → Life rule_of e → (m k : ℕ) →
    let next : Engine = after_step (step_cause e m k) k e in
    Life rule_of next × Agreed rule_of next
