-- The clauses that load, open and step carry. `shown e` says that the engine's state at the call means e, `left e` that
-- its state at the return does. An answer is the number of a refusal, or none.
use Rattle.std.specs.Prelude.{◌≡◌, ℕ, List, ℤ, Some, None, Option}
use Rattle.machine.specs.declared.instruction.Instruction.{Instruction}
use Rattle.meaning.specs.Rule.{Block}
use Rattle.machine.specs.Host.{Host}
use Rattle.meaning.specs.Laws.{Spent}
use Rattle.meaning.specs.Lives.{Source, Engine, no_run, runs, Filled, Life, Agreed, RulesSound, after_open, after_step}

abbrev pub after_load : Option ℕ → Engine → Engine
after_load None e = no_run
after_load (Some cause) e = e

-- the code, memory and host that a step is given are its run's own
abbrev pub Own : Engine → List Instruction → List ℤ → Host → Type 0
Own no_run c cs h = Unit {0}
Own (runs t r) c cs h = (t.code ≡ c) × (r.machine.cells ≡ cs) × (r.machine.host ≡ h)

-- from one engine to the other, k instructions of its run: all of them, or fewer and the run has ended
abbrev pub Spends : ℕ → Engine → Engine → Type 0
Spends k no_run e = ⊥
Spends k (runs t r) no_run = ⊥
Spends k (runs t r) (runs u q) = (u ≡ t) × Spent k r q

-- each life that leads to an e that is shown leads on to `next e`, which is left, and the agreement holds there
abbrev pub Leads : (Source → Option Block) → (Engine → Type 0) → (Engine → Type 0) → (Engine → Engine) → Type 0
Leads rule_of shown left next = (e : Engine) → shown e → Life rule_of e → left (next e) × Life rule_of (next e) × Agreed rule_of (next e)

module _ (shown left : Engine → Type 0) where
  -- c: the shelf's code at the return
  abbrev pub LoadClause : (Source → Option Block) → Option ℕ → Source → List Instruction → Type 0
  LoadClause rule_of answer s c = Leads rule_of shown left (after_load answer) × (answer ≡ None → Filled rule_of (Some s) c)

  -- over code c, memory cs and host h, whatever source c is known to have
  abbrev pub OpenClause : Option ℕ → List Instruction → List ℤ → Host → Type 0
  OpenClause answer c cs h = (rule_of : Source → Option Block) → RulesSound rule_of → (source : Option Source) → Filled rule_of source c →
      Leads rule_of shown (λ e. left e × (answer ≡ None → Own e c cs h)) (after_open answer (record { code = c; source = source; cells = cs; host = h }))

  -- over code c, with memory and host cs and h at the call, cs' and h' at the return; one that is not refused spends its budget
  abbrev pub StepClause : Option ℕ → ℕ → List Instruction → List ℤ → Host → List ℤ → Host → Type 0
  StepClause answer k c cs h cs' h' =
      ((rule_of : Source → Option Block) → RulesSound rule_of →
      Leads rule_of (λ e. shown e × (answer ≡ None → Own e c cs h)) (λ e. left e × (answer ≡ None → Own e c cs' h')) (after_step answer k))
      × ((e : Engine) → shown e → answer ≡ None → Spends k e (after_step answer k e))
