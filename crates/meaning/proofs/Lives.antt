-- In every life a run that has a source agrees with the meaning of its rule.
use Rattle.std.proofs.Common.{◌≡◌, ℕ, ◌+◌, ◌≤◌, Bool, true, false, cond, T, eqb, leb, List, [], ◌∷◌, length, Some, None, Option, sym, refl, ap, ◌∙◌, subst, inl, inr, arith, leb→le}
use Rattle.machine.specs.declared.instruction.Instruction.{Instruction}
use Rattle.tiny.specs.Tree.{BlockTree}
use Rattle.meaning.specs.Rule.{Block}
use Rattle.meaning.specs.Meaning.{meaning}
use Rattle.machine.specs.Machine.{Standing, Run, going, finished, failed, run, opened}
use Rattle.meaning.specs.Code.{program}
use Rattle.meaning.specs.Stages.{Judged, refused, one_of, accepted, judged}
use Rattle.meaning.specs.Sound.{Sound}
use Rattle.meaning.specs.Agreement.{Agrees}
use Rattle.meaning.specs.Laws.{Spent}
use Rattle.meaning.specs.Lives.{Source, Tie, Engine, no_run, runs, most_cells, most_count, open_cause, is_going, step_cause, Filled, Life, made, loaded, load_refused, opens, open_refused, steps, step_refused, Agreed, RulesSound, LivesAgree, passed, rule_of_tree, JudgedRulesSound, BudgetsFree, RunsBounded, StepsSpend, after_open, after_step, LoadCarries, OpenCarries, StepCarries}
use Rattle.meaning.proofs.Agreement.{meaning_agrees}
use Rattle.meaning.proofs.Accepted.{accepted_sound}
use Rattle.meaning.proofs.Runs.{runs_add, budget_spent, by_count}
use Rattle.meaning.proofs.Keeps.{memory_kept}

open_small : (c : List Instruction) (m : ℕ) → open_cause c m ≡ None → m ≤ most_cells
open_small [] m e = let z : ◌≡◌ {A = ℕ} 0 1 = cc in absurd (omega arith)
open_small (i ∷ is) m e = go (leb m most_cells) refl e
  where
    go : (b : Bool) → leb m most_cells ≡ b → cond {A = Option ℕ} b None (Some 34) ≡ None → m ≤ most_cells
    go true q e = leb→le m most_cells (subst T (sym q) tt)
    go false q e = let z : ◌≡◌ {A = ℕ} 0 1 = cc in absurd (omega arith)

step_going : (s : Standing) (m l a k : ℕ) →
    cond {A = Option ℕ} (is_going s) (cond (eqb m l) (cond (leb (a + k) most_count) None (Some 33)) (Some 34)) (Some 32) ≡ None → (s ≡ going) × (a + k ≤ most_count)
step_going going m l a k e = (refl, go (eqb m l) (leb (a + k) most_count) refl e)
  where
    go : (v b : Bool) → leb (a + k) most_count ≡ b → cond {A = Option ℕ} v (cond b None (Some 33)) (Some 34) ≡ None → a + k ≤ most_count
    go true true q e = leb→le (a + k) most_count (subst T (sym q) tt)
    go true false q e = let z : ◌≡◌ {A = ℕ} 0 1 = cc in absurd (omega arith)
    go false b q e = let z : ◌≡◌ {A = ℕ} 0 1 = cc in absurd (omega arith)
step_going finished m l a k e = let z : ◌≡◌ {A = ℕ} 0 1 = cc in absurd (omega arith)
step_going (failed f) m l a k e = let z : ◌≡◌ {A = ℕ} 0 1 = cc in absurd (omega arith)

pub steps_spend : StepsSpend
steps_spend t r m k e = (spent, bound spent)
  where
    x : (r.standing ≡ going) × (r.count + k ≤ most_count)
    x = step_going r.standing m (length t.cells) r.count k e

    spent : Spent k r (run t.code k r)
    spent = budget_spent t.code k r x.0

    bound : Spent k r (run t.code k r) → (run t.code k r).count ≤ most_count
    bound (inl (g, c)) = omega (arith, x.1)
    bound (inr (g, l, u)) = omega (arith, x.1)

module _ (rule_of : Source → Option Block) where
  -- what every life keeps of a run
  record Traced (t : Tie) (r : Run) : Type 0 where
    taken : ℕ
    is : r ≡ run t.code taken (opened t.cells t.host)
    small : length t.cells ≤ most_cells
    bounded : r.count ≤ most_count
    filled : Filled rule_of t.source t.code

  abbrev Kept : Engine → Type 0
  Kept no_run = Unit {0}
  Kept (runs t r) = Traced t r

  kept : {e : Engine} → Life rule_of e → Kept e
  kept made = tt
  kept (loaded s before after l life) = tt
  kept (load_refused life) = kept life
  kept (opens t f e life) = record { taken = 0; is = refl; small = open_small t.code (length t.cells) e; bounded = omega arith; filled = f }
  kept (open_refused t cause e life) = kept life
  kept (steps {t} {r} m k e life) =
      let x : Traced t r = kept life in
      record { taken = x.taken + k; is = ap (run t.code k) x.is ∙ sym (runs_add t.code x.taken k (opened t.cells t.host)); small = x.small; bounded = (steps_spend t r m k e).1; filled = x.filled }
  kept (step_refused m k cause e life) = kept life

  -- told by its count, a run is where the agreement has it
  there : (t : Tie) (r : Run) → Traced t r → run t.code r.count (opened t.cells t.host) ≡ r
  there t r x =
      ap (λ (q : Run). run t.code q.count (opened t.cells t.host)) x.is
      ∙ by_count t.code x.taken (opened t.cells t.host) refl ∙ sym x.is

module _ (rule_of : Source → Option Block) (sound : RulesSound rule_of) where
  run_agrees : (t : Tie) (r : Run) → Traced rule_of t r → Agreed rule_of (runs t r)
  run_agrees t r x s from = (b, rule, agrees)
    where
      filled : Filled rule_of (Some s) t.code
      filled = subst (λ (o : Option Source). Filled rule_of o t.code) from x.filled

      b : Block
      b = filled.0

      rule : rule_of s ≡ Some b
      rule = filled.1

      at : run (program b) r.count (opened t.cells t.host) ≡ r
      at = ap (λ (c : List Instruction). run c r.count (opened t.cells t.host)) (sym filled.2) ∙ there rule_of t r x

      agrees : Agrees b (meaning r.count b (length t.cells) t.host) r
      agrees = subst (λ (q : Run). Agrees b (meaning r.count b (length t.cells) t.host) q) at
          (meaning_agrees b (sound s b rule) t.cells (omega (arith, x.small)) t.host r.count)

  agreed : (e : Engine) → Kept rule_of e → Agreed rule_of e
  agreed no_run x = tt
  agreed (runs t r) x = run_agrees t r x

pub lives_agree : LivesAgree
lives_agree rule_of sound e life = agreed rule_of sound e (kept rule_of life)

passed_sound : (t : BlockTree) (b : Block) (j : Judged) → judged t ≡ j → passed j ≡ Some b → Sound b
passed_sound t b (refused x) e q = let z : ◌≡◌ {A = ℕ} 0 1 = cc in absurd (omega arith)
passed_sound t b (one_of xs) e q = let z : ◌≡◌ {A = ℕ} 0 1 = cc in absurd (omega arith)
passed_sound t b (accepted c) e q = let same : c ≡ b = cc in accepted_sound t b (e ∙ ap accepted same)

read_sound : (o : Option BlockTree) (b : Block) → rule_of_tree o ≡ Some b → Sound b
read_sound None b q = let z : ◌≡◌ {A = ℕ} 0 1 = cc in absurd (omega arith)
read_sound (Some t) b q = passed_sound t b (judged t) refl q

pub judged_rules_sound : JudgedRulesSound
judged_rules_sound tree_of s b q = read_sound (tree_of s) b q

pub budgets_free : BudgetsFree
budgets_free rule_of t r q a b e =
    sym (there rule_of t r (kept rule_of a)) ∙ ap (λ (n : ℕ). run t.code n (opened t.cells t.host)) e ∙ there rule_of t q (kept rule_of b)

pub runs_bounded : RunsBounded
runs_bounded rule_of t r life = (long (kept rule_of life), (kept rule_of life).bounded)
  where
    long : Traced rule_of t r → length r.machine.cells ≡ length t.cells
    long x = ap (λ (q : Run). length q.machine.cells) x.is ∙ memory_kept t.code x.taken (opened t.cells t.host)

pub load_carries : LoadCarries
load_carries rule_of e life s before after l = (loaded s before after l life, (l.rule, l.accepted, l.code))

both : (rule_of : Source → Option Block) → RulesSound rule_of → (e : Engine) → Life rule_of e → Life rule_of e × Agreed rule_of e
both rule_of sound e life = (life, lives_agree rule_of sound e life)

pub open_carries : OpenCarries
open_carries rule_of sound e life t f = go (open_cause t.code (length t.cells)) refl
  where
    go : (o : Option ℕ) → open_cause t.code (length t.cells) ≡ o → Life rule_of (after_open o t e) × Agreed rule_of (after_open o t e)
    go None q = both rule_of sound (runs t (opened t.cells t.host)) (opens t f q life)
    go (Some cause) q = both rule_of sound e (open_refused t cause q life)

pub step_carries : StepCarries
step_carries rule_of sound e life m k = go e life (step_cause e m k) refl
  where
    go : (e : Engine) → Life rule_of e → (o : Option ℕ) → step_cause e m k ≡ o → Life rule_of (after_step o k e) × Agreed rule_of (after_step o k e)
    go no_run life None q = both rule_of sound no_run life
    go (runs t r) life None q = both rule_of sound (runs t (run t.code k r)) (steps m k q life)
    go e life (Some cause) q = both rule_of sound e (step_refused m k cause q life)
