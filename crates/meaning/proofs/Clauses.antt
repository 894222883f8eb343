-- The clauses of load, open and step, from what the code does to the engine's state.
use Rattle.std.proofs.Common.{◌≡◌, ℕ, ◌+◌, ◌<◌, ◌≤◌, Bool, true, false, cond, T, eqb, leb, List, [], ◌∷◌, length, ℤ, Some, None, Option, sym, refl, subst, arith, le→leb, eqb→eq, leb→le}
use lib.Dec.{eqb_refl}
use Rattle.machine.specs.declared.instruction.Instruction.{Instruction}
use Rattle.meaning.specs.Rule.{Block}
use Rattle.machine.specs.Host.{Host}
use Rattle.machine.specs.Machine.{Run}
use Rattle.meaning.specs.Lives.{Source, Shelf, Tie, Engine, no_run, runs, Loads, Life, load_refused, Agreed, RulesSound, most_cells, most_count, is_going, open_cause, step_cause, after_open, after_step}
use Rattle.meaning.specs.Clauses.{Own, Spends, LoadClause, OpenClause, StepClause}
use Rattle.meaning.proofs.Tracks.{is_true}
use Rattle.meaning.proofs.Lives.{lives_agree, steps_spend, load_carries, open_carries, step_carries}

own_opened : (o : Option ℕ) (t : Tie) (e : Engine) → o ≡ None → Own (after_open o t e) t.code t.cells t.host
own_opened None t e q = (refl, refl, refl)
own_opened (Some cause) t e q = let z : ◌≡◌ {A = ℕ} 0 1 = cc in absurd (omega arith)

spends : (answer : Option ℕ) (m k : ℕ) (e : Engine) → answer ≡ step_cause e m k → answer ≡ None → Spends k e (after_step answer k e)
spends (Some cause) m k e q none = let z : ◌≡◌ {A = ℕ} 0 1 = cc in absurd (omega arith)
spends None m k no_run q none = let z : ◌≡◌ {A = ℕ} 0 1 = cc in absurd (omega arith)
spends None m k (runs t r) q none = (refl, (steps_spend t r m k (sym q)).0)

module _ (shown left : Engine → Type 0) where
  pub load_accepted : (rule_of : Source → Option Block) (s : Source) (before after : Shelf) → Loads rule_of s before after → left no_run →
      LoadClause shown left rule_of None s after.code
  load_accepted rule_of s before after l is = ((λ e x life. (is, (load_carries rule_of e life s before after l).0, tt)), (λ q. (l.rule, l.accepted, l.code)))

  pub load_refuses : (rule_of : Source → Option Block) → RulesSound rule_of → (cause : ℕ) (s : Source) (c : List Instruction) → ((e : Engine) → shown e → left e) →
      LoadClause shown left rule_of (Some cause) s c
  load_refuses rule_of sound cause s c is =
      ((λ e x life. (is e x, load_refused life, lives_agree rule_of sound e life)), (λ q. let z : ◌≡◌ {A = ℕ} 0 1 = cc in absurd (omega arith)))

  pub open_clause : (answer : Option ℕ) (c : List Instruction) (cs : List ℤ) (h : Host) → answer ≡ open_cause c (length cs) →
      ((source : Option Source) (e : Engine) → shown e → left (after_open answer (record { code = c; source = source; cells = cs; host = h }) e)) →
      OpenClause shown left answer c cs h
  open_clause answer c cs h q is rule_of sound source filled e x life = ((is source e x, own_opened answer t e), on.0, on.1)
    where
      t : Tie
      t = record { code = c; source = source; cells = cs; host = h }

      on : Life rule_of (after_open answer t e) × Agreed rule_of (after_open answer t e)
      on = subst (λ (a : Option ℕ). Life rule_of (after_open a t e) × Agreed rule_of (after_open a t e)) (sym q) (open_carries rule_of sound e life t filled)

  -- m: the length of the memory that is given
  pub step_clause : (answer : Option ℕ) (m k : ℕ) (c : List Instruction) (cs : List ℤ) (h : Host) (cs' : List ℤ) (h' : Host) → ((e : Engine) → shown e → answer ≡ step_cause e m k) →
      ((e : Engine) → shown e → (answer ≡ None → Own e c cs h) → left (after_step answer k e) × (answer ≡ None → Own (after_step answer k e) c cs' h')) →
      StepClause shown left answer k c cs h cs' h'
  step_clause answer m k c cs h cs' h' q is = ((λ rule_of sound e (x, own) life. (is e x own, (on rule_of sound e x life).0, (on rule_of sound e x life).1)), λ e x none. spends answer m k e (q e x) none)
    where
      on : (rule_of : Source → Option Block) → RulesSound rule_of → (e : Engine) → shown e → Life rule_of e → Life rule_of (after_step answer k e) × Agreed rule_of (after_step answer k e)
      on rule_of sound e x life = subst (λ (a : Option ℕ). Life rule_of (after_step a k e) × Agreed rule_of (after_step a k e)) (sym (q e x)) (step_carries rule_of sound e life m k)

eqb_same : (a : ℕ) → eqb a a ≡ true
eqb_same a = is_true (eqb a a) (eqb_refl a)

-- the tests of open
pub cause_31 : (c : List Instruction) (m : ℕ) → length c ≡ 0 → Some 31 ≡ open_cause c m
cause_31 [] m e = refl
cause_31 (i ∷ is) m e = absurd (omega arith)

pub cause_34 : (c : List Instruction) (m : ℕ) → ¬ (length c ≡ 0) → most_cells < m → Some 34 ≡ open_cause c m
cause_34 [] m e l = absurd (e refl)
cause_34 (i ∷ is) m e l = go (leb m most_cells) refl
  where
    go : (b : Bool) → leb m most_cells ≡ b → Some 34 ≡ cond {A = Option ℕ} b None (Some 34)
    go true q = let x : m ≤ most_cells = leb→le m most_cells (subst T (sym q) tt) in absurd (omega arith)
    go false q = refl

pub cause_none : (c : List Instruction) (m : ℕ) → ¬ (length c ≡ 0) → m ≤ most_cells → None ≡ open_cause c m
cause_none [] m e l = absurd (e refl)
cause_none (i ∷ is) m e l = go (leb m most_cells) (le→leb m most_cells l)
  where
    go : (b : Bool) → T b → None ≡ cond {A = Option ℕ} b None (Some 34)
    go true t = refl
    go false t = absurd t

-- the tests of step
pub step_32 : (t : Tie) (r : Run) (m k : ℕ) → is_going r.standing ≡ false → Some 32 ≡ step_cause (runs t r) m k
step_32 t r m k e = rw e

pub step_34 : (t : Tie) (r : Run) (m k : ℕ) → is_going r.standing ≡ true → ¬ (m ≡ length t.cells) → Some 34 ≡ step_cause (runs t r) m k
step_34 t r m k e n = rw e (go (eqb m (length t.cells)) refl)
  where
    go : (b : Bool) → eqb m (length t.cells) ≡ b → Some 34 ≡ cond {A = Option ℕ} b (cond (leb (r.count + k) most_count) None (Some 33)) (Some 34)
    go true q = absurd (n (eqb→eq m (length t.cells) (subst T (sym q) tt)))
    go false q = refl

pub step_33 : (t : Tie) (r : Run) (m k : ℕ) → is_going r.standing ≡ true → m ≡ length t.cells → most_count < r.count + k → Some 33 ≡ step_cause (runs t r) m k
step_33 t r m k e n l = rw (e, n, eqb_same (length t.cells)) (go (leb (r.count + k) most_count) refl)
  where
    go : (b : Bool) → leb (r.count + k) most_count ≡ b → Some 33 ≡ cond {A = Option ℕ} b None (Some 33)
    go true q = let x : r.count + k ≤ most_count = leb→le (r.count + k) most_count (subst T (sym q) tt) in absurd (omega arith)
    go false q = refl

pub step_none : (t : Tie) (r : Run) (m k : ℕ) → is_going r.standing ≡ true → m ≡ length t.cells → r.count + k ≤ most_count → None ≡ step_cause (runs t r) m k
step_none t r m k e n l = rw (e, n, eqb_same (length t.cells), is_true (leb (r.count + k) most_count) (le→leb (r.count + k) most_count l))
