-- The laws of a run.
use Rattle.std.proofs.Common.{◌≡◌, ℕ, zero, suc, ◌+◌, List, sym, refl, ap, ◌∙◌, inl, inr, add-zero, add-suc, arith}
use Rattle.machine.specs.declared.instruction.Instruction.{Instruction}
use Rattle.machine.specs.Machine.{Machine, Effect, goes, stops, fails, Standing, going, finished, failed, Run, fetched, attempted, after, one_more, run}
use Rattle.meaning.specs.Laws.{RunsAdd, EndedStays, GoingCounts, Spent, BudgetSpent}

abbrev IsGoing : Standing → Type 0
IsGoing going = Unit {0}
IsGoing finished = ⊥
IsGoing (failed f) = ⊥

going_is : (s : Standing) → s ≡ going → IsGoing s
going_is going e = tt
going_is finished e = let z : ◌≡◌ {A = ℕ} 0 1 = cc in absurd (omega arith)
going_is (failed f) e = let z : ◌≡◌ {A = ℕ} 0 1 = cc in absurd (omega arith)

pub runs_add : RunsAdd
runs_add c a zero r = ap (λ (k : ℕ). run c k r) (add-zero a)
runs_add c a (suc b) r = ap (λ (k : ℕ). run c k r) (add-suc a b) ∙ ap (λ (s : Run). one_more c s.standing s) (runs_add c a b r)

stays_one : (c : List Instruction) (s : Standing) (r : Run) → ¬ (s ≡ going) → one_more c s r ≡ r
stays_one c going r h = absurd (h refl)
stays_one c finished r h = refl
stays_one c (failed f) r h = refl

pub ended_stays : EndedStays
ended_stays c zero r h = refl
ended_stays c (suc n) r h = ap (λ (s : Run). one_more c s.standing s) (ended_stays c n r h) ∙ stays_one c r.standing r h

after_count : (e : Effect) (k : ℕ) (m : Machine) → (after e k m).count ≡ suc k
after_count (goes m') k m = refl
after_count (stops m') k m = refl
after_count (fails f) k m = refl

counts_one : (c : List Instruction) (s : Standing) (r : Run) → s ≡ going → (one_more c s r).count ≡ suc r.count
counts_one c going r h = after_count (attempted (fetched c r.machine.next) r.machine) r.count r.machine
counts_one c finished r h = absurd (going_is finished h)
counts_one c (failed f) r h = absurd (going_is (failed f) h)

pub going_counts : GoingCounts
going_counts c r h = counts_one c r.standing r h

pub budget_spent : BudgetSpent
budget_spent c zero r h = inl (h, omega arith)
budget_spent c (suc k) r h = next (budget_spent c k r h)
  where
    s : Run
    s = run c k r

    t : Run
    t = one_more c s.standing s

    is : (x : Standing) → t.standing ≡ x → t.count ≡ suc (r.count + k) → Spent (suc k) r t
    is going e f = inl (e, omega arith)
    is finished e f = inr ((λ g. going_is finished (sym e ∙ g)), omega arith, omega arith)
    is (failed x) e f = inr ((λ g. going_is (failed x) (sym e ∙ g)), omega arith, omega arith)

    next : Spent k r s → Spent (suc k) r t
    next (inl (g, e)) = is t.standing refl (counts_one c s.standing s g ∙ ap suc e)
    next (inr (g, l, u)) =
        let q : t ≡ s = stays_one c s.standing s g in
        rw q (inr (g, l, omega arith))

-- a run from its opening is told by its count
pub by_count : (c : List Instruction) (k : ℕ) (r : Run) → r.count ≡ 0 → run c (run c k r).count r ≡ run c k r
by_count c zero r z = ap (λ (j : ℕ). run c j r) z
by_count c (suc k) r z = on s.standing refl (by_count c k r z)
  where
    s : Run
    s = run c k r

    on : (x : Standing) → s.standing ≡ x → run c s.count r ≡ s → run c (one_more c x s).count r ≡ one_more c x s
    on going g e =
        ap (λ (j : ℕ). run c j r) (after_count (attempted (fetched c s.machine.next) s.machine) s.count s.machine)
        ∙ ap (λ (q : Run). one_more c q.standing q) e ∙ ap (λ (x : Standing). one_more c x s) g
    on finished g e = e
    on (failed f) g e = e
