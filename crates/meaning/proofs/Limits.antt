-- A computation of the meaning under two limits, the early one not above the late one.
use Rattle.std.proofs.Common.{◌≡◌, ℕ, suc, ◌≤◌, Bool, true, false, T, eqb, sym, refl, ap, ◌∙◌, subst, arith, eqb→eq}
use mathlib.Core.Path.{fun_ext}
use lib.Dec.{eqb_refl}
use Rattle.machine.specs.Host.{Host}
use Rattle.meaning.specs.Objects.{State, Outcome, done, cut, fault, ◌>>=◌, ◌>>◌, return}
use Rattle.meaning.specs.Meaning.{charge}
use Rattle.meaning.specs.Laws.{Onward}
use Rattle.meaning.specs.MeaningLaws.{state, Further}
use Rattle.meaning.proofs.Onward.{onward_refl, onward_trans}

pub data Side : Type 0 where
  early late : Side

-- to a state with the same host and count
pub further_refl : (s t : State) → t.count ≡ s.count → t.host ≡ s.host → Further s t
further_refl s t c e = record { count = omega arith; host = subst (λ (h : Host). Onward s.host h) (sym e) (onward_refl s.host) }

pub further_trans : (s t u : State) → Further s t → Further t u → Further s u
further_trans s t u f g = record { count = omega (arith, f.count, g.count); host = onward_trans s.host t.host u.host f.host g.host }

abbrev tick : State → State
tick s = record { objects = s.objects; used = s.used; host = s.host; count = suc s.count }

further_tick : (s : State) → Further s (tick s)
further_tick s = record { count = omega arith; host = onward_refl s.host }

eqb_no : (a b : ℕ) → eqb a b ≡ false → ¬ (a ≡ b)
eqb_no a b q c = subst T q (subst (λ (x : ℕ). T (eqb x b)) (sym c) (eqb_refl b))

eqb_yes : (a b : ℕ) → eqb a b ≡ true → a ≡ b
eqb_yes a b q = eqb→eq a b (subst T (sym q) tt)

-- what follows a computation
abbrev then_on : {A B : Type 0} → (A → State → Outcome B) → Outcome A → Outcome B
then_on k (done a s) = k a s
then_on k (cut s) = cut s
then_on k (fault f s) = fault f s

module _ (lim : Side → ℕ) where
  -- what the early outcome says of the late one
  abbrev pub Known : {A : Type 0} → Outcome A → Outcome A → Type 0
  Known (done a s) o = (s.count ≤ lim early) × (o ≡ done a s)
  Known (cut s) o = (s.count ≡ lim early) × Further s (state o) × (lim early ≡ lim late → o ≡ cut s)
  Known (fault f s) o = (s.count ≤ lim early) × (21 ≤ f) × (f ≤ 27) × (o ≡ fault f s)

  pub record Pair {A : Type 0} (low : ℕ) (M : Side → State → Outcome A) : Type 0 where
    pub grows : (s : State) → Further s (state (M late s))
    pub known : (s : State) → low ≤ s.count → s.count ≤ lim early → Known (M early s) (M late s)

  module _ (order : lim early ≤ lim late) where
    pub lower : {A : Type 0} (low high : ℕ) {M : Side → State → Outcome A} → low ≤ high → Pair low M → Pair high M
    lower low high l p = record { grows = p.grows; known = λ s a b. p.known s (omega arith) b }

    pub bind : {A B : Type 0} (low : ℕ) {M : Side → State → Outcome A} {K : Side → A → State → Outcome B} →
        Pair low M → ((a : A) → Pair low (λ s. K s a)) → Pair low (λ s. M s >>= K s)
    bind {A} {B} low {M} {K} m k = record { grows = λ s. grow s (M late s) (m.grows s); known = λ s l u. go s l (M early s) (M late s) (m.grows s) (m.known s l u) }
      where
        grow : (s : State) (o : Outcome A) → Further s (state o) → Further s (state (then_on (K late) o))
        grow s (done a t) f = further_trans s t (state (K late a t)) f ((k a).grows t)
        grow s (cut t) f = f
        grow s (fault e t) f = f

        go : (s : State) → low ≤ s.count → (o p : Outcome A) → Further s (state p) → Known o p → Known (then_on (K early) o) (then_on (K late) p)
        go s l (done a t) p f (u, e) =
            let g : Further s t = subst (λ (x : Outcome A). Further s (state x)) e f in
            subst (λ (x : Outcome A). Known (K early a t) (then_on (K late) x)) (sym e) ((k a).known t (omega arith) u)
        go s l (cut t) p f (c, g, x) = (c, grow t p g, λ q. ap (then_on (K late)) (x q))
        go s l (fault e t) p f (u, a, b, x) = (u, a, b, ap (then_on (K late)) x)

    -- a computation without a charge
    abbrev pub Quiet : {A : Type 0} → State → Outcome A → Outcome A → Type 0
    Quiet s (done a t) o = (t.count ≡ s.count) × Further s t × (o ≡ done a t)
    Quiet s (cut t) o = ⊥
    Quiet s (fault f t) o = (t ≡ s) × (21 ≤ f) × (f ≤ 27) × (o ≡ fault f t)

    pub quiet : {A : Type 0} (low : ℕ) (M : Side → State → Outcome A) → ((s : State) → Quiet s (M early s) (M late s)) → Pair low M
    quiet {A} low M q = record { grows = λ s. grow s (M early s) (M late s) (q s); known = λ s l u. go s u (M early s) (M late s) (q s) }
      where
        grow : (s : State) (o p : Outcome A) → Quiet s o p → Further s (state p)
        grow s (done a t) p (c, f, e) = subst (λ (x : Outcome A). Further s (state x)) (sym e) f
        grow s (cut t) p x = absurd x
        grow s (fault f t) p (c, a, b, e) = subst (λ (x : Outcome A). Further s (state x)) (sym e) (subst (λ (x : State). Further s x) (sym c) (further_refl s s refl refl))

        go : (s : State) → s.count ≤ lim early → (o p : Outcome A) → Quiet s o p → Known o p
        go s u (done a t) p (c, f, e) = (omega arith, e)
        go s u (cut t) p x = absurd x
        go s u (fault f t) p (c, a, b, e) = (subst (λ (x : State). x.count ≤ lim early) (sym c) u, a, b, e)

    abbrev tested : Bool → State → Outcome Unit
    tested b s = elim b as (λ x. Outcome Unit) [ true ↦ cut s | false ↦ done tt (tick s) ]

    pub charged : {A : Type 0} (room low : ℕ) {K : Side → State → Outcome A} → Pair (suc low) K → Pair low (λ s. charge (lim s) room >> K s)
    charged {A} room low {K} k = record { grows = λ s. grow s (eqb s.count (lim late)); known = λ s l u. go s l u (eqb s.count (lim early)) refl (eqb s.count (lim late)) refl }
      where
        grow : (s : State) (b : Bool) → Further s (state (then_on (λ _. K late) (tested b s)))
        grow s true = further_refl s s refl refl
        grow s false = further_trans s (tick s) (state (K late (tick s))) (further_tick s) (k.grows (tick s))

        go : (s : State) → low ≤ s.count → s.count ≤ lim early → (b : Bool) → eqb s.count (lim early) ≡ b → (c : Bool) → eqb s.count (lim late) ≡ c →
            Known (then_on (λ _. K early) (tested b s)) (then_on (λ _. K late) (tested c s))
        go s l u true e true f = (eqb_yes s.count (lim early) e, grow s true, λ q. refl)
        go s l u true e false f = (eqb_yes s.count (lim early) e, grow s false, λ q. absurd (eqb_no s.count (lim late) f (eqb_yes s.count (lim early) e ∙ q)))
        go s l u false e true f =
            let x : s.count ≡ lim late = eqb_yes s.count (lim late) f in
            absurd (eqb_no s.count (lim early) e (omega arith))
        go s l u false e false f =
            let x : ¬ (s.count ≡ lim early) = eqb_no s.count (lim early) e in
            k.known (tick s) (omega arith) (omega arith)

    pub charge_last : (room low : ℕ) → Pair low (λ s. charge (lim s) room)
    charge_last room low = subst (λ (M : Side → State → Outcome Unit). Pair low M) (fun_ext (λ x. fun_ext (λ s. same s (eqb s.count (lim x))))) (charged room low (quiet (suc low) (λ x s. done tt s) (λ s. (refl, further_refl s s refl refl, refl))))
      where
        same : (s : State) (b : Bool) → then_on (λ _. return tt) (tested b s) ≡ tested b s
        same s true = refl
        same s false = refl
