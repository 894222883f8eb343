-- A computation of the evaluation beside the run of the code, by the count of charges.
use Rattle.std.proofs.Common.{◌≡◌, ℕ, zero, suc, ◌+◌, ◌-◌, ◌<◌, ◌≤◌, Bool, true, false, cond, T, eqb, List, ℤ, Some, Option, sym, refl, ap, ◌∙◌, subst, add-zero, add-suc, arith, eqb→eq}
use lib.Dec.{eqb_refl}
use Rattle.machine.specs.declared.instruction.Instruction.{Instruction}
use Rattle.meaning.specs.Rule.{Block}
use Rattle.meaning.specs.Evaluation.{World, Outcome, done, cut, fault, ◌>>=◌, ◌>>◌, charge}
use Rattle.machine.specs.Machine.{Machine, fails, Standing, going, failed, Run, fetched, attempted, after, one_more, effect}
use Rattle.meaning.specs.Halves.{Follows}
use Rattle.meaning.specs.Sizes.{own_cells}
use Rattle.meaning.proofs.Cells.{Private, Mem, mem_outer}

-- a run of the code, and where the evaluation is cut off
pub record Setting : Type 0 where
  pub b : Block
  pub code : List Instruction
  pub R : ℕ → Run
  pub n : ℕ
  pub step : (k : ℕ) → R (suc k) ≡ one_more code (R k).standing (R k)

abbrev pub mach : World → List ℤ → List ℕ → ℕ → List ℤ → Machine
mach w ops B pc M = record { operands = ops; bases = B; next = pc; top = w.top; cells = M; host = w.host }

abbrev pub running : World → List ℤ → List ℕ → ℕ → List ℤ → Run
running w ops B pc M = record { standing = going; count = w.count; machine = mach w ops B pc M }

abbrev pub tick : World → World
tick w = record { cells = w.cells; top = w.top; host = w.host; count = suc w.count }

pub cond_yes {ℓ} : {A : Type ℓ} (b : Bool) (x y : A) → T b → cond b x y ≡ x
cond_yes true x y t = refl
cond_yes false x y t = absurd t

pub is_true : (b : Bool) → T b → b ≡ true
is_true true t = refl
is_true false t = absurd t

module _ (g : Setting) where
  -- the run at world w: its operands, bases, next instruction, with private cells L, open cells below T, and at least `low` charges made
  pub record St (B : List ℕ) (L : Private) (top low : ℕ) (ops : List ℤ) (pc : ℕ) (w : World) : Type 0 where
    pub cells : List ℤ
    pub is : g.R w.count ≡ running w ops B pc cells
    pub mem : Mem (own_cells g.b) L top cells w.cells
    pub top_is : w.top ≡ top
    pub low_is : low ≤ w.count
    pub bound : w.count ≤ g.n

  abbrev pub Ends : {A : Type 0} → Outcome A → (A → World → Type 0) → Type 0
  Ends (done a w) Q = Q a w
  Ends (cut w) Q = Follows g.b (cut w) (g.R g.n)
  Ends (fault f w) Q = Follows g.b (fault f w) (g.R g.n)

  pub ends_bind : {A B : Type 0} (P : A → World → Type 0) (Q : B → World → Type 0) (m : World → Outcome A) (k : A → World → Outcome B) (w : World) →
      Ends (m w) P → ((a : A) (v : World) → P a v → Ends (k a v) Q) → Ends ((m >>= k) w) Q
  ends_bind {A} {B} P Q m k w h f = go (m w) h
    where
      go : (o : Outcome A) → Ends o P → Ends (elim o [ done a v ↦ k a v | cut v ↦ cut v | fault e v ↦ fault e v ]) Q
      go (done a v) h = f a v h
      go (cut v) h = h
      go (fault e v) h = h

  pub ends_assoc : {A B D : Type 0} (Q : D → World → Type 0) (m : World → Outcome A) (k : A → World → Outcome B) (j : B → World → Outcome D) (w : World) →
      Ends (((m >>= k) >>= j) w) Q → Ends ((m >>= (λ a. k a >>= j)) w) Q
  ends_assoc {A} {B} {D} Q m k j w h = go (m w) h
    where
      go : (o : Outcome A) → Ends (elim (elim o as (λ x. Outcome B) [ done a v ↦ k a v | cut v ↦ cut v | fault e v ↦ fault e v ]) as (λ x. Outcome D) [ done a v ↦ j a v | cut v ↦ cut v | fault e v ↦ fault e v ]) Q →
          Ends (elim o as (λ x. Outcome D) [ done a v ↦ (k a >>= j) v | cut v ↦ cut v | fault e v ↦ fault e v ]) Q
      go (done a v) h = h
      go (cut v) h = h
      go (fault e v) h = h

  -- a run that does not go stays
  pub stays : (k d : ℕ) (s : Standing) → ((r : Run) → one_more g.code s r ≡ r) → (g.R k).standing ≡ s → g.R (k + d) ≡ g.R k
  stays k zero s h e = ap g.R (add-zero k)
  stays k (suc d) s h e =
      ap g.R (add-suc k d) ∙ g.step (k + d) ∙ ap (λ (r : Run). one_more g.code r.standing r) (stays k d s h e)
      ∙ ap (λ (x : Standing). one_more g.code x (g.R k)) e ∙ h (g.R k)

  pub stays_to : (k : ℕ) (s : Standing) → ((r : Run) → one_more g.code s r ≡ r) → (g.R k).standing ≡ s → k ≤ g.n → g.R g.n ≡ g.R k
  stays_to k s h e l = ap g.R there ∙ stays k (g.n - k) s h e
    where
      there : g.n ≡ k + (g.n - k)
      there = omega arith

  module _ (B : List ℕ) (L : Private) (top low : ℕ) (ops : List ℤ) (pc : ℕ) (w : World) (st : St B L top low ops pc w) where
    abbrev pub now : Machine
    now = mach w ops B pc st.cells

    pub cut_here : w.count ≡ g.n → Follows g.b (cut w) (g.R g.n)
    cut_here e =
        let r : g.R g.n ≡ running w ops B pc st.cells = ap g.R (sym e) ∙ st.is in
        rw r (refl, record { count = refl; host = refl; variables = mem_outer (own_cells g.b) L top st.cells w.cells st.mem })

    pub fault_here : (f : ℕ) → w.count < g.n → g.R (suc w.count) ≡ after (fails f) w.count now → Follows g.b (fault f (tick w)) (g.R g.n)
    fault_here f l e =
        let r : g.R g.n ≡ after (fails f) w.count now = stays_to (suc w.count) (failed f) (λ r. refl) (ap (λ (r : Run). r.standing) e) l ∙ e in
        rw r (refl, record { count = refl; host = refl; variables = mem_outer (own_cells g.b) L top st.cells w.cells st.mem })

    pub next_run : (i : Instruction) → fetched g.code pc ≡ Some i → g.R (suc w.count) ≡ after (effect i now) w.count now
    next_run i f =
        g.step w.count ∙ ap (λ (r : Run). one_more g.code r.standing r) st.is
        ∙ ap (λ (x : Option Instruction). after (attempted x now) w.count now) f

    -- one charge beside one instruction
    pub charged : {A : Type 0} (Q : A → World → Type 0) (k : World → Outcome A) (i : Instruction) → fetched g.code pc ≡ Some i →
        (w.count < g.n → g.R (suc w.count) ≡ after (effect i now) w.count now → Ends (k (tick w)) Q) → Ends ((charge g.n >> k) w) Q
    charged {A} Q k i f h = go (eqb w.count g.n) refl
      where
        go : (v : Bool) → eqb w.count g.n ≡ v →
            Ends (elim (elim v as (λ x. Outcome Unit) [ true ↦ cut w | false ↦ done tt (tick w) ]) as (λ x. Outcome A) [ done a v ↦ k v | cut v ↦ cut v | fault e v ↦ fault e v ]) Q
        go true e = cut_here (eqb→eq w.count g.n (subst T (sym e) tt))
        go false e = h (below (λ c. subst T e (subst (λ (x : ℕ). T (eqb x g.n)) (sym c) (eqb_refl g.n)))) (next_run i f)
          where
            below : ((w.count ≡ g.n) → ⊥) → w.count < g.n
            below q = let l : w.count ≤ g.n = st.bound in omega arith
