-- Where code sits, and names: a scope of the code beside an environment of the evaluation and the slots of the checks.
use Rattle.std.proofs.Common.{◌≡◌, ℕ, zero, suc, ◌+◌, ◌<◌, ◌≤◌, List, [], ◌∷◌, ◌++◌, length, get_or, ℤ, pos, Some, refl, subst, arith}
use Rattle.machine.specs.declared.instruction.Instruction.{Instruction}
use Rattle.machine.specs.declared.instruction.Instruction.TheVariants.{Leave}
use Rattle.meaning.specs.Rule.{Block, Formal}
use Rattle.meaning.specs.Evaluation.{Binding, Env, frame_size, formals_size, address_of}
use Rattle.meaning.specs.Evaluation as Evaluation
use Rattle.machine.specs.Machine.{fetched}
use Rattle.meaning.specs.Code.{Entry, Scope, entry_of, block, procs_block, block_length, formals}
use Rattle.meaning.specs.Code as Code
use Rattle.meaning.specs.Sound.{Slot, holds, refers, takes, missing, slot, FitsBlock, block_need, formal_slots}
use Rattle.meaning.proofs.Cells.{Private, Kept, Free, Ext}

abbrev pub Sits : List Instruction → List Instruction → ℕ → Type 0
Sits C [] pc = Unit {0}
Sits C (x ∷ c) pc = (fetched C pc ≡ Some x) × Sits C c (suc pc)

pub sits_at : (C c : List Instruction) (p q : ℕ) → p ≡ q → Sits C c p → Sits C c q
sits_at C c p q e h = subst (λ (k : ℕ). Sits C c k) e h

pub sits_left : (C c d : List Instruction) (pc : ℕ) → Sits C (c ++ d) pc → Sits C c pc
sits_left C [] d pc h = tt
sits_left C (x ∷ c) d pc h = (h.0, sits_left C c d (suc pc) h.1)

pub sits_right : (C c d : List Instruction) (pc k : ℕ) → length c ≡ k → Sits C (c ++ d) pc → Sits C d (pc + k)
sits_right C [] d pc k e h = sits_at C d pc (pc + k) (omega arith) h
sits_right C (x ∷ c) d pc k e h = sits_at C d (suc pc + length c) (pc + k) (there (length c) e) (sits_right C c d (suc pc) (length c) refl h.1)
  where
    there : (l : ℕ) → suc l ≡ k → suc pc + l ≡ pc + k
    there l q = omega arith

pub fetched_at : (c d : List Instruction) (x : Instruction) → fetched (c ++ (x ∷ d)) (length c) ≡ Some x
fetched_at [] d x = refl
fetched_at (y ∷ c) d x = fetched_at c d x

-- levels below m
abbrev pub Below : ℕ → Scope → Type 0
Below m [] = Unit {0}
Below m (Code.at l k ∷ Γ) = (l < m) × Below m Γ
Below m (Code.procedure fs sz lv t ∷ Γ) = Below m Γ

pub below_more : (m k : ℕ) (Γ : Scope) → m ≤ k → Below m Γ → Below k Γ
below_more m k [] h b = tt
below_more m k (Code.at l j ∷ Γ) h b = (less b.0, below_more m k Γ h b.1)
  where
    less : l < m → l < k
    less q = omega arith
below_more m k (Code.procedure fs sz lv t ∷ Γ) h b = below_more m k Γ h b

-- the names' frames have the same bases
abbrev pub Fixed : List ℕ → List ℕ → Scope → Type 0
Fixed B B' [] = Unit {0}
Fixed B B' (Code.at l k ∷ Γ) = (get_or B' l 0 ≡ get_or B l 0) × Fixed B B' Γ
Fixed B B' (Code.procedure fs sz lv t ∷ Γ) = Fixed B B' Γ

pub fixed_same : (B : List ℕ) (Γ : Scope) → Fixed B B Γ
fixed_same B [] = tt
fixed_same B (Code.at l k ∷ Γ) = (refl, fixed_same B Γ)
fixed_same B (Code.procedure fs sz lv t ∷ Γ) = fixed_same B Γ

pub fixed_below : (B B' : List ℕ) (m : ℕ) → ((l : ℕ) → l < m → get_or B' l 0 ≡ get_or B l 0) → (Γ : Scope) → Below m Γ → Fixed B B' Γ
fixed_below B B' m q [] b = tt
fixed_below B B' m q (Code.at l k ∷ Γ) b = (q l b.0, fixed_below B B' m q Γ b.1)
fixed_below B B' m q (Code.procedure fs sz lv t ∷ Γ) b = fixed_below B B' m q Γ b

abbrev pub inside : List Formal → ℕ → ℕ → ℕ → Scope → Scope
inside fs sz lv t Γ = formals fs lv 2 (Code.procedure fs sz lv t ∷ Γ)

module _ (C : List Instruction) where
  -- a procedure of body b, whose declaration stands over the scope Γ
  pub record Proc (Γ : Scope) (σ : List Slot) (fs : List Formal) (sz lv t : ℕ) (b : Block) : Type 0 where
    pub size : sz ≡ frame_size fs b
    pub level : lv ≤ 8
    pub below : Below lv Γ
    pub fits : FitsBlock b (formal_slots fs (takes fs ∷ σ)) lv
    pub needs : block_need b ≤ 128
    pub body : Sits C (block b (inside fs sz lv t Γ) lv (2 + formals_size fs) t (t + (block_length b + 1))) t
    pub leave : fetched C (t + block_length b) ≡ Some (Leave lv)
    pub inner : Sits C (procs_block b (inside fs sz lv t Γ) lv (2 + formals_size fs) (t + (block_length b + 1))) (t + (block_length b + 1))

  abbrev pub RelProc : Scope → List Slot → List Formal → ℕ → ℕ → ℕ → List Formal → Block → Slot → Type 0
  RelProc Γ σ fs sz lv t fs' b (holds s) = ⊥
  RelProc Γ σ fs sz lv t fs' b (refers s) = ⊥
  RelProc Γ σ fs sz lv t fs' b (takes fs'') = (fs' ≡ fs) × (fs'' ≡ fs) × Proc Γ σ fs sz lv t b
  RelProc Γ σ fs sz lv t fs' b missing = ⊥

  module _ (B : List ℕ) (L : Private) (T : ℕ) where
    abbrev pub RelCell : ℕ → ℕ → ℕ → Slot → Type 0
    RelCell l k a (holds s) = (a ≡ get_or B l 0 + k) × (a + s ≤ T) × Free L a s
    RelCell l k a (refers s) = (get_or B l 0 + k < T) × ((M : List ℤ) → Kept L M → get_or M (get_or B l 0 + k) (pos 0) ≡ pos a) × (a + s ≤ T) × Free L a s
    RelCell l k a (takes fs) = ⊥
    RelCell l k a missing = ⊥

    abbrev pub RelEntry : Scope → List Slot → Entry → Binding → Slot → Type 0
    RelEntry Γ σ (Code.at l k) (Evaluation.at a) x = RelCell l k a x
    RelEntry Γ σ (Code.at l k) (Evaluation.procedure fs b) x = ⊥
    RelEntry Γ σ (Code.procedure fs sz lv t) (Evaluation.at a) x = ⊥
    RelEntry Γ σ (Code.procedure fs sz lv t) (Evaluation.procedure fs' b) x = RelProc Γ σ fs sz lv t fs' b x

    abbrev pub Rel : Scope → Env → List Slot → Type 0
    Rel [] [] [] = Unit {0}
    Rel [] [] (x ∷ σ) = ⊥
    Rel [] (b ∷ ρ) σ = ⊥
    Rel (e ∷ Γ) [] σ = ⊥
    Rel (e ∷ Γ) (b ∷ ρ) [] = ⊥
    Rel (e ∷ Γ) (b ∷ ρ) (x ∷ σ) = RelEntry Γ σ e b x × Rel Γ ρ σ

    abbrev pub IsCell : Slot → Type 0
    IsCell (holds s) = Unit {0}
    IsCell (refers s) = Unit {0}
    IsCell (takes fs) = ⊥
    IsCell missing = ⊥

    pub record Found (Γ : Scope) (ρ : Env) (i : ℕ) (x : Slot) : Type 0 where
      pub l : ℕ
      pub k : ℕ
      pub seen_is : entry_of Γ i ≡ Code.at l k
      pub cell : RelCell l k (address_of ρ i) x

    no_proc : (Γ : Scope) (σ : List Slot) (fs : List Formal) (sz lv t : ℕ) (fs' : List Formal) (b : Block) (x : Slot) → IsCell x → RelProc Γ σ fs sz lv t fs' b x → ⊥
    no_proc Γ σ fs sz lv t fs' b (holds s) c r = r
    no_proc Γ σ fs sz lv t fs' b (refers s) c r = r
    no_proc Γ σ fs sz lv t fs' b (takes f) c r = c
    no_proc Γ σ fs sz lv t fs' b missing c r = r

    pub found_cell : (Γ : Scope) (ρ : Env) (σ : List Slot) (i : ℕ) → Rel Γ ρ σ → IsCell (slot σ i) → Found Γ ρ i (slot σ i)
    found_cell [] [] [] i r c = absurd c
    found_cell [] [] (x ∷ σ) i r c = absurd r
    found_cell [] (b ∷ ρ) σ i r c = absurd r
    found_cell (e ∷ Γ) [] σ i r c = absurd r
    found_cell (e ∷ Γ) (b ∷ ρ) [] i r c = absurd r
    found_cell (Code.at l k ∷ Γ) (Evaluation.at a ∷ ρ) (x ∷ σ) zero r c = record { l = l; k = k; seen_is = refl; cell = r.0 }
    found_cell (Code.at l k ∷ Γ) (Evaluation.procedure fs b ∷ ρ) (x ∷ σ) zero r c = absurd r.0
    found_cell (Code.procedure fs sz lv t ∷ Γ) (Evaluation.at a ∷ ρ) (x ∷ σ) zero r c = absurd r.0
    found_cell (Code.procedure fs sz lv t ∷ Γ) (Evaluation.procedure fs' b ∷ ρ) (x ∷ σ) zero r c = absurd (no_proc Γ σ fs sz lv t fs' b x c r.0)
    found_cell (e ∷ Γ) (b ∷ ρ) (x ∷ σ) (suc i) r c =
        let f = found_cell Γ ρ σ i r.1 c in record { l = f.l; k = f.k; seen_is = f.seen_is; cell = f.cell }

  -- names keep their cells while other frames open
  pub cell_more : (B : List ℕ) (L : Private) (T : ℕ) (B' : List ℕ) (L' : Private) (T' : ℕ) → T ≤ T' → Ext L T L' →
      (l k a : ℕ) (x : Slot) → get_or B' l 0 ≡ get_or B l 0 → RelCell B L T l k a x → RelCell B' L' T' l k a x
  cell_more B L T B' L' T' h e l k a (holds s) q r = (rw q r.0, omega (arith, r.1), λ i u v. e.off i (omega (arith, r.1)) (r.2 i u v))
  cell_more B L T B' L' T' h e l k a (refers s) q r =
      (rw q (omega (arith, r.0)), rw q (λ M m. r.1 M (e.kept M m)), omega (arith, r.2), λ i u v. e.off i (omega (arith, r.2)) (r.3 i u v))
  cell_more B L T B' L' T' h e l k a (takes fs) q r = r
  cell_more B L T B' L' T' h e l k a missing q r = r

  pub rel_more : (B : List ℕ) (L : Private) (T : ℕ) (B' : List ℕ) (L' : Private) (T' : ℕ) → T ≤ T' → Ext L T L' →
      (Γ : Scope) (ρ : Env) (σ : List Slot) → Fixed B B' Γ → Rel B L T Γ ρ σ → Rel B' L' T' Γ ρ σ
  rel_more B L T B' L' T' h e [] [] [] z r = tt
  rel_more B L T B' L' T' h e [] [] (x ∷ σ) z r = r
  rel_more B L T B' L' T' h e [] (b ∷ ρ) σ z r = r
  rel_more B L T B' L' T' h e (c ∷ Γ) [] σ z r = absurd r
  rel_more B L T B' L' T' h e (c ∷ Γ) (b ∷ ρ) [] z r = absurd r
  rel_more B L T B' L' T' h e (Code.at l k ∷ Γ) (Evaluation.at a ∷ ρ) (x ∷ σ) z r =
      (cell_more B L T B' L' T' h e l k a x z.0 r.0, rel_more B L T B' L' T' h e Γ ρ σ z.1 r.1)
  rel_more B L T B' L' T' h e (Code.at l k ∷ Γ) (Evaluation.procedure fs b ∷ ρ) (x ∷ σ) z r = absurd r.0
  rel_more B L T B' L' T' h e (Code.procedure fs sz lv t ∷ Γ) (Evaluation.at a ∷ ρ) (x ∷ σ) z r = absurd r.0
  rel_more B L T B' L' T' h e (Code.procedure fs sz lv t ∷ Γ) (Evaluation.procedure fs' b ∷ ρ) (x ∷ σ) z r =
      (r.0, rel_more B L T B' L' T' h e Γ ρ σ z r.1)
