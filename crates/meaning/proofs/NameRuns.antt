-- The names that a block declares, beside their entries in the code's scope.
use Rattle.std.proofs.Common.{◌≡◌, ℕ, suc, ◌+◌, ◌≤◌, List, [], ◌∷◌, ◌++◌, get_or, refl, arith}
use Rattle.machine.specs.declared.instruction.Instruction.{Instruction}
use Rattle.machine.specs.declared.instruction.Instruction.TheVariants.{Leave}
use Rattle.meaning.specs.Rule.{Formal, Declarations, Block}
use Rattle.meaning.specs.Rule as Rule
use Rattle.meaning.specs.Evaluation.{Env, own_size, frame_size, formals_size}
use Rattle.meaning.specs.Evaluation as Evaluation
use Rattle.meaning.specs.Code.{Scope, declared, block, procs_block, procs_declared, block_length, block_procs}
use Rattle.meaning.specs.Code as Code
use Rattle.meaning.specs.Sound.{Slot, holds, refers, takes, missing, slots, formal_slots, FitsDeclarations, declarations_need}
use Rattle.meaning.proofs.Cells.{Private, Free}
use Rattle.meaning.proofs.Scopes.{Sits, sits_left, sits_right, sits_at, Below, Proc, inside, Rel, RelProc, RelCell}
use Rattle.meaning.proofs.Lengths.{Shape, ShapeEntry, shape_formals, block_long, procs_block_long}

pub below_declared : (ds : Declarations) (l k t : ℕ) (Γ : Scope) → Below (suc l) Γ → Below (suc l) (declared ds l k t Γ)
below_declared Rule.none l k t Γ b = b
below_declared (Rule.local s ds) l k t Γ b = below_declared ds l (k + s) t (Code.at l k ∷ Γ) (omega arith, b)
below_declared (Rule.proc fs c ds) l k t Γ b = below_declared ds l k (t + (block_length c + 1 + block_procs c)) (Code.procedure fs (frame_size fs c) (suc l) t ∷ Γ) b

module _ (C : List Instruction) (B : List ℕ) (L : Private) (T : ℕ) where
  cell_shape : (l k a : ℕ) (x : Slot) → RelCell C B L T l k a x → ShapeEntry (Code.at l k) x
  cell_shape l k a (holds s) r = tt
  cell_shape l k a (refers s) r = tt
  cell_shape l k a (takes fs) r = r
  cell_shape l k a missing r = r

  proc_shape : (Γ : Scope) (σ : List Slot) (fs : List Formal) (sz lv t : ℕ) (fs' : List Formal) (b : Block) (x : Slot) → RelProc C Γ σ fs sz lv t fs' b x → ShapeEntry (Code.procedure fs sz lv t) x
  proc_shape Γ σ fs sz lv t fs' b (holds s) r = r
  proc_shape Γ σ fs sz lv t fs' b (refers s) r = r
  proc_shape Γ σ fs sz lv t fs' b (takes f) r = r.1
  proc_shape Γ σ fs sz lv t fs' b missing r = r

  pub rel_shape : (Γ : Scope) (ρ : Env) (σ : List Slot) → Rel C B L T Γ ρ σ → Shape Γ σ
  rel_shape [] [] [] r = tt
  rel_shape [] [] (x ∷ σ) r = r
  rel_shape [] (b ∷ ρ) σ r = absurd r
  rel_shape (e ∷ Γ) [] σ r = absurd r
  rel_shape (e ∷ Γ) (b ∷ ρ) [] r = absurd r
  rel_shape (Code.at l k ∷ Γ) (Evaluation.at a ∷ ρ) (x ∷ σ) r = (cell_shape l k a x r.0, rel_shape Γ ρ σ r.1)
  rel_shape (Code.at l k ∷ Γ) (Evaluation.procedure fs b ∷ ρ) (x ∷ σ) r = absurd r.0
  rel_shape (Code.procedure fs sz lv t ∷ Γ) (Evaluation.at a ∷ ρ) (x ∷ σ) r = absurd r.0
  rel_shape (Code.procedure fs sz lv t ∷ Γ) (Evaluation.procedure fs' b ∷ ρ) (x ∷ σ) r = (proc_shape Γ σ fs sz lv t fs' b x r.0, rel_shape Γ ρ σ r.1)

  pub rel_declared : (n : ℕ) (ds : Declarations) (Γ : Scope) (ρ : Env) (σ : List Slot) (l k a t : ℕ) → Rel C B L T Γ ρ σ → Below (suc l) Γ → a ≡ get_or B l 0 + k → a + own_size ds ≤ T → Free L a (own_size ds) →
      Sits C (procs_declared ds Γ l k t) t → FitsDeclarations ds σ l → declarations_need ds ≤ 128 → Rel C B L T (declared ds l k t Γ) (Evaluation.declared n ds a ρ) (slots ds σ)
  rel_declared n Rule.none Γ ρ σ l k a t r b e h f c z q = r
  rel_declared n (Rule.local s ds) Γ ρ σ l k a t r b e h f c z q =
      rel_declared n ds (Code.at l k ∷ Γ) (Evaluation.at a ∷ ρ) (holds s ∷ σ) l (k + s) (a + s) t ((e, omega arith, λ i u v. f i u (omega arith)), r) (omega arith, b) (omega arith) (omega arith)
      (λ i u v. f i (omega arith) (omega arith)) c z q
  rel_declared n (Rule.proc fs d ds) Γ ρ σ l k a t r b e h f c z q =
      rel_declared n ds here (Evaluation.procedure fs d ∷ ρ) (takes fs ∷ σ) l k a (t + (block_length d + 1 + block_procs d)) ((refl, refl, proc), r) b e h f after z.2 (omega arith)
    where
      here : Scope
      here = Code.procedure fs (frame_size fs d) (suc l) t ∷ Γ

      within : Scope
      within = inside fs (frame_size fs d) (suc l) t Γ

      σ' : List Slot
      σ' = formal_slots fs (takes fs ∷ σ)

      shape : Shape within σ'
      shape = shape_formals fs (suc l) 2 here (takes fs ∷ σ) (refl, rel_shape Γ ρ σ r)

      body : List Instruction
      body = block d within (suc l) (2 + formals_size fs) t (t + (block_length d + 1))

      inner : List Instruction
      inner = procs_block d within (suc l) (2 + formals_size fs) (t + (block_length d + 1))

      others : List Instruction
      others = procs_declared ds here l k (t + (block_length d + 1 + block_procs d))

      tail : Sits C (Leave (suc l) ∷ (inner ++ others)) (t + block_length d)
      tail = sits_right C body (Leave (suc l) ∷ (inner ++ others)) t (block_length d) (block_long d within σ' (suc l) (2 + formals_size fs) t (t + (block_length d + 1)) shape z.1) c

      two : Sits C (inner ++ others) (t + (block_length d + 1))
      two = sits_at C (inner ++ others) (suc (t + block_length d)) (t + (block_length d + 1)) (omega arith) tail.1

      after : Sits C others (t + (block_length d + 1 + block_procs d))
      after = sits_at C others (t + (block_length d + 1) + block_procs d) (t + (block_length d + 1 + block_procs d)) (omega arith)
          (sits_right C inner others (t + (block_length d + 1)) (block_procs d) (procs_block_long d within σ' (suc l) (2 + formals_size fs) (t + (block_length d + 1)) shape z.1) two)

      proc : Proc C Γ σ fs (frame_size fs d) (suc l) t d
      proc = record {
        size = refl;
        level = z.0;
        below = b;
        fits = z.1;
        needs = omega arith;
        body = sits_left C body (Leave (suc l) ∷ (inner ++ others)) t c;
        leave = tail.0;
        inner = sits_left C inner others (t + (block_length d + 1)) two;
      }
