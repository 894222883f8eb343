-- Names bound to places in objects, beside names bound to addresses.
use Rattle.std.proofs.Common.{◌≡◌, ℕ, zero, suc, List, [], ◌∷◌, sym, refl, subst}
use Rattle.meaning.specs.Rule.{Formal, Block}
use Rattle.meaning.specs.Evaluation.{address_of}
use Rattle.meaning.specs.Evaluation as Evaluation
use Rattle.meaning.specs.Objects.{Reference, reference_of}
use Rattle.meaning.specs.Objects as Objects
use Rattle.meaning.specs.Sound.{Slot, holds, refers, takes, missing, slot, formal_slots, FitsBlock}
use Rattle.meaning.proofs.Stretches.{Layout, Grown}
use Rattle.meaning.proofs.Pairs.{PlaceAt, grown_place}

pub data Bound (P : Layout) : Objects.Env → Evaluation.Env → List Slot → Type 0 where
  no_names : Bound P [] [] []
  a_cell : {r : Reference} {a z : ℕ} {ρ : Objects.Env} {τ : Evaluation.Env} {σ : List Slot} → PlaceAt P r a z → Bound P ρ τ σ → Bound P (Objects.names r ∷ ρ) (Evaluation.at a ∷ τ) (holds z ∷ σ)
  a_reference : {r : Reference} {a z : ℕ} {ρ : Objects.Env} {τ : Evaluation.Env} {σ : List Slot} → PlaceAt P r a z → Bound P ρ τ σ → Bound P (Objects.names r ∷ ρ) (Evaluation.at a ∷ τ) (refers z ∷ σ)
  a_procedure : {fs : List Formal} {b : Block} {ρ : Objects.Env} {τ : Evaluation.Env} {σ : List Slot} (l : ℕ) → FitsBlock b (formal_slots fs (takes fs ∷ σ)) l → Bound P ρ τ σ →
      Bound P (Objects.procedure fs b ∷ ρ) (Evaluation.procedure fs b ∷ τ) (takes fs ∷ σ)

pub grown_bound : (P Q : Layout) {ρ : Objects.Env} {τ : Evaluation.Env} {σ : List Slot} → Grown P Q → Bound P ρ τ σ → Bound Q ρ τ σ
grown_bound P Q g no_names = no_names
grown_bound P Q g (a_cell {r} {a} {z} p n) = a_cell (grown_place P Q r a z g p) (grown_bound P Q g n)
grown_bound P Q g (a_reference {r} {a} {z} p n) = a_reference (grown_place P Q r a z g p) (grown_bound P Q g n)
grown_bound P Q g (a_procedure l f n) = a_procedure l f (grown_bound P Q g n)

-- the name of a thing with z cells
abbrev Cells : Slot → ℕ → Type 0
Cells (holds y) z = y ≡ z
Cells (refers y) z = y ≡ z
Cells (takes fs) z = ⊥
Cells missing z = ⊥

of_cells : (P : Layout) {ρ : Objects.Env} {τ : Evaluation.Env} {σ : List Slot} (i z : ℕ) → Bound P ρ τ σ → Cells (slot σ i) z → PlaceAt P (reference_of ρ i) (address_of τ i) z
of_cells P i z no_names c = absurd c
of_cells P zero z (a_cell {r} {a} p n) c = subst (λ y. PlaceAt P r a y) c p
of_cells P zero z (a_reference {r} {a} p n) c = subst (λ y. PlaceAt P r a y) c p
of_cells P zero z (a_procedure l f n) c = absurd c
of_cells P (suc i) z (a_cell p n) c = of_cells P i z n c
of_cells P (suc i) z (a_reference p n) c = of_cells P i z n c
of_cells P (suc i) z (a_procedure l f n) c = of_cells P i z n c

pub of_variable : (P : Layout) {ρ : Objects.Env} {τ : Evaluation.Env} {σ : List Slot} (i z : ℕ) → Bound P ρ τ σ → slot σ i ≡ holds z → PlaceAt P (reference_of ρ i) (address_of τ i) z
of_variable P i z n e = of_cells P i z n (subst (λ x. Cells x z) (sym e) refl)

pub of_reference : (P : Layout) {ρ : Objects.Env} {τ : Evaluation.Env} {σ : List Slot} (i z : ℕ) → Bound P ρ τ σ → slot σ i ≡ refers z → PlaceAt P (reference_of ρ i) (address_of τ i) z
of_reference P i z n e = of_cells P i z n (subst (λ x. Cells x z) (sym e) refl)
