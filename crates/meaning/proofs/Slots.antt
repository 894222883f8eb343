-- A typing scope as the slots that its names stand for.
use Rattle.std.proofs.Common.{◌≡◌, ℕ, ◌+◌, Bool, true, false, cond, List, [], ◌∷◌, ◌++◌, refl, ap, zero-add, one-add}
use Rattle.tiny.specs.Tree.{Name}
use Rattle.meaning.specs.Rule.{Formal}
use Rattle.meaning.specs.Rule as Rule
use Rattle.meaning.specs.Types.{Ty, size, Meaning, variable, reference, type_name, procedure, Scope, same_name, meaning_of, number_of, counts}
use Rattle.meaning.specs.Sound.{Slot, holds, refers, takes, missing, slot}

abbrev pub slotted : Meaning → List Slot → List Slot
slotted (variable t) σ = holds (size t) ∷ σ
slotted (reference t) σ = refers (size t) ∷ σ
slotted (type_name t) σ = σ
slotted (procedure fs ts) σ = takes fs ∷ σ
slotted Meaning.unsound σ = missing ∷ σ

abbrev pub slots_over : Scope → List Slot → List Slot
slots_over [] σ = σ
slots_over (d ∷ Γ) σ = slotted d.meaning (slots_over Γ σ)

abbrev pub slots_of : Scope → List Slot
slots_of Γ = slots_over Γ []

pub slots_append : (Δ Γ : Scope) (σ : List Slot) → slots_over (Δ ++ Γ) σ ≡ slots_over Δ (slots_over Γ σ)
slots_append [] Γ σ = refl
slots_append (d ∷ Δ) Γ σ = ap (slotted d.meaning) (slots_append Δ Γ σ)

-- what a name means and the slot that its number finds
abbrev pub Stands : Meaning → Slot → Type 0
Stands (variable t) s = s ≡ holds (size t)
Stands (reference t) s = s ≡ refers (size t)
Stands (type_name t) s = Unit {0}
Stands (procedure fs ts) s = s ≡ takes fs
Stands Meaning.unsound s = Unit {0}

here : (m : Meaning) (σ : List Slot) → Stands m (slot (slotted m σ) 0)
here (variable t) σ = refl
here (reference t) σ = refl
here (type_name t) σ = tt
here (procedure fs ts) σ = refl
here Meaning.unsound σ = tt

there : (m : Meaning) (σ : List Slot) (n : ℕ) → slot (slotted m σ) (counts m + n) ≡ slot σ n
there (variable t) σ n = rw one-add
there (reference t) σ n = rw one-add
there (type_name t) σ n = rw zero-add
there (procedure fs ts) σ n = rw one-add
there Meaning.unsound σ n = rw one-add

pub found : (x : Name) (Γ : Scope) → Stands (meaning_of x Γ) (slot (slots_of Γ) (number_of x Γ))
found x [] = tt
found x (d ∷ Γ) = at (same_name x d.name) d.meaning (slots_of Γ) (number_of x Γ) (meaning_of x Γ) (found x Γ)
  where
    at : (b : Bool) (m : Meaning) (σ : List Slot) (n : ℕ) (k : Meaning) → Stands k (slot σ n) →
        Stands (cond b m k) (slot (slotted m σ) (cond b 0 (counts m + n)))
    at true m σ n k h = here m σ
    at false m σ n k h = rw (there m σ n) h

-- the formals of a procedure are those of its types
abbrev pub cells_of : Formal → ℕ
cells_of (Rule.by_value s) = s
cells_of (Rule.by_reference s) = s

abbrev pub Paired : List Formal → List Ty → Type 0
Paired [] [] = Unit {0}
Paired [] (t ∷ ts) = ⊥
Paired (f ∷ fs) [] = ⊥
Paired (f ∷ fs) (t ∷ ts) = (cells_of f ≡ size t) × Paired fs ts

abbrev pub Proper : Meaning → Type 0
Proper (variable t) = Unit {0}
Proper (reference t) = Unit {0}
Proper (type_name t) = Unit {0}
Proper (procedure fs ts) = Paired fs ts
Proper Meaning.unsound = Unit {0}

abbrev pub AllProper : Scope → Type 0
AllProper [] = Unit {0}
AllProper (d ∷ Γ) = Proper d.meaning × AllProper Γ

pub proper_append : (Δ Γ : Scope) → AllProper Δ → AllProper Γ → AllProper (Δ ++ Γ)
proper_append [] Γ h k = k
proper_append (d ∷ Δ) Γ h k = (h.0, proper_append Δ Γ h.1 k)

pub proper_meaning : (x : Name) (Γ : Scope) → AllProper Γ → Proper (meaning_of x Γ)
proper_meaning x [] h = tt
proper_meaning x (d ∷ Γ) h = at (same_name x d.name) d.meaning (meaning_of x Γ) h.0 (proper_meaning x Γ h.1)
  where
    at : (b : Bool) (m k : Meaning) → Proper m → Proper k → Proper (cond b m k)
    at true m k p q = p
    at false m k p q = q
