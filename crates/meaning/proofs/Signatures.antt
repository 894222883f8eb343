-- Declarations keep a scope proper; a procedure's formals stand in its scope as its signature says.
use Rattle.std.proofs.Common.{◌≡◌, Bool, true, false, List, [], refl}
use Rattle.tiny.specs.Tree.{Name, Formals, DeclarationTrees}
use Rattle.tiny.specs.Tree as Tree
use Rattle.meaning.specs.Types.{Meaning, variable, reference, type_name, procedure, Typed, Scope, type_of}
use Rattle.meaning.specs.Types as Types
use Rattle.meaning.specs.Statements.{declare, meant, passed, still, seen_by, with_formal, signature_from, formals_from, plain, signature_of, procedure_scope, inside, scope_of}
use Rattle.meaning.specs.Sound.{Slot, formal_slots}
use Rattle.meaning.proofs.Slots.{slotted, slots_over, slots_of, slots_append, Paired, Proper, AllProper, proper_append}

-- Δ: the formals so far; Δ': all of them
abbrev pub Signed : Meaning → Scope → Scope → Type 0
Signed (variable t) Δ Δ' = Unit {0}
Signed (reference t) Δ Δ' = Unit {0}
Signed (type_name t) Δ Δ' = Unit {0}
Signed (procedure fs ts) Δ Δ' = Paired fs ts × ((σ : List Slot) → formal_slots fs (slots_over Δ σ) ≡ slots_over Δ' σ)
Signed Meaning.unsound Δ Δ' = Unit {0}

formal_signed : (x : Name) (r : Bool) (t : Typed) (m : Meaning) (Δ Δ' : Scope) → Signed m (declare x (meant t (passed r)) Δ) Δ' → Signed (with_formal r t m) Δ Δ'
formal_signed x true (Types.Typed.sound t) (procedure fs ts) Δ Δ' h = ((refl, h.0), h.1)
formal_signed x false (Types.Typed.sound t) (procedure fs ts) Δ Δ' h = ((refl, h.0), h.1)
formal_signed x r (Types.Typed.sound t) (variable u) Δ Δ' h = tt
formal_signed x r (Types.Typed.sound t) (reference u) Δ Δ' h = tt
formal_signed x r (Types.Typed.sound t) (type_name u) Δ Δ' h = tt
formal_signed x r (Types.Typed.sound t) Meaning.unsound Δ Δ' h = tt
formal_signed x r (Types.Typed.broken n) m Δ Δ' h = tt
formal_signed x r Types.Typed.unsound m Δ Δ' h = tt

pub signed : (fs : Formals) (f : Name) (m : Meaning) (Δ Γ : Scope) → Signed (signature_from fs f m Δ Γ) Δ (formals_from fs f m Δ Γ)
signed Tree.no_formal f m Δ Γ = (tt, λ σ. refl)
signed (Tree.formal t r at x fs) f m Δ Γ =
    let typed : Typed = type_of t (seen_by f m Δ Γ) in
    formal_signed x r typed _ Δ _ (signed fs f (still m typed) (declare x (meant typed (passed r)) Δ) Γ)

-- what stands inside a procedure
pub inside_slots : (x : Name) (fs : Formals) (Γ : Scope) →
    slots_of (inside x fs Γ) ≡ slots_over (formals_from fs x plain [] Γ) (slotted (signature_of x fs Γ) (slots_of Γ))
inside_slots x fs Γ = slots_append (formals_from fs x plain [] Γ) (procedure_scope x fs Γ) []

proper_signature : (m : Meaning) (Δ Δ' : Scope) → Signed m Δ Δ' → Proper m
proper_signature (variable t) Δ Δ' h = tt
proper_signature (reference t) Δ Δ' h = tt
proper_signature (type_name t) Δ Δ' h = tt
proper_signature (procedure fs ts) Δ Δ' h = h.0
proper_signature Meaning.unsound Δ Δ' h = tt

proper_passed : (r : Bool) (t : Typed) → Proper (meant t (passed r))
proper_passed true (Types.Typed.sound t) = tt
proper_passed false (Types.Typed.sound t) = tt
proper_passed r (Types.Typed.broken n) = tt
proper_passed r Types.Typed.unsound = tt

proper_variable : (t : Typed) → Proper (meant t variable)
proper_variable (Types.Typed.sound t) = tt
proper_variable (Types.Typed.broken n) = tt
proper_variable Types.Typed.unsound = tt

proper_type_name : (t : Typed) → Proper (meant t type_name)
proper_type_name (Types.Typed.sound t) = tt
proper_type_name (Types.Typed.broken n) = tt
proper_type_name Types.Typed.unsound = tt

proper_formals : (fs : Formals) (f : Name) (m : Meaning) (Δ Γ : Scope) → AllProper Δ → AllProper (formals_from fs f m Δ Γ)
proper_formals Tree.no_formal f m Δ Γ h = h
proper_formals (Tree.formal t r at x fs) f m Δ Γ h =
    let typed : Typed = type_of t (seen_by f m Δ Γ) in
    proper_formals fs f (still m typed) (declare x (meant typed (passed r)) Δ) Γ (proper_passed r typed, h)

pub proper_procedure : (x : Name) (fs : Formals) (Γ : Scope) → AllProper Γ → AllProper (procedure_scope x fs Γ)
proper_procedure x fs Γ h = (proper_signature (signature_of x fs Γ) [] _ (signed fs x plain [] Γ), h)

pub proper_inside : (x : Name) (fs : Formals) (Γ : Scope) → AllProper Γ → AllProper (inside x fs Γ)
proper_inside x fs Γ h = proper_append (formals_from fs x plain [] Γ) (procedure_scope x fs Γ) (proper_formals fs x plain [] Γ tt) (proper_procedure x fs Γ h)

pub proper_local : (x : Name) (t : Typed) (Γ : Scope) → AllProper Γ → AllProper (declare x (meant t variable) Γ)
proper_local x t Γ h = (proper_variable t, h)

pub proper_type : (x : Name) (t : Typed) (Γ : Scope) → AllProper Γ → AllProper (declare x (meant t type_name) Γ)
proper_type x t Γ h = (proper_type_name t, h)

pub proper_scope : (ds : DeclarationTrees) (Γ : Scope) → AllProper Γ → AllProper (scope_of ds Γ)
proper_scope Tree.no_declaration Γ h = h
proper_scope (Tree.variable t at x ds) Γ h = proper_scope ds _ (proper_local x (type_of t Γ) Γ h)
proper_scope (Tree.type_name t at x ds) Γ h = proper_scope ds _ (proper_type x (type_of t Γ) Γ h)
proper_scope (Tree.procedure at x fs b ds) Γ h = proper_scope ds _ (proper_procedure x fs Γ h)
