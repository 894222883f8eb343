-- The arguments of a sound call fit the formals of the procedure.
use Rattle.std.proofs.Common.{◌≡◌, ℕ, ◌≤◌, List, [], ◌∷◌, sym, ◌∙◌, subst, arith}
use Rattle.tiny.specs.Tree.{Expression}
use Rattle.meaning.specs.Rule.{Formal}
use Rattle.meaning.specs.Rule as Rule
use Rattle.meaning.specs.Types.{Ty, size, fits, scalar, Scope, Form, place, value, copies, Formed, read_of}
use Rattle.meaning.specs.Types as Types
use Rattle.meaning.specs.Statements.{Given, argument, aggregate, given_one, given, join, forms_of}
use Rattle.meaning.specs.Statements as Statements
use Rattle.meaning.specs.Stages.{deep, deep_all}
use Rattle.meaning.specs.Sound.{Slot, FitsPlace, FitsArguments, arguments_need}
use Rattle.meaning.proofs.Nil.{Nil, nil_left, nil_right, either}
use Rattle.meaning.proofs.Slots.{slots_of, cells_of, Paired}
use Rattle.meaning.proofs.Forms.{Held, HeldFormed, read_held, form_held, fits_size, scalar_size}

abbrev pub HeldGiven : List Formal → Given → List Slot → Type 0
HeldGiven fs (Statements.Given.sound xs) σ = FitsArguments fs xs σ × (arguments_need xs ≤ 97)
HeldGiven fs (Statements.Given.broken n) σ = Unit {0}
HeldGiven fs Statements.Given.unsound σ = Unit {0}

scalar_held : (f : Formal) (t u : Ty) (g : Form) (σ : List Slot) (d : ℕ) → cells_of f ≡ size t → size t ≡ size u → size t ≡ 1 → Held g u σ d →
    HeldGiven (f ∷ []) (argument f g (Rule.value (read_of g))) σ
scalar_held (Rule.by_value s) t u g σ d c e o h =
    let r = read_held g u σ d h (sym e ∙ o) in (((c ∙ o, r.0), tt), omega arith)
scalar_held (Rule.by_reference s) t u (place p) σ d c e o h = ((subst (λ (n : ℕ). FitsPlace p σ n) (sym e ∙ sym c) h.0, tt), omega arith)
scalar_held (Rule.by_reference s) t u (value v) σ d c e o h = tt
scalar_held (Rule.by_reference s) t u (copies p q n) σ d c e o h = tt

aggregate_held : (f : Formal) (t u : Ty) (g : Form) (σ : List Slot) (d : ℕ) → cells_of f ≡ size t → size t ≡ size u → Held g u σ d →
    HeldGiven (f ∷ []) (aggregate f g t) σ
aggregate_held (Rule.by_value s) t u (place p) σ d c e h =
    (((sym c, subst (λ (n : ℕ). FitsPlace p σ n) (sym e ∙ sym c) h.0), tt), omega arith)
aggregate_held (Rule.by_reference s) t u (place p) σ d c e h = ((subst (λ (n : ℕ). FitsPlace p σ n) (sym e ∙ sym c) h.0, tt), omega arith)
aggregate_held f t u (value v) σ d c e h = tt
aggregate_held f t u (copies p q n) σ d c e h = tt

one_held : (f : Formal) (t u : Ty) (g : Form) (σ : List Slot) (d : ℕ) → cells_of f ≡ size t → Held g u σ d → HeldGiven (f ∷ []) (given_one f t g u) σ
one_held f t u g σ d c h =
    either (λ x. HeldGiven (f ∷ []) x σ) (fits t u) _ _ (λ same.
    either (λ x. HeldGiven (f ∷ []) x σ) (scalar t) _ _
    (λ s. scalar_held f t u g σ d c (fits_size t u same) (scalar_size t s) h)
    (aggregate_held f t u g σ d c (fits_size t u same) h)) tt

join_held : (f : Formal) (fs : List Formal) (x y : Given) (σ : List Slot) → HeldGiven (f ∷ []) x σ → HeldGiven fs y σ → HeldGiven (f ∷ fs) (join x y) σ
join_held f fs (Statements.Given.sound []) (Statements.Given.sound ys) σ h k = absurd h.0
join_held f fs (Statements.Given.sound (x ∷ [])) (Statements.Given.sound ys) σ h k = ((h.0.0, k.0), omega arith)
join_held f fs (Statements.Given.sound (x ∷ (z ∷ xs))) (Statements.Given.sound ys) σ h k = absurd h.0.1
join_held f fs (Statements.Given.sound xs) (Statements.Given.broken n) σ h k = tt
join_held f fs (Statements.Given.sound xs) Statements.Given.unsound σ h k = tt
join_held f fs (Statements.Given.broken m) (Statements.Given.sound ys) σ h k = tt
join_held f fs (Statements.Given.broken m) (Statements.Given.broken n) σ h k =
    either (λ x. HeldGiven (f ∷ fs) x σ) _ (Statements.Given.broken n) (Statements.Given.broken m) (λ _. tt) tt
join_held f fs (Statements.Given.broken m) Statements.Given.unsound σ h k = tt
join_held f fs Statements.Given.unsound y σ h k = tt

-- no formal is left: a further argument breaks the call
too_many : (x : Given) (σ : List Slot) → HeldGiven [] (join (Statements.Given.broken 13) x) σ
too_many (Statements.Given.sound ys) σ = tt
too_many (Statements.Given.broken n) σ = either (λ x. HeldGiven [] x σ) _ (Statements.Given.broken n) (Statements.Given.broken 13) (λ _. tt) tt
too_many Statements.Given.unsound σ = tt

abbrev pub AllHeld : List Formed → List Slot → ℕ → Type 0
AllHeld [] σ d = Unit {0}
AllHeld (g ∷ gs) σ d = HeldFormed g σ d × AllHeld gs σ d

pub forms_held : (es : List Expression) (Γ : Scope) (d : ℕ) → Nil (deep_all es d) → AllHeld (forms_of es Γ) (slots_of Γ) d
forms_held [] Γ d h = tt
forms_held (e ∷ es) Γ d h = (form_held e Γ d (nil_left _ _ h), forms_held es Γ d (nil_right (deep e d) _ h))

pub given_held : (fs : List Formal) (ts : List Ty) (gs : List Formed) (σ : List Slot) (d : ℕ) → Paired fs ts → AllHeld gs σ d → HeldGiven fs (given fs ts gs) σ
given_held [] ts [] σ d p h = (tt, omega arith)
given_held [] ts (Types.Formed.sound g u ∷ gs) σ d p h = too_many (given [] ts gs) σ
given_held [] ts (Types.Formed.broken n ∷ gs) σ d p h = tt
given_held [] ts (Types.Formed.unsound ∷ gs) σ d p h = tt
given_held (f ∷ fs) [] gs σ d p h = tt
given_held (f ∷ fs) (t ∷ ts) [] σ d p h = tt
given_held (f ∷ fs) (t ∷ ts) (Types.Formed.sound g u ∷ gs) σ d p h =
    join_held f fs (given_one f t g u) (given fs ts gs) σ (one_held f t u g σ d p.0 h.0) (given_held fs ts gs σ d p.1 h.1)
given_held (f ∷ fs) (t ∷ ts) (Types.Formed.broken n ∷ gs) σ d p h = tt
given_held (f ∷ fs) (t ∷ ts) (Types.Formed.unsound ∷ gs) σ d p h = tt
