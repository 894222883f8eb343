-- An expression's form fits the slots of its scope, and needs no more operands than its depth leaves.
use Rattle.std.proofs.Common.{◌≡◌, ℕ, suc, ◌+◌, ◌*◌, ◌≤◌, max, Bool, true, false, cond, ◌&&◌, T, eqb, List, ◌++◌, sym, refl, ◌∙◌, subst, ap₂, arith, eqb→eq}
use Rattle.tiny.specs.Tree.{Name, Expression}
use Rattle.tiny.specs.Tree as Tree
use Rattle.meaning.specs.Rule.{Place, Value, Unary}
use Rattle.meaning.specs.Rule as Rule
use Rattle.meaning.specs.Types.{Ty, Members, int, bool, array, struct, no_member, member, size, members_size, fits, members_fit, scalar, Meaning, Scope, Form, place, value, copies, Formed, when_form, on_place, read_of, named_as, assigned, Signature, arithmetic, logic, relation, signature, allowed, result, operand, element_of, selected, field_of, form_of, number_of, meaning_of, same_name}
use Rattle.meaning.specs.Types as Types
use Rattle.meaning.specs.Sound.{Slot, slot, FitsPlace, FitsValue, place_need, value_need}
use Rattle.meaning.specs.Stages.{deep, deeper}
use Rattle.meaning.proofs.Nil.{Nil, nil_left, nil_right, not_deeper, either}
use Rattle.meaning.proofs.Slots.{slots_of, Stands, found}

pub both : (a b : Bool) → T (a && b) → T a × T b
both true b h = (tt, h)
both false b h = absurd h

mutual
  pub fits_size : (t u : Ty) → T (fits t u) → size t ≡ size u
  fits_size int int h = refl
  fits_size int bool h = absurd h
  fits_size int (array u m) h = absurd h
  fits_size int (struct ns) h = absurd h
  fits_size bool int h = absurd h
  fits_size bool bool h = refl
  fits_size bool (array u m) h = absurd h
  fits_size bool (struct ns) h = absurd h
  fits_size (array t n) int h = absurd h
  fits_size (array t n) bool h = absurd h
  fits_size (array t n) (array u m) h = let k = both (eqb n m) (fits t u) h in ap₂ ◌*◌ (eqb→eq n m k.0) (fits_size t u k.1)
  fits_size (array t n) (struct ns) h = absurd h
  fits_size (struct ms) int h = absurd h
  fits_size (struct ms) bool h = absurd h
  fits_size (struct ms) (array u m) h = absurd h
  fits_size (struct ms) (struct ns) h = members_fit_size ms ns h

  members_fit_size : (ms ns : Members) → T (members_fit ms ns) → members_size ms ≡ members_size ns
  members_fit_size no_member no_member h = refl
  members_fit_size no_member (member y u ns) h = absurd h
  members_fit_size (member x t ms) no_member h = absurd h
  members_fit_size (member x t ms) (member y u ns) h =
      let k = both (fits t u) (members_fit ms ns) h in ap₂ ◌+◌ (fits_size t u k.0) (members_fit_size ms ns k.1)

pub scalar_size : (t : Ty) → T (scalar t) → size t ≡ 1
scalar_size int h = refl
scalar_size bool h = refl
scalar_size (array t n) h = absurd h
scalar_size (struct ms) h = absurd h

-- d: the expression's depth
abbrev pub Held : Form → Ty → List Slot → ℕ → Type 0
Held (place p) t σ d = FitsPlace p σ (size t) × (place_need p + d ≤ 97)
Held (value v) t σ d = FitsValue v σ × (value_need v + d ≤ 97) × T (scalar t)
Held (copies p q n) t σ d = FitsPlace p σ n × FitsPlace q σ n × (max (place_need p) (1 + place_need q) + d ≤ 97)

abbrev pub HeldFormed : Formed → List Slot → ℕ → Type 0
HeldFormed (Types.Formed.sound f t) σ d = Held f t σ d
HeldFormed (Types.Formed.broken n) σ d = Unit {0}
HeldFormed Types.Formed.unsound σ d = Unit {0}

pub read_held : (f : Form) (t : Ty) (σ : List Slot) (d : ℕ) → Held f t σ d → size t ≡ 1 →
    FitsValue (read_of f) σ × (value_need (read_of f) + d ≤ 97)
read_held (place p) t σ d h e = (subst (λ (n : ℕ). FitsPlace p σ n) e h.0, h.1)
read_held (value v) t σ d h e = (h.0, h.1)
read_held (copies p q n) t σ d h e = (tt, omega arith)

on_form : (x : Formed) (k : Form → Ty → Formed) (σ : List Slot) (d d' : ℕ) → HeldFormed x σ d →
    ((f : Form) (t : Ty) → Held f t σ d → HeldFormed (k f t) σ d') → HeldFormed (when_form x k) σ d'
on_form (Types.Formed.sound f t) k σ d d' h g = g f t h
on_form (Types.Formed.broken n) k σ d d' h g = tt
on_form Types.Formed.unsound k σ d d' h g = tt

on_place_held : (f : Form) (k : Place → Formed) (t : Ty) (σ : List Slot) (d d' : ℕ) → Held f t σ d →
    ((p : Place) → FitsPlace p σ (size t) → place_need p + d ≤ 97 → HeldFormed (k p) σ d') → HeldFormed (on_place f k) σ d'
on_place_held (place p) k t σ d d' h g = g p h.0 h.1
on_place_held (value v) k t σ d d' h g = tt
on_place_held (copies p q n) k t σ d d' h g = tt

named_held : (m : Meaning) (i d : ℕ) (σ : List Slot) → d ≤ 96 → Stands m (slot σ i) → HeldFormed (named_as i m) σ d
named_held (Types.Meaning.variable t) i d σ k h = (h, omega arith)
named_held (Types.Meaning.reference t) i d σ k h = (h, omega arith)
named_held (Types.Meaning.type_name t) i d σ k h = tt
named_held (Types.Meaning.procedure fs ts) i d σ k h = tt
named_held Types.Meaning.unsound i d σ k h = tt

assigned_held : (f g : Form) (t u : Ty) (σ : List Slot) (d : ℕ) → Held f t σ (suc d) → Held g u σ (suc d) → HeldFormed (assigned f t g u) σ d
assigned_held f g t u σ d h k =
    either (λ x. HeldFormed x σ d) (fits t u) _ _ (λ same. on_place_held f _ t σ (suc d) d h (λ p i n.
    split p i n (fits_size t u same) (scalar t) (λ s. s))) tt
  where
    split : (p : Place) → FitsPlace p σ (size t) → place_need p + suc d ≤ 97 → size t ≡ size u → (b : Bool) → (T b → T (scalar t)) →
        HeldFormed (cond b (Types.Formed.sound (value (Rule.store p (read_of g))) t) (on_place g (λ q. Types.Formed.sound (copies p q (size t)) t))) σ d
    split p i n same true one =
        let e = scalar_size t (one tt) in
        let r = read_held g u σ (suc d) k (sym same ∙ e) in
        ((subst (λ (n : ℕ). FitsPlace p σ n) e i, r.0), omega arith, one tt)
    split p i n same false one = on_place_held g _ u σ (suc d) d k (λ q j m. (i, subst (λ (n : ℕ). FitsPlace q σ n) (sym same) j, omega arith))

allowed_sizes : (s : Signature) (t u : Ty) → T (allowed s t u) → (size t ≡ 1) × (size u ≡ 1)
allowed_sizes arithmetic t u h = let k = both (fits int t) (fits int u) h in (sym (fits_size int t k.0), sym (fits_size int u k.1))
allowed_sizes logic t u h = let k = both (fits bool t) (fits bool u) h in (sym (fits_size bool t k.0), sym (fits_size bool u k.1))
allowed_sizes relation t u h =
    let k = both (scalar t) (fits t u) h in
    (scalar_size t k.0, sym (fits_size t u k.1) ∙ scalar_size t k.0)

scalar_result : (s : Signature) → T (scalar (result s))
scalar_result arithmetic = tt
scalar_result logic = tt
scalar_result relation = tt

operand_scalar : (o : Unary) (t : Ty) → T (fits (operand o) t) → T (scalar t)
operand_scalar Rule.neg int h = tt
operand_scalar Rule.neg bool h = tt
operand_scalar Rule.neg (array t n) h = absurd h
operand_scalar Rule.neg (struct ms) h = absurd h
operand_scalar Rule.not int h = tt
operand_scalar Rule.not bool h = tt
operand_scalar Rule.not (array t n) h = absurd h
operand_scalar Rule.not (struct ms) h = absurd h

element_held : (t : Ty) (f : Form) (v : Value) (b : Bool) (σ : List Slot) (d : ℕ) → Held f t σ (suc d) →
    (T b → FitsValue v σ × (value_need v + suc d ≤ 97)) → HeldFormed (element_of t f v b) σ d
element_held int f v b σ d h k = tt
element_held bool f v b σ d h k = tt
element_held (array t n) f v b σ d h k =
    either (λ x. HeldFormed x σ d) b _ _ (λ ok. on_place_held f _ (array t n) σ (suc d) d h (λ p i m.
    let r = k ok in ((i, r.0, refl), omega arith))) tt
element_held (struct ms) f v b σ d h k = tt

selected_held : (ms : Members) (x : Name) (f : Form) (n : ℕ) (t : Ty) (σ : List Slot) (d : ℕ) → Held f t σ (suc d) → n + members_size ms ≤ size t →
    HeldFormed (selected ms x f n) σ d
selected_held no_member x f n t σ d h k = tt
selected_held (member y u ms) x f n t σ d h k =
    either (λ z. HeldFormed z σ d) (same_name x y) _ _
    (λ _. on_place_held f _ t σ (suc d) d h (λ p i m. ((size t, i, omega arith), omega arith)))
    (selected_held ms x f (n + size u) t σ d h (omega arith))

field_held : (t : Ty) (x : Name) (f : Form) (σ : List Slot) (d : ℕ) → Held f t σ (suc d) → HeldFormed (field_of t x f) σ d
field_held int x f σ d h = tt
field_held bool x f σ d h = tt
field_held (array t n) x f σ d h = tt
field_held (struct ms) x f σ d h = selected_held ms x f 0 (struct ms) σ d h (omega arith)

behind : (e f : Expression) (d at : ℕ) → Nil (deep e (suc d) ++ (deeper 96 d at ++ deep f (suc d))) → Nil (deep f (suc d))
behind e f d at h = nil_right (deeper 96 d at) _ (nil_right (deep e (suc d)) _ h)

pub form_held : (e : Expression) (Γ : Scope) (d : ℕ) → Nil (deep e d) → HeldFormed (form_of e Γ) (slots_of Γ) d
form_held (Tree.number at z) Γ d h = let k = not_deeper 96 d at h in (tt, omega arith, tt)
form_held (Tree.truth at b) Γ d h = let k = not_deeper 96 d at h in (tt, omega arith, tt)
form_held (Tree.name at x) Γ d h = named_held (meaning_of x Γ) (number_of x Γ) d (slots_of Γ) (not_deeper 96 d at h) (found x Γ)
form_held (Tree.assign at e f) Γ d h =
    on_form (form_of e Γ) _ (slots_of Γ) (suc d) d (form_held e Γ (suc d) (nil_left _ _ h)) (λ f' t i.
    on_form (form_of f Γ) _ (slots_of Γ) (suc d) d (form_held f Γ (suc d) (behind e f d at h)) (λ g u j.
    assigned_held f' g t u (slots_of Γ) d i j))
form_held (Tree.binary at o e f) Γ d h =
    on_form (form_of e Γ) _ (slots_of Γ) (suc d) d (form_held e Γ (suc d) (nil_left _ _ h)) (λ f' t i.
    on_form (form_of f Γ) _ (slots_of Γ) (suc d) d (form_held f Γ (suc d) (behind e f d at h)) (λ g u j.
    either (λ x. HeldFormed x (slots_of Γ) d) (allowed (signature o) t u) _ _ (λ ok.
    let s = allowed_sizes (signature o) t u ok in
    let a = read_held f' t (slots_of Γ) (suc d) i s.0 in
    let b = read_held g u (slots_of Γ) (suc d) j s.1 in
    ((a.0, b.0), omega arith, scalar_result (signature o))) tt))
form_held (Tree.unary at o e) Γ d h =
    on_form (form_of e Γ) _ (slots_of Γ) (suc d) d (form_held e Γ (suc d) (nil_right _ _ h)) (λ f t i.
    either (λ x. HeldFormed x (slots_of Γ) d) (fits (operand o) t) _ _ (λ ok.
    let s = operand_scalar o t ok in
    let a = read_held f t (slots_of Γ) (suc d) i (scalar_size t s) in
    (a.0, omega arith, s)) tt)
form_held (Tree.index at e f) Γ d h =
    on_form (form_of e Γ) _ (slots_of Γ) (suc d) d (form_held e Γ (suc d) (nil_left _ _ h)) (λ f' t i.
    on_form (form_of f Γ) _ (slots_of Γ) (suc d) d (form_held f Γ (suc d) (behind e f d at h)) (λ g u j.
    element_held t f' (read_of g) (fits int u) (slots_of Γ) d i (λ ok. read_held g u (slots_of Γ) (suc d) j (sym (fits_size int u ok)))))
form_held (Tree.select at e x) Γ d h =
    on_form (form_of e Γ) _ (slots_of Γ) (suc d) d (form_held e Γ (suc d) (nil_left _ _ h)) (λ f t i. field_held t x f (slots_of Γ) d i)
