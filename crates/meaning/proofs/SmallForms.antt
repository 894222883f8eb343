-- Types, expressions and arguments that the stage of sizes lets pass are small.
use Rattle.std.proofs.Common.{ℕ, ◌+◌, ◌*◌, ◌≤◌, Bool, T, ltb, List, [], ◌∷◌, ◌++◌, ℤ, pos, negsuc, arith, nltb→le}
use Rattle.tiny.specs.Tree.{Name, TypeTree, Fields, Expression, Statements}
use Rattle.tiny.specs.Tree as Tree
use Rattle.meaning.specs.Rule.{Place, Value, Argument, Formal}
use Rattle.meaning.specs.Rule as Rule
use Rattle.meaning.specs.Types.{Ty, int, bool, array, struct, Members, no_member, member, size, members_size, fits, scalar, Meaning, variable, reference, type_name, procedure, Scope, same_name, meaning_of, number_of, Typed, when_type, as_type, sized, Membered, with_member, as_struct, type_of, members_of, Form, place, value, copies, Formed, when_form, on_place, read_of, named_as, Signature, arithmetic, logic, relation, allowed, signature, result, operand, element_of, selected, field_of, form_of}
use Rattle.meaning.specs.Types as Types
use Rattle.meaning.specs.Statements.{Given, argument, aggregate, given_one, join, given, forms_of}
use Rattle.meaning.specs.Statements as Statements
use Rattle.meaning.specs.Stages.{larger, large_typed, large_type, large_fields}
use Rattle.meaning.specs.Small.{WrittenType, WrittenFields, WrittenExpression, WrittenAll, SmallPlace, SmallValue, SmallArgument, SmallArguments, SmallFormals}
use Rattle.meaning.proofs.Nil.{Nil, nil_left, nil_right, untested, either}

pub not_larger : (n at : ℕ) → Nil (larger n at) → n ≤ 65536
not_larger n at h = nltb→le 65536 n (untested (ltb 65536 n) _ [] [] h).0

module _ (P : ℤ → Bool) (zero_is : T (P (pos 0))) (one-is : T (P (pos 1))) where
  abbrev mutual
    pub SmallTy : Ty → Type 0
    SmallTy int = Unit {0}
    SmallTy bool = Unit {0}
    SmallTy (array t n) = SmallTy t × T (P (pos n)) × (n * size t ≤ 65536)
    SmallTy (struct ms) = SmallMembers ms × (members_size ms ≤ 65536)

    pub SmallMembers : Members → Type 0
    SmallMembers no_member = Unit {0}
    SmallMembers (member x t ms) = SmallTy t × SmallMembers ms

  abbrev pub SmallTys : List Ty → Type 0
  SmallTys [] = Unit {0}
  SmallTys (t ∷ ts) = SmallTy t × SmallTys ts

  pub small_size : (t : Ty) → SmallTy t → size t ≤ 65536
  small_size int h = omega arith
  small_size bool h = omega arith
  small_size (array t n) h = h.2
  small_size (struct ms) h = h.1

  abbrev pub SmallMeaning : Meaning → Type 0
  SmallMeaning (variable t) = SmallTy t
  SmallMeaning (reference t) = SmallTy t
  SmallMeaning (type_name t) = SmallTy t
  SmallMeaning (procedure fs ts) = SmallFormals P fs × SmallTys ts
  SmallMeaning Meaning.unsound = Unit {0}

  abbrev pub SmallScope : Scope → Type 0
  SmallScope [] = Unit {0}
  SmallScope (d ∷ Γ) = SmallMeaning d.meaning × SmallScope Γ

  pub small_append : (Δ Γ : Scope) → SmallScope Δ → SmallScope Γ → SmallScope (Δ ++ Γ)
  small_append [] Γ h k = k
  small_append (d ∷ Δ) Γ h k = (h.0, small_append Δ Γ h.1 k)

  pub small_meaning : (x : Name) (Γ : Scope) → SmallScope Γ → SmallMeaning (meaning_of x Γ)
  small_meaning x [] h = tt
  small_meaning x (d ∷ Γ) h = either SmallMeaning (same_name x d.name) _ _ (λ _. h.0) (small_meaning x Γ h.1)

  -- Types.

  abbrev pub SmallTyped : Typed → Type 0
  SmallTyped (Types.Typed.sound t) = SmallTy t
  SmallTyped (Types.Typed.broken n) = Unit {0}
  SmallTyped Types.Typed.unsound = Unit {0}

  abbrev SmallMembered : Membered → Type 0
  SmallMembered (Types.Membered.sound ms) = SmallMembers ms
  SmallMembered Types.Membered.unsound = Unit {0}

  small_as_type : (m : Meaning) → SmallMeaning m → SmallTyped (as_type m)
  small_as_type (variable t) h = tt
  small_as_type (reference t) h = tt
  small_as_type (type_name t) h = h
  small_as_type (procedure fs ts) h = tt
  small_as_type Meaning.unsound h = tt

  small_array : (x : Typed) (n : ℤ) (at : ℕ) → SmallTyped x → T (P n) → Nil (large_typed (when_type x (sized n)) at) → SmallTyped (when_type x (sized n))
  small_array (Types.Typed.sound t) (pos n) at h p k = (h, p, not_larger (n * size t) at k)
  small_array (Types.Typed.sound t) (negsuc n) at h p k = tt
  small_array (Types.Typed.broken m) n at h p k = tt
  small_array Types.Typed.unsound n at h p k = tt

  small_struct : (ms : Membered) (at : ℕ) → SmallMembered ms → Nil (large_typed (as_struct ms) at) → SmallTyped (as_struct ms)
  small_struct (Types.Membered.sound ms) at h k = (h, not_larger (members_size ms) at k)
  small_struct Types.Membered.unsound at h k = tt

  small_member : (x : Name) (t : Typed) (ms : Membered) → SmallTyped t → SmallMembered ms → SmallMembered (with_member x t ms)
  small_member x (Types.Typed.sound t) (Types.Membered.sound ms) h k = (h, k)
  small_member x (Types.Typed.sound t) Types.Membered.unsound h k = tt
  small_member x (Types.Typed.broken n) ms h k = tt
  small_member x Types.Typed.unsound ms h k = tt

  mutual
    pub type_small : (t : TypeTree) (Γ : Scope) → WrittenType P t → SmallScope Γ → Nil (large_type t Γ) → SmallTyped (type_of t Γ)
    type_small (Tree.int_type at) Γ w g h = tt
    type_small (Tree.bool_type at) Γ w g h = tt
    type_small (Tree.named at x) Γ w g h = small_as_type (meaning_of x Γ) (small_meaning x Γ g)
    type_small (Tree.array at t n) Γ w g h =
        small_array (type_of t Γ) n at (type_small t Γ w.0 g (nil_left _ _ h)) w.1 (nil_right (large_type t Γ) _ h)
    type_small (Tree.struct at fs) Γ w g h = small_struct (members_of fs Γ) at (members_small fs Γ w g (nil_left _ _ h)) (nil_right (large_fields fs Γ) _ h)

    members_small : (fs : Fields) (Γ : Scope) → WrittenFields P fs → SmallScope Γ → Nil (large_fields fs Γ) → SmallMembered (members_of fs Γ)
    members_small Tree.no_field Γ w g h = tt
    members_small (Tree.field_of t at x fs) Γ w g h =
        small_member x (type_of t Γ) (members_of fs Γ) (type_small t Γ w.0 g (nil_left _ _ h)) (members_small fs Γ w.1 g (nil_right (large_type t Γ) _ h))

  -- Expressions.

  abbrev pub SmallForm : Form → Type 0
  SmallForm (place p) = SmallPlace P p
  SmallForm (value v) = SmallValue P v
  SmallForm (copies p q n) = SmallPlace P p × SmallPlace P q × (n ≤ 65536)

  abbrev pub SmallFormed : Formed → Type 0
  SmallFormed (Types.Formed.sound f t) = SmallForm f × SmallTy t
  SmallFormed (Types.Formed.broken n) = Unit {0}
  SmallFormed Types.Formed.unsound = Unit {0}

  pub small_read : (f : Form) → SmallForm f → SmallValue P (read_of f)
  small_read (place p) h = h
  small_read (value v) h = h
  small_read (copies p q n) h = zero_is

  small_when : (x : Formed) (k : Form → Ty → Formed) → SmallFormed x → ((f : Form) (t : Ty) → SmallForm f → SmallTy t → SmallFormed (k f t)) → SmallFormed (when_form x k)
  small_when (Types.Formed.sound f t) k h g = g f t h.0 h.1
  small_when (Types.Formed.broken n) k h g = tt
  small_when Types.Formed.unsound k h g = tt

  small_place : (f : Form) (k : Place → Formed) → SmallForm f → ((p : Place) → SmallPlace P p → SmallFormed (k p)) → SmallFormed (on_place f k)
  small_place (place p) k h g = g p h
  small_place (value v) k h g = tt
  small_place (copies p q n) k h g = tt

  small_name : (i : ℕ) (m : Meaning) → SmallMeaning m → SmallFormed (named_as i m)
  small_name i (variable t) h = (tt, h)
  small_name i (reference t) h = (tt, h)
  small_name i (type_name t) h = tt
  small_name i (procedure fs ts) h = tt
  small_name i Meaning.unsound h = tt

  small_result : (s : Signature) → SmallTy (result s)
  small_result arithmetic = tt
  small_result logic = tt
  small_result relation = tt

  small_element : (t : Ty) (f : Form) (v : Value) (b : Bool) → SmallForm f → SmallTy t → SmallValue P v → SmallFormed (element_of t f v b)
  small_element int f v b h s k = tt
  small_element bool f v b h s k = tt
  small_element (array t n) f v b h s k =
      either SmallFormed b _ _ (λ _. small_place f _ h (λ p i. ((i, k, s.1, small_size t s.0, s.2), s.0))) tt
  small_element (struct ms) f v b h s k = tt

  small_selected : (ms : Members) (x : Name) (f : Form) (k : ℕ) → SmallForm f → SmallMembers ms → k + members_size ms ≤ 65536 → SmallFormed (selected ms x f k)
  small_selected no_member x f k h s n = tt
  small_selected (member y t ms) x f k h s n =
      either SmallFormed (same_name x y) _ _ (λ _. small_place f _ h (λ p i. ((i, omega arith), s.0)))
      (small_selected ms x f (k + size t) h s.1 (omega arith))

  small_field : (t : Ty) (x : Name) (f : Form) → SmallForm f → SmallTy t → SmallFormed (field_of t x f)
  small_field int x f h s = tt
  small_field bool x f h s = tt
  small_field (array t n) x f h s = tt
  small_field (struct ms) x f h s = small_selected ms x f 0 h s.0 (let n = s.1 in omega arith)

  pub form_small : (e : Expression) (Γ : Scope) → WrittenExpression P e → SmallScope Γ → SmallFormed (form_of e Γ)
  form_small (Tree.number at z) Γ w g = (w, tt)
  form_small (Tree.truth at b) Γ w g = (either (λ z. T (P z)) b _ _ (λ _. one-is) zero_is, tt)
  form_small (Tree.name at x) Γ w g = small_name (number_of x Γ) (meaning_of x Γ) (small_meaning x Γ g)
  form_small (Tree.assign at d e) Γ w g =
      small_when (form_of d Γ) _ (form_small d Γ w.0 g) (λ f t a s. small_when (form_of e Γ) _ (form_small e Γ w.1 g) (λ h u b r.
      either SmallFormed (fits t u) _ _ (λ _. small_place f _ a (λ p i.
      either SmallFormed (scalar t) _ _ (λ _. ((i, small_read h b), s)) (small_place h _ b (λ q j. ((i, j, small_size t s), s))))) tt))
  form_small (Tree.binary at o d e) Γ w g =
      small_when (form_of d Γ) _ (form_small d Γ w.0 g) (λ f t a s. small_when (form_of e Γ) _ (form_small e Γ w.1 g) (λ h u b r.
      either SmallFormed (allowed (signature o) t u) _ _ (λ _. ((small_read f a, small_read h b), small_result (signature o))) tt))
  form_small (Tree.unary at o e) Γ w g =
      small_when (form_of e Γ) _ (form_small e Γ w g) (λ f t a s. either SmallFormed (fits (operand o) t) _ _ (λ _. (small_read f a, s)) tt)
  form_small (Tree.index at d e) Γ w g =
      small_when (form_of d Γ) _ (form_small d Γ w.0 g) (λ f t a s. small_when (form_of e Γ) _ (form_small e Γ w.1 g) (λ h u b r.
      small_element t f (read_of h) (fits int u) a s (small_read h b)))
  form_small (Tree.select at d x) Γ w g = small_when (form_of d Γ) _ (form_small d Γ w g) (λ f t a s. small_field t x f a s)

  -- Arguments.

  abbrev pub SmallGiven : Given → Type 0
  SmallGiven (Statements.Given.sound xs) = SmallArguments P xs
  SmallGiven (Statements.Given.broken n) = Unit {0}
  SmallGiven Statements.Given.unsound = Unit {0}

  small_argument : (f : Formal) (g : Form) (a : Argument) → SmallForm g → SmallArgument P a → SmallGiven (argument f g a)
  small_argument (Rule.by_value s) g a h k = (k, tt)
  small_argument (Rule.by_reference s) (place p) a h k = (h, tt)
  small_argument (Rule.by_reference s) (value v) a h k = tt
  small_argument (Rule.by_reference s) (copies p q n) a h k = tt

  small_aggregate : (f : Formal) (g : Form) (t : Ty) → SmallForm g → SmallTy t → SmallGiven (aggregate f g t)
  small_aggregate f (place p) t h s = small_argument f (place p) _ h (h, small_size t s)
  small_aggregate f (value v) t h s = tt
  small_aggregate f (copies p q n) t h s = tt

  small_one : (f : Formal) (t : Ty) (g : Form) (u : Ty) → SmallForm g → SmallTy t → SmallGiven (given_one f t g u)
  small_one f t g u h s =
      either SmallGiven (fits t u) _ _ (λ _. either SmallGiven (scalar t) _ _ (λ _. small_argument f g _ h (small_read g h)) (small_aggregate f g t h s)) tt

  small_arguments : (xs ys : List Argument) → SmallArguments P xs → SmallArguments P ys → SmallArguments P (xs ++ ys)
  small_arguments [] ys h k = k
  small_arguments (x ∷ xs) ys h k = (h.0, small_arguments xs ys h.1 k)

  small_join : (x y : Given) → SmallGiven x → SmallGiven y → SmallGiven (join x y)
  small_join (Statements.Given.sound xs) (Statements.Given.sound ys) h k = small_arguments xs ys h k
  small_join (Statements.Given.sound xs) (Statements.Given.broken n) h k = tt
  small_join (Statements.Given.sound xs) Statements.Given.unsound h k = tt
  small_join (Statements.Given.broken m) (Statements.Given.sound ys) h k = tt
  small_join (Statements.Given.broken m) (Statements.Given.broken n) h k =
      either SmallGiven _ (Statements.Given.broken n) (Statements.Given.broken m) (λ _. tt) tt
  small_join (Statements.Given.broken m) Statements.Given.unsound h k = tt
  small_join Statements.Given.unsound y h k = tt

  abbrev pub AllSmall : List Formed → Type 0
  AllSmall [] = Unit {0}
  AllSmall (g ∷ gs) = SmallFormed g × AllSmall gs

  pub forms_small : (es : List Expression) (Γ : Scope) → WrittenAll P es → SmallScope Γ → AllSmall (forms_of es Γ)
  forms_small [] Γ w g = tt
  forms_small (e ∷ es) Γ w g = (form_small e Γ w.0 g, forms_small es Γ w.1 g)

  pub given_small : (fs : List Formal) (ts : List Ty) (gs : List Formed) → SmallTys ts → AllSmall gs → SmallGiven (given fs ts gs)
  given_small [] ts [] s h = tt
  given_small [] ts (Types.Formed.sound g u ∷ gs) s h = small_join (Statements.Given.broken 13) (given [] ts gs) tt (given_small [] ts gs s h.1)
  given_small [] ts (Types.Formed.broken n ∷ gs) s h = tt
  given_small [] ts (Types.Formed.unsound ∷ gs) s h = tt
  given_small (f ∷ fs) [] gs s h = tt
  given_small (f ∷ fs) (t ∷ ts) [] s h = tt
  given_small (f ∷ fs) (t ∷ ts) (Types.Formed.sound g u ∷ gs) s h =
      small_join (given_one f t g u) (given fs ts gs) (small_one f t g u h.0.0 s.0) (given_small fs ts gs s.1 h.1)
  given_small (f ∷ fs) (t ∷ ts) (Types.Formed.broken n ∷ gs) s h = tt
  given_small (f ∷ fs) (t ∷ ts) (Types.Formed.unsound ∷ gs) s h = tt
