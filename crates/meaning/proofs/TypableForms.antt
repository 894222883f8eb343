-- Types and expressions that the checks find sound are well typed.
use Rattle.std.proofs.Common.{◌≡◌, ℕ, ◌+◌, Bool, true, false, cond, T, ℤ, pos, negsuc, refl, subst, inl, inr}
use Rattle.tiny.specs.Tree.{Name, TypeTree, Fields, Expression}
use Rattle.tiny.specs.Tree as Tree
use Rattle.meaning.specs.Rule.{Value}
use Rattle.meaning.specs.Rule as Rule
use Rattle.meaning.specs.Types.{Ty, int, bool, array, struct, Members, no_member, member, size, fits, scalar, Meaning, variable, reference, type_name, procedure, Scope, same_name, meaning_of, number_of, Typed, when_type, as_type, sized, Membered, with_member, as_struct, type_of, members_of, Form, place, value, copies, Formed, on_place, read_of, named_as, allowed, signature, operand, element_of, selected, field_of, form_of}
use Rattle.meaning.specs.Types as Types
use Rattle.meaning.specs.Typing.{IsType, int_is, bool_is, name_is, array_is, struct_is, AreFields, no_fields, a_field, Designator, name_designates, element_designates, field_designates, Has, first_field, later_field, HasType, a_number, a_truth, an_assignment, an_operation, a_prefix, an_element, a_selection}
use Rattle.meaning.specs.Typing as Typing
use Rattle.meaning.proofs.Nil.{either}
use Rattle.meaning.proofs.Parts.{IfFormed, after_form, at_place}

-- Types.

abbrev pub TypedAs : Scope → TypeTree → Typed → Type 0
TypedAs Γ e (Types.Typed.sound t) = IsType Γ e t
TypedAs Γ e (Types.Typed.broken n) = Unit {0}
TypedAs Γ e Types.Typed.unsound = Unit {0}

abbrev MembersAs : Scope → Fields → Membered → Type 0
MembersAs Γ fs (Types.Membered.sound ms) = AreFields Γ fs ms
MembersAs Γ fs Types.Membered.unsound = Unit {0}

name_typed : (Γ : Scope) (at : ℕ) (x : Name) (m : Meaning) → meaning_of x Γ ≡ m → TypedAs Γ (Tree.named at x) (as_type m)
name_typed Γ at x (variable t) e = tt
name_typed Γ at x (reference t) e = tt
name_typed Γ at x (type_name t) e = name_is e
name_typed Γ at x (procedure fs ts) e = tt
name_typed Γ at x Meaning.unsound e = tt

array_typed : (Γ : Scope) (at : ℕ) (e : TypeTree) (x : Typed) (n : ℤ) → TypedAs Γ e x → TypedAs Γ (Tree.array at e n) (when_type x (sized n))
array_typed Γ at e (Types.Typed.sound t) (pos n) h = array_is h
array_typed Γ at e (Types.Typed.sound t) (negsuc n) h = tt
array_typed Γ at e (Types.Typed.broken m) n h = tt
array_typed Γ at e Types.Typed.unsound n h = tt

struct_typed : (Γ : Scope) (at : ℕ) (fs : Fields) (x : Membered) → MembersAs Γ fs x → TypedAs Γ (Tree.struct at fs) (as_struct x)
struct_typed Γ at fs (Types.Membered.sound ms) h = struct_is h
struct_typed Γ at fs Types.Membered.unsound h = tt

member_typed : (Γ : Scope) (at : ℕ) (x : Name) (e : TypeTree) (fs : Fields) (t : Typed) (ms : Membered) → TypedAs Γ e t → MembersAs Γ fs ms → MembersAs Γ (Tree.field_of e at x fs) (with_member x t ms)
member_typed Γ at x e fs (Types.Typed.sound t) (Types.Membered.sound ms) h k = a_field h k
member_typed Γ at x e fs (Types.Typed.sound t) Types.Membered.unsound h k = tt
member_typed Γ at x e fs (Types.Typed.broken n) ms h k = tt
member_typed Γ at x e fs Types.Typed.unsound ms h k = tt

mutual
  pub type_typed : (e : TypeTree) (Γ : Scope) → TypedAs Γ e (type_of e Γ)
  type_typed (Tree.int_type at) Γ = int_is
  type_typed (Tree.bool_type at) Γ = bool_is
  type_typed (Tree.named at x) Γ = name_typed Γ at x (meaning_of x Γ) refl
  type_typed (Tree.array at e n) Γ = array_typed Γ at e (type_of e Γ) n (type_typed e Γ)
  type_typed (Tree.struct at fs) Γ = struct_typed Γ at fs (members_of fs Γ) (members_typed fs Γ)

  members_typed : (fs : Fields) (Γ : Scope) → MembersAs Γ fs (members_of fs Γ)
  members_typed Tree.no_field Γ = no_fields
  members_typed (Tree.field_of e at x fs) Γ = member_typed Γ at x e fs (type_of e Γ) (members_of fs Γ) (type_typed e Γ) (members_typed fs Γ)

-- Expressions.

abbrev pub IsPlace : Form → Type 0
IsPlace (place p) = Unit {0}
IsPlace (value v) = ⊥
IsPlace (copies p q n) = ⊥

-- it has the type, and is a designator where its form is a place
abbrev pub Well : Scope → Expression → Form → Ty → Type 0
Well Γ e f t = HasType Γ e t × (IsPlace f → Designator e)

abbrev pub FormedAs : Scope → Expression → Formed → Type 0
FormedAs Γ e = IfFormed (Well Γ e)

fits_int : (t : Ty) → T (fits int t) → t ≡ int
fits_int int h = refl
fits_int bool h = absurd h
fits_int (array t n) h = absurd h
fits_int (struct ms) h = absurd h

pub fits_bool : (t : Ty) → T (fits bool t) → t ≡ bool
fits_bool int h = absurd h
fits_bool bool h = refl
fits_bool (array t n) h = absurd h
fits_bool (struct ms) h = absurd h

name_formed : (Γ : Scope) (at : ℕ) (x : Name) (i : ℕ) (m : Meaning) → meaning_of x Γ ≡ m → FormedAs Γ (Tree.name at x) (named_as i m)
name_formed Γ at x i (variable t) e = (Typing.HasType.a_variable e, λ _. name_designates)
name_formed Γ at x i (reference t) e = (Typing.HasType.a_reference e, λ _. name_designates)
name_formed Γ at x i (type_name t) e = tt
name_formed Γ at x i (procedure fs ts) e = tt
name_formed Γ at x i Meaning.unsound e = tt

element_formed : (Γ : Scope) (at : ℕ) (d e : Expression) (t : Ty) (f : Form) (v : Value) (b : Bool) → HasType Γ d t → (IsPlace f → Designator d) → (T b → HasType Γ e int) →
    FormedAs Γ (Tree.index at d e) (element_of t f v b)
element_formed Γ at d e int f v b h p i = tt
element_formed Γ at d e bool f v b h p i = tt
element_formed Γ at d e (array t n) f v b h p i =
    either (FormedAs Γ (Tree.index at d e)) b _ _ (λ ok. at_place (λ g. IsPlace g → Designator d) (FormedAs Γ (Tree.index at d e)) f _ tt p (λ q w. (an_element h (i ok) (w tt), λ _. element_designates (w tt)))) tt
element_formed Γ at d e (struct ms) f v b h p i = tt

selected_formed : (Γ : Scope) (at : ℕ) (d : Expression) (x : Name) (f : Form) → (IsPlace f → Designator d) → (ms : Members) (k : ℕ) →
    ((t : Ty) → Has ms x t → Designator d → HasType Γ (Tree.select at d x) t) → FormedAs Γ (Tree.select at d x) (selected ms x f k)
selected_formed Γ at d x f p no_member k h = tt
selected_formed Γ at d x f p (member y t ms) k h =
    go (same_name x y) refl (λ e. selected_formed Γ at d x f p ms (k + size t) (λ u r. h u (later_field e r)))
  where
    go : (b : Bool) → same_name x y ≡ b → (same_name x y ≡ false → FormedAs Γ (Tree.select at d x) (selected ms x f (k + size t))) →
        FormedAs Γ (Tree.select at d x) (cond b (on_place f (λ q. Types.Formed.sound (place (Rule.field q k)) t)) (selected ms x f (k + size t)))
    go true e r = at_place (λ g. IsPlace g → Designator d) (FormedAs Γ (Tree.select at d x)) f _ tt p (λ q w. (h t (first_field e) (w tt), λ _. field_designates (w tt)))
    go false e r = r e

field_formed : (Γ : Scope) (at : ℕ) (d : Expression) (x : Name) (t : Ty) (f : Form) → HasType Γ d t → (IsPlace f → Designator d) → FormedAs Γ (Tree.select at d x) (field_of t x f)
field_formed Γ at d x int f h p = tt
field_formed Γ at d x bool f h p = tt
field_formed Γ at d x (array t n) f h p = tt
field_formed Γ at d x (struct ms) f h p = selected_formed Γ at d x f p ms 0 (λ t r w. a_selection h r w)

pub form_typed : (e : Expression) (Γ : Scope) → FormedAs Γ e (form_of e Γ)
form_typed (Tree.number at z) Γ = (a_number, λ w. absurd w)
form_typed (Tree.truth at b) Γ = (a_truth, λ w. absurd w)
form_typed (Tree.name at x) Γ = name_formed Γ at x (number_of x Γ) (meaning_of x Γ) refl
form_typed (Tree.assign at d e) Γ =
    let Q : Formed → Type 0 = FormedAs Γ (Tree.assign at d e) in
    after_form (Well Γ d) Q (form_of d Γ) _ tt (form_typed d Γ) (λ f t (h, p). after_form (Well Γ e) Q (form_of e Γ) _ tt (form_typed e Γ) (λ g u (i, q).
    either Q (fits t u) _ _ (λ ok. at_place (λ g. IsPlace g → Designator d) Q f _ tt p (λ _ w.
    either Q (scalar t) _ _ (λ s. (an_assignment h i ok (w tt) (inl s), λ z. absurd z)) (at_place (λ g. IsPlace g → Designator e) Q g _ tt q (λ _ v. (an_assignment h i ok (w tt) (inr (v tt)), λ z. absurd z))))) tt))
form_typed (Tree.binary at o d e) Γ =
    let Q : Formed → Type 0 = FormedAs Γ (Tree.binary at o d e) in
    after_form (Well Γ d) Q (form_of d Γ) _ tt (form_typed d Γ) (λ f t (h, p). after_form (Well Γ e) Q (form_of e Γ) _ tt (form_typed e Γ) (λ g u (i, q).
    either Q (allowed (signature o) t u) _ _ (λ ok. (an_operation h i ok, λ z. absurd z)) tt))
form_typed (Tree.unary at o e) Γ =
    let Q : Formed → Type 0 = FormedAs Γ (Tree.unary at o e) in
    after_form (Well Γ e) Q (form_of e Γ) _ tt (form_typed e Γ) (λ f t (h, p). either Q (fits (operand o) t) _ _ (λ ok. (a_prefix h ok, λ z. absurd z)) tt)
form_typed (Tree.index at d e) Γ =
    let Q : Formed → Type 0 = FormedAs Γ (Tree.index at d e) in
    after_form (Well Γ d) Q (form_of d Γ) _ tt (form_typed d Γ) (λ f t (h, p). after_form (Well Γ e) Q (form_of e Γ) _ tt (form_typed e Γ) (λ g u (i, q).
    element_formed Γ at d e t f (read_of g) (fits int u) h p (λ ok. subst (λ (x : Ty). HasType Γ e x) (fits_int u ok) i)))
form_typed (Tree.select at d x) Γ =
    let Q : Formed → Type 0 = FormedAs Γ (Tree.select at d x) in
    after_form (Well Γ d) Q (form_of d Γ) _ tt (form_typed d Γ) (λ f t (h, p). field_formed Γ at d x t f h p)
