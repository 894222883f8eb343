-- Names, types and expressions in which the names and the kinds find no break are sound.
use Rattle.std.proofs.Common.{ℕ, Bool, true, false, cond, T, List, [], ◌∷◌, ◌++◌, ℤ, pos, negsuc}
use Rattle.tiny.specs.Tree.{Name, TypeTree, Fields, Expression}
use Rattle.tiny.specs.Tree as Tree
use Rattle.meaning.specs.Rule.{Place, Value}
use Rattle.meaning.specs.Types.{Ty, int, bool, array, struct, Members, no_member, member, fits, scalar, Meaning, variable, reference, type_name, procedure, Scope, same_name, meaning_of, number_of, Typed, when_type, as_type, sized, Membered, with_member, as_struct, type_of, members_of, Form, place, value, copies, Formed, when_form, on_place, read_of, named_as, allowed, signature, operand, element_of, selected, field_of, form_of}
use Rattle.meaning.specs.Types as Types
use Rattle.meaning.specs.Statements.{declare}
use Rattle.meaning.specs.Stages.{break, Open, has, known, added, undeclared, twice, names_type, names_fields, names, own_type, own_form, kinds_type, kinds_fields, kinds}
use Rattle.meaning.proofs.Nil.{Nil, nil_left, nil_right, either}

-- Each declared name that is known means something.

abbrev pub Certain : Meaning → Type 0
Certain (variable t) = Unit {0}
Certain (reference t) = Unit {0}
Certain (type_name t) = Unit {0}
Certain (procedure fs ts) = Unit {0}
Certain Meaning.unsound = ⊥

abbrev pub Known : Open → Scope → Type 0
Known Δ Γ = (x : Name) → T (known Δ x) → Certain (meaning_of x Γ)

pub known_more : (x : Name) (m : Meaning) (Δ : Open) (Γ : Scope) → Certain m → Known Δ Γ → Known (added x Δ) (declare x m Γ)
known_more x m [] Γ c h y k = at (same_name y x) k
  where
    at : (b : Bool) → T (cond (cond b true false) true false) → Certain (cond b m (meaning_of y Γ))
    at true k = c
    at false k = absurd k
known_more x m (s ∷ Δ) Γ c h y k = at (same_name y x) k
  where
    at : (b : Bool) → T (cond (cond b true (has s y)) true (known Δ y)) → Certain (cond b m (meaning_of y Γ))
    at true k = c
    at false k = h y k

-- a procedure's own name may change its meaning for another that is certain
pub swapped : (f x : Name) (m m' : Meaning) (Δ Γ : Scope) → Certain m' → Certain (meaning_of x (Δ ++ declare f m Γ)) → Certain (meaning_of x (Δ ++ declare f m' Γ))
swapped f x m m' [] Γ c h = at (same_name x f) h
  where
    at : (b : Bool) → Certain (cond b m (meaning_of x Γ)) → Certain (cond b m' (meaning_of x Γ))
    at true h = c
    at false h = h
swapped f x m m' (d ∷ Δ) Γ c h = at (same_name x d.name) (meaning_of x (Δ ++ declare f m Γ)) _ (swapped f x m m' Δ Γ c) h
  where
    at : (b : Bool) (k k' : Meaning) → (Certain k → Certain k') → Certain (cond b d.meaning k) → Certain (cond b d.meaning k')
    at true k k' g h = h
    at false k k' g h = g h

pub is_known : (Δ : Open) (at : ℕ) (x : Name) → Nil (undeclared Δ at x) → T (known Δ x)
is_known Δ at x h = go (known Δ x) h
  where
    go : (b : Bool) → Nil (cond b [] (break 8 at)) → T b
    go true h = tt
    go false h = elim h [ ]

-- Types.

abbrev pub SoundTyped : Typed → Type 0
SoundTyped (Types.Typed.sound t) = Unit {0}
SoundTyped (Types.Typed.broken n) = ⊥
SoundTyped Types.Typed.unsound = ⊥

abbrev pub SoundMembered : Membered → Type 0
SoundMembered (Types.Membered.sound ms) = Unit {0}
SoundMembered Types.Membered.unsound = ⊥

as_type_sound : (m : Meaning) (at : ℕ) → Certain m → Nil (own_type (as_type m) at) → SoundTyped (as_type m)
as_type_sound (variable t) at c h = elim h [ ]
as_type_sound (reference t) at c h = elim h [ ]
as_type_sound (type_name t) at c h = tt
as_type_sound (procedure fs ts) at c h = elim h [ ]
as_type_sound Meaning.unsound at c h = c

array_sound : (x : Typed) (n : ℤ) (at : ℕ) → SoundTyped x → Nil (own_type (when_type x (sized n)) at) → SoundTyped (when_type x (sized n))
array_sound (Types.Typed.sound t) (pos n) at s h = tt
array_sound (Types.Typed.sound t) (negsuc n) at s h = elim h [ ]
array_sound (Types.Typed.broken m) n at s h = s
array_sound Types.Typed.unsound n at s h = s

member_sound : (x : Name) (t : Typed) (ms : Membered) → SoundTyped t → SoundMembered ms → SoundMembered (with_member x t ms)
member_sound x (Types.Typed.sound t) (Types.Membered.sound ms) h k = tt
member_sound x (Types.Typed.sound t) Types.Membered.unsound h k = k
member_sound x (Types.Typed.broken n) ms h k = h
member_sound x Types.Typed.unsound ms h k = h

struct_sound : (ms : Membered) → SoundMembered ms → SoundTyped (as_struct ms)
struct_sound (Types.Membered.sound ms) h = tt
struct_sound Types.Membered.unsound h = h

mutual
  pub type_complete : (t : TypeTree) (Δ : Open) (Γ : Scope) → Known Δ Γ → Nil (names_type t Δ) → Nil (kinds_type t Γ) → SoundTyped (type_of t Γ)
  type_complete (Tree.int_type at) Δ Γ g n k = tt
  type_complete (Tree.bool_type at) Δ Γ g n k = tt
  type_complete (Tree.named at x) Δ Γ g n k = as_type_sound (meaning_of x Γ) at (g x (is_known Δ at x n)) k
  type_complete (Tree.array at t z) Δ Γ g n k =
      array_sound (type_of t Γ) z at (type_complete t Δ Γ g n (nil_left _ _ k)) (nil_right (kinds_type t Γ) _ k)
  type_complete (Tree.struct at fs) Δ Γ g n k = struct_sound (members_of fs Γ) (members_complete fs [] Δ Γ g n k)

  members_complete : (fs : Fields) (s : List Name) (Δ : Open) (Γ : Scope) → Known Δ Γ → Nil (names_fields fs s Δ) → Nil (kinds_fields fs Γ) →
      SoundMembered (members_of fs Γ)
  members_complete Tree.no_field s Δ Γ g n k = tt
  members_complete (Tree.field_of t at x fs) s Δ Γ g n k =
      member_sound x (type_of t Γ) (members_of fs Γ) (type_complete t Δ Γ g (nil_left _ _ n) (nil_left _ _ k))
      (members_complete fs (x ∷ s) Δ Γ g (nil_right (twice s at x) _ (nil_right (names_type t Δ) _ n)) (nil_right (kinds_type t Γ) _ k))

-- Expressions: where the parts are sound, the whole is sound or broken.

abbrev pub SoundFormed : Formed → Type 0
SoundFormed (Types.Formed.sound f t) = Unit {0}
SoundFormed (Types.Formed.broken n) = ⊥
SoundFormed Types.Formed.unsound = ⊥

abbrev Decided : Formed → Type 0
Decided (Types.Formed.sound f t) = Unit {0}
Decided (Types.Formed.broken n) = Unit {0}
Decided Types.Formed.unsound = ⊥

form_sound : (x : Formed) (at : ℕ) → Decided x → Nil (own_form x at) → SoundFormed x
form_sound (Types.Formed.sound f t) at d h = tt
form_sound (Types.Formed.broken n) at d h = elim h [ ]
form_sound Types.Formed.unsound at d h = d

decided_when : (x : Formed) (k : Form → Ty → Formed) → SoundFormed x → ((f : Form) (t : Ty) → Decided (k f t)) → Decided (when_form x k)
decided_when (Types.Formed.sound f t) k s h = h f t
decided_when (Types.Formed.broken n) k s h = s
decided_when Types.Formed.unsound k s h = s

decided_place : (f : Form) (k : Place → Formed) → ((p : Place) → Decided (k p)) → Decided (on_place f k)
decided_place (place p) k h = h p
decided_place (value v) k h = tt
decided_place (copies p q n) k h = tt

decided_name : (i : ℕ) (m : Meaning) → Certain m → Decided (named_as i m)
decided_name i (variable t) c = tt
decided_name i (reference t) c = tt
decided_name i (type_name t) c = tt
decided_name i (procedure fs ts) c = tt
decided_name i Meaning.unsound c = c

decided_element : (t : Ty) (f : Form) (v : Value) (b : Bool) → Decided (element_of t f v b)
decided_element int f v b = tt
decided_element bool f v b = tt
decided_element (array t n) f v b = either Decided b _ _ (λ _. decided_place f _ (λ p. tt)) tt
decided_element (struct ms) f v b = tt

decided_selected : (ms : Members) (x : Name) (f : Form) (k : ℕ) → Decided (selected ms x f k)
decided_selected no_member x f k = tt
decided_selected (member y t ms) x f k = either Decided (same_name x y) _ _ (λ _. decided_place f _ (λ p. tt)) (decided_selected ms x f _)

decided_field : (t : Ty) (x : Name) (f : Form) → Decided (field_of t x f)
decided_field int x f = tt
decided_field bool x f = tt
decided_field (array t n) x f = tt
decided_field (struct ms) x f = decided_selected ms x f 0

pub form_complete : (e : Expression) (Δ : Open) (Γ : Scope) → Known Δ Γ → Nil (names e Δ) → Nil (kinds e Γ) → SoundFormed (form_of e Γ)
form_complete (Tree.number at z) Δ Γ g n k = tt
form_complete (Tree.truth at b) Δ Γ g n k = tt
form_complete (Tree.name at x) Δ Γ g n k = form_sound _ at (decided_name (number_of x Γ) (meaning_of x Γ) (g x (is_known Δ at x n))) k
form_complete (Tree.assign at e f) Δ Γ g n k =
    let j = nil_right (kinds e Γ) _ k in
    let a = form_complete e Δ Γ g (nil_left _ _ n) (nil_left _ _ k) in
    let b = form_complete f Δ Γ g (nil_right (names e Δ) _ n) (nil_right (own_form (form_of (Tree.assign at e f) Γ) at) _ j) in
    form_sound _ at (decided_when (form_of e Γ) _ a (λ f' t. decided_when (form_of f Γ) _ b (λ h u.
    either Decided (fits t u) _ _ (λ _. decided_place f' _ (λ p. either Decided (scalar t) _ _ (λ _. tt) (decided_place h _ (λ q. tt)))) tt)))
    (nil_left (own_form (form_of (Tree.assign at e f) Γ) at) _ j)
form_complete (Tree.binary at o e f) Δ Γ g n k =
    let j = nil_right (kinds e Γ) _ k in
    let a = form_complete e Δ Γ g (nil_left _ _ n) (nil_left _ _ k) in
    let b = form_complete f Δ Γ g (nil_right (names e Δ) _ n) (nil_right (own_form (form_of (Tree.binary at o e f) Γ) at) _ j) in
    form_sound _ at (decided_when (form_of e Γ) _ a (λ f' t. decided_when (form_of f Γ) _ b (λ h u.
    either Decided (allowed (signature o) t u) _ _ (λ _. tt) tt)))
    (nil_left (own_form (form_of (Tree.binary at o e f) Γ) at) _ j)
form_complete (Tree.unary at o e) Δ Γ g n k =
    let a = form_complete e Δ Γ g n (nil_right (own_form (form_of (Tree.unary at o e) Γ) at) _ k) in
    form_sound _ at (decided_when (form_of e Γ) _ a (λ f t. either Decided (fits (operand o) t) _ _ (λ _. tt) tt))
    (nil_left (own_form (form_of (Tree.unary at o e) Γ) at) _ k)
form_complete (Tree.index at e f) Δ Γ g n k =
    let j = nil_right (kinds e Γ) _ k in
    let a = form_complete e Δ Γ g (nil_left _ _ n) (nil_left _ _ k) in
    let b = form_complete f Δ Γ g (nil_right (names e Δ) _ n) (nil_right (own_form (form_of (Tree.index at e f) Γ) at) _ j) in
    form_sound _ at (decided_when (form_of e Γ) _ a (λ f' t. decided_when (form_of f Γ) _ b (λ h u. decided_element t f' (read_of h) (fits int u))))
    (nil_left (own_form (form_of (Tree.index at e f) Γ) at) _ j)
form_complete (Tree.select at e x) Δ Γ g n k =
    let a = form_complete e Δ Γ g n (nil_left _ _ k) in
    form_sound _ at (decided_when (form_of e Γ) _ a (λ f t. decided_field t x f)) (nil_right (kinds e Γ) _ k)
