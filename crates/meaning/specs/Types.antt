-- Types, names and what they stand for, and the rules by which a type and an expression are sound. A node is broken,
-- under the number of its own rule, or unsound because a part or a declaration of it is not sound.
use Rattle.std.specs.Prelude.{ℕ, ◌+◌, ◌*◌, Bool, true, false, cond, ◌&&◌, List, [], ◌∷◌, ℤ, pos, negsuc, ◌==◌}
use Rattle.tiny.specs.Tree.{Name, TypeTree, Fields, Expression}
use Rattle.tiny.specs.Tree as Tree
use Rattle.meaning.specs.Rule.{Unary, Binary, Place, Value, Formal}
use Rattle.meaning.specs.Rule as Rule

-- an array's element and length, a struct's fields
mutual
  pub data Ty : Type 0 where
    int bool : Ty
    array : Ty → ℕ → Ty
    struct : Members → Ty

  pub data Members : Type 0 where
    no_member : Members
    member : Name → Ty → Members → Members

-- in cells
abbrev mutual
  pub size : Ty → ℕ
  size int = 1
  size bool = 1
  size (array t n) = n * size t
  size (struct ms) = members_size ms

  pub members_size : Members → ℕ
  members_size no_member = 0
  members_size (member x t ms) = size t + members_size ms

abbrev pub same_name : Name → Name → Bool
same_name [] [] = true
same_name [] (y ∷ ys) = false
same_name (x ∷ xs) [] = false
same_name (x ∷ xs) (y ∷ ys) = x == y && same_name xs ys

-- types fit by structure: lengths count, the names of types and fields do not
abbrev mutual
  pub fits : Ty → Ty → Bool
  fits int int = true
  fits int bool = false
  fits int (array u m) = false
  fits int (struct ns) = false
  fits bool int = false
  fits bool bool = true
  fits bool (array u m) = false
  fits bool (struct ns) = false
  fits (array t n) int = false
  fits (array t n) bool = false
  fits (array t n) (array u m) = n == m && fits t u
  fits (array t n) (struct ns) = false
  fits (struct ms) int = false
  fits (struct ms) bool = false
  fits (struct ms) (array u m) = false
  fits (struct ms) (struct ns) = members_fit ms ns

  pub members_fit : Members → Members → Bool
  members_fit no_member no_member = true
  members_fit no_member (member y u ns) = false
  members_fit (member x t ms) no_member = false
  members_fit (member x t ms) (member y u ns) = fits t u && members_fit ms ns

-- what a declared name means; `unsound` where its type or its formals are not sound
pub data Meaning : Type 0 where
  variable reference type_name : Ty → Meaning
  procedure : List Formal → List Ty → Meaning
  unsound : Meaning

pub record Declared : Type 0 where
  pub name : Name
  pub meaning : Meaning

abbrev pub Scope : Type 0
Scope = List Declared

-- the meaning of the latest declaration of a name in the innermost scope that has one
abbrev pub meaning_of : Name → Scope → Meaning
meaning_of x [] = unsound
meaning_of x (d ∷ Γ) = cond (same_name x d.name) d.meaning (meaning_of x Γ)

-- how many names a declaration adds to those of the rule, where types have none
abbrev pub counts : Meaning → ℕ
counts (variable t) = 1
counts (reference t) = 1
counts (type_name t) = 0
counts (procedure fs ts) = 1
counts unsound = 1

-- the number of a name in the rule
abbrev pub number_of : Name → Scope → ℕ
number_of x [] = 0
number_of x (d ∷ Γ) = cond (same_name x d.name) 0 (counts d.meaning + number_of x Γ)

pub data Typed : Type 0 where
  sound : Ty → Typed
  broken : ℕ → Typed
  unsound : Typed

abbrev pub when_type : Typed → (Ty → Typed) → Typed
when_type (sound t) k = k t
when_type (broken n) k = unsound
when_type unsound k = unsound

-- a name of another kind is 10, a negative length 11
abbrev pub as_type : Meaning → Typed
as_type (variable t) = broken 10
as_type (reference t) = broken 10
as_type (type_name t) = sound t
as_type (procedure fs ts) = broken 10
as_type unsound = unsound

abbrev pub sized : ℤ → Ty → Typed
sized (pos n) t = sound (array t n)
sized (negsuc n) t = broken 11

pub data Membered : Type 0 where
  sound : Members → Membered
  unsound : Membered

abbrev pub with_member : Name → Typed → Membered → Membered
with_member x (sound t) (sound ms) = sound (member x t ms)
with_member x (sound t) unsound = unsound
with_member x (broken n) ms = unsound
with_member x unsound ms = unsound

abbrev pub as_struct : Membered → Typed
as_struct (sound ms) = sound (struct ms)
as_struct unsound = unsound

abbrev mutual
  pub type_of : TypeTree → Scope → Typed
  type_of (Tree.int_type at) Γ = sound int
  type_of (Tree.bool_type at) Γ = sound bool
  type_of (Tree.named at x) Γ = as_type (meaning_of x Γ)
  type_of (Tree.array at t n) Γ = when_type (type_of t Γ) (sized n)
  type_of (Tree.struct at fs) Γ = as_struct (members_of fs Γ)

  pub members_of : Fields → Scope → Membered
  members_of Tree.no_field Γ = sound no_member
  members_of (Tree.field_of t at x fs) Γ = with_member x (type_of t Γ) (members_of fs Γ)

-- what an expression is: a designator, a value, or the assignment of a whole array or struct of so many cells
pub data Form : Type 0 where
  place : Place → Form
  value : Value → Form
  copies : Place → Place → ℕ → Form

pub data Formed : Type 0 where
  sound : Form → Ty → Formed
  broken : ℕ → Formed
  unsound : Formed

abbrev pub when_form : Formed → (Form → Ty → Formed) → Formed
when_form (sound f t) k = k f t
when_form (broken n) k = unsound
when_form unsound k = unsound

-- an int or bool as a value: a designator is read
abbrev pub read_of : Form → Value
read_of (place p) = Rule.content p
read_of (value v) = v
read_of (copies p q n) = Rule.literal (pos 0)

-- 12 where a designator is needed
abbrev pub on_place : Form → (Place → Formed) → Formed
on_place (place p) k = k p
on_place (value v) k = broken 12
on_place (copies p q n) k = broken 12

abbrev pub scalar : Ty → Bool
scalar int = true
scalar bool = true
scalar (array t n) = false
scalar (struct ms) = false

abbrev pub named_as : ℕ → Meaning → Formed
named_as i (variable t) = sound (place (Rule.variable i)) t
named_as i (reference t) = sound (place (Rule.reference i)) t
named_as i (type_name t) = broken 10
named_as i (procedure fs ts) = broken 10
named_as i unsound = unsound

-- 11 goes before 12; the right side of an array or struct is a designator too
abbrev pub assigned : Form → Ty → Form → Ty → Formed
assigned f t g u =
    cond (fits t u) (on_place f (λ p. cond (scalar t) (sound (value (Rule.store p (read_of g))) t) (on_place g (λ q. sound (copies p q (size t)) t)))) (broken 11)

-- the types that an operator takes, and the one that it gives
pub data Signature : Type 0 where
  arithmetic logic relation : Signature

abbrev pub signature : Binary → Signature
signature Rule.add = arithmetic
signature Rule.sub = arithmetic
signature Rule.mul = arithmetic
signature Rule.quot = arithmetic
signature Rule.rem = arithmetic
signature Rule.and = logic
signature Rule.or = logic
signature Rule.lt = relation
signature Rule.le = relation
signature Rule.gt = relation
signature Rule.ge = relation
signature Rule.eq = relation
signature Rule.ne = relation

abbrev pub allowed : Signature → Ty → Ty → Bool
allowed arithmetic t u = fits int t && fits int u
allowed logic t u = fits bool t && fits bool u
allowed relation t u = scalar t && fits t u

abbrev pub result : Signature → Ty
result arithmetic = int
result logic = bool
result relation = bool

abbrev pub operand : Unary → Ty
operand Rule.neg = int
operand Rule.not = bool

-- `ok`: the index is an int
abbrev pub element_of : Ty → Form → Value → Bool → Formed
element_of int f v ok = broken 11
element_of bool f v ok = broken 11
element_of (array t n) f v ok = cond ok (on_place f (λ p. sound (place (Rule.element p v n (size t))) t)) (broken 11)
element_of (struct ms) f v ok = broken 11

-- the field x, the first of the members `k` cells in; one that the struct lacks is 10
abbrev pub selected : Members → Name → Form → ℕ → Formed
selected no_member x f k = broken 10
selected (member y t ms) x f k =
    cond (same_name x y) (on_place f (λ p. sound (place (Rule.field p k)) t)) (selected ms x f (k + size t))

abbrev pub field_of : Ty → Name → Form → Formed
field_of int x f = broken 11
field_of bool x f = broken 11
field_of (array t n) x f = broken 11
field_of (struct ms) x f = selected ms x f 0

abbrev pub form_of : Expression → Scope → Formed
form_of (Tree.number at z) Γ = sound (value (Rule.literal z)) int
form_of (Tree.truth at b) Γ = sound (value (Rule.literal (cond b (pos 1) (pos 0)))) bool
form_of (Tree.name at x) Γ = named_as (number_of x Γ) (meaning_of x Γ)
form_of (Tree.assign at d e) Γ = when_form (form_of d Γ) (λ f t. when_form (form_of e Γ) (λ g u. assigned f t g u))
form_of (Tree.binary at o d e) Γ =
    when_form (form_of d Γ) (λ f t. when_form (form_of e Γ) (λ g u.
    cond (allowed (signature o) t u) (sound (value (Rule.binary o (read_of f) (read_of g))) (result (signature o))) (broken 11)))
form_of (Tree.unary at o e) Γ =
    when_form (form_of e Γ) (λ f t. cond (fits (operand o) t) (sound (value (Rule.unary o (read_of f))) t) (broken 11))
form_of (Tree.index at d e) Γ = when_form (form_of d Γ) (λ f t. when_form (form_of e Γ) (λ g u. element_of t f (read_of g) (fits int u)))
form_of (Tree.select at d x) Γ = when_form (form_of d Γ) (λ f t. field_of t x f)
