-- The rules by which a statement and a block are sound, and the rule that a sound block makes.
use Rattle.std.specs.Prelude.{ℕ, Bool, true, false, cond, not, ◌&&◌, List, [], ◌∷◌, ◌++◌}
use Rattle.tiny.specs.Tree.{Name, Expression, Formals, Statement, Statements, DeclarationTrees, BlockTree}
use Rattle.tiny.specs.Tree as Tree
use Rattle.meaning.specs.Types.{Ty, int, bool, size, fits, scalar, Meaning, Scope, Typed, Form, Formed, meaning_of, number_of, type_of, form_of, read_of, place, value, copies}
use Rattle.meaning.specs.Types as Types
use Rattle.meaning.specs.Rule.{Place, Value, Argument, Formal, Action, Actions, Declarations, Block}
use Rattle.meaning.specs.Rule as Rule

pub data Acted : Type 0 where
  sound : Action → Acted
  broken : ℕ → Acted
  unsound : Acted

pub data Blocked : Type 0 where
  sound : Block → Blocked
  unsound : Blocked

pub data Listed : Type 0 where
  sound : Actions → Listed
  unsound : Listed

abbrev pub when_expression : Formed → (Form → Ty → Acted) → Acted
when_expression (Types.Formed.sound f t) k = k f t
when_expression (Types.Formed.broken n) k = unsound
when_expression Types.Formed.unsound k = unsound

abbrev pub when_block : Blocked → (Block → Acted) → Acted
when_block (sound b) k = k b
when_block unsound k = unsound

-- under `@`
abbrev pub dropped : Form → Action
dropped (place p) = Rule.drop_place p
dropped (value v) = Rule.drop_value v
dropped (copies p q n) = Rule.copy p q n

-- 12 where a designator is needed
abbrev pub onto : Form → (Place → Acted) → Acted
onto (place p) k = k p
onto (value v) k = broken 12
onto (copies p q n) k = broken 12

-- an int, a bool, or a break under 11
abbrev pub by_scalar : Ty → Acted → Acted → Acted
by_scalar int a b = a
by_scalar bool a b = b
by_scalar (Types.array t n) a b = broken 11
by_scalar (Types.struct ms) a b = broken 11

-- the arguments of a call: too many or too few, of another type, not a designator where one is needed, or sound
pub data Given : Type 0 where
  sound : List Argument → Given
  broken : ℕ → Given
  unsound : Given

-- a formal by reference needs a designator, and so does an array or a struct
abbrev pub argument : Formal → Form → Argument → Given
argument (Rule.by_value s) f a = sound (a ∷ [])
argument (Rule.by_reference s) (place p) a = sound (Rule.address p ∷ [])
argument (Rule.by_reference s) (value v) a = broken 12
argument (Rule.by_reference s) (copies p q n) a = broken 12

abbrev pub aggregate : Formal → Form → Ty → Given
aggregate f (place p) t = argument f (place p) (Rule.copied p (size t))
aggregate f (value v) t = broken 12
aggregate f (copies p q n) t = broken 12

abbrev pub given_one : Formal → Ty → Form → Ty → Given
given_one f t g u = cond (fits t u) (cond (scalar t) (argument f g (Rule.value (read_of g))) (aggregate f g t)) (broken 11)

-- of two breaks in one call: 13 before 11, 11 before 12
abbrev pub join : Given → Given → Given
join (sound xs) (sound ys) = sound (xs ++ ys)
join (sound xs) (broken n) = broken n
join (sound xs) unsound = unsound
join (broken m) (sound ys) = broken m
join (broken m) (broken n) = cond (worse m n) (broken n) (broken m)
  where
    worse : ℕ → ℕ → Bool
    worse m n = cond (lib.Dec.eqb n 13) true (lib.Dec.ltb n m && not (lib.Dec.eqb m 13))
join (broken m) unsound = unsound
join unsound gs = unsound

abbrev pub given : List Formal → List Ty → List Formed → Given
given [] ts [] = sound []
given [] ts (Types.Formed.sound g u ∷ gs) = join (broken 13) (given [] ts gs)
given [] ts (Types.Formed.broken n ∷ gs) = unsound
given [] ts (Types.Formed.unsound ∷ gs) = unsound
given (f ∷ fs) [] gs = broken 13
given (f ∷ fs) (t ∷ ts) [] = broken 13
given (f ∷ fs) (t ∷ ts) (Types.Formed.sound g u ∷ gs) = join (given_one f t g u) (given fs ts gs)
given (f ∷ fs) (t ∷ ts) (Types.Formed.broken n ∷ gs) = unsound
given (f ∷ fs) (t ∷ ts) (Types.Formed.unsound ∷ gs) = unsound

abbrev pub forms_of : List Expression → Scope → List Formed
forms_of [] Γ = []
forms_of (e ∷ es) Γ = form_of e Γ ∷ forms_of es Γ

abbrev pub calling : ℕ → Given → Acted
calling i (sound xs) = sound (Rule.call i xs)
calling i (broken n) = broken n
calling i unsound = unsound

-- the name after call is a node of its own, broken under 10 where it is no procedure's
abbrev pub called : ℕ → Meaning → List Formed → Acted
called i (Types.Meaning.variable t) gs = unsound
called i (Types.Meaning.reference t) gs = unsound
called i (Types.Meaning.type_name t) gs = unsound
called i (Types.Meaning.procedure fs ts) gs = calling i (given fs ts gs)
called i Types.Meaning.unsound gs = unsound

-- what a declared name means, by its type
abbrev pub meant : Typed → (Ty → Meaning) → Meaning
meant (Types.Typed.sound t) k = k t
meant (Types.Typed.broken n) k = Types.Meaning.unsound
meant Types.Typed.unsound k = Types.Meaning.unsound

abbrev pub declare : Name → Meaning → Scope → Scope
declare x m Γ = record { name = x; meaning = m } ∷ Γ

abbrev pub formal_of : Bool → Ty → Formal
formal_of true t = Rule.by_reference (size t)
formal_of false t = Rule.by_value (size t)

abbrev pub with_formal : Bool → Typed → Meaning → Meaning
with_formal r (Types.Typed.sound t) (Types.Meaning.procedure fs ts) = Types.Meaning.procedure (formal_of r t ∷ fs) (t ∷ ts)
with_formal r (Types.Typed.sound t) (Types.Meaning.variable u) = Types.Meaning.unsound
with_formal r (Types.Typed.sound t) (Types.Meaning.reference u) = Types.Meaning.unsound
with_formal r (Types.Typed.sound t) (Types.Meaning.type_name u) = Types.Meaning.unsound
with_formal r (Types.Typed.sound t) Types.Meaning.unsound = Types.Meaning.unsound
with_formal r (Types.Typed.broken n) m = Types.Meaning.unsound
with_formal r Types.Typed.unsound m = Types.Meaning.unsound

-- what a formal means inside its procedure
abbrev pub passed : Bool → Ty → Meaning
passed true t = Types.Meaning.reference t
passed false t = Types.Meaning.variable t

-- While the formals of a procedure f are typed, its name means what m says: a procedure, so long as the formals before are sound.
-- Δ are the formals before, Γ what stands outside.
abbrev pub still : Meaning → Typed → Meaning
still m (Types.Typed.sound t) = m
still m (Types.Typed.broken n) = Types.Meaning.unsound
still m Types.Typed.unsound = Types.Meaning.unsound

abbrev pub seen_by : Name → Meaning → Scope → Scope → Scope
seen_by f m Δ Γ = Δ ++ declare f m Γ

abbrev pub signature_from : Formals → Name → Meaning → Scope → Scope → Meaning
signature_from Tree.no_formal f m Δ Γ = Types.Meaning.procedure [] []
signature_from (Tree.formal t r at x fs) f m Δ Γ =
    let typed : Typed = type_of t (seen_by f m Δ Γ) in
    with_formal r typed (signature_from fs f (still m typed) (declare x (meant typed (passed r)) Δ) Γ)

abbrev pub formals_from : Formals → Name → Meaning → Scope → Scope → Scope
formals_from Tree.no_formal f m Δ Γ = Δ
formals_from (Tree.formal t r at x fs) f m Δ Γ =
    let typed : Typed = type_of t (seen_by f m Δ Γ) in
    formals_from fs f (still m typed) (declare x (meant typed (passed r)) Δ) Γ

abbrev pub plain : Meaning
plain = Types.Meaning.procedure [] []

-- a procedure's meaning, the scope behind its declaration, and the one inside it
abbrev pub signature_of : Name → Formals → Scope → Meaning
signature_of x fs Γ = signature_from fs x plain [] Γ

abbrev pub procedure_scope : Name → Formals → Scope → Scope
procedure_scope x fs Γ = declare x (signature_of x fs Γ) Γ

abbrev pub inside : Name → Formals → Scope → Scope
inside x fs Γ = formals_from fs x plain [] Γ ++ procedure_scope x fs Γ

abbrev pub scope_of : DeclarationTrees → Scope → Scope
scope_of Tree.no_declaration Γ = Γ
scope_of (Tree.variable t at x ds) Γ = scope_of ds (declare x (meant (type_of t Γ) Types.Meaning.variable) Γ)
scope_of (Tree.type_name t at x ds) Γ = scope_of ds (declare x (meant (type_of t Γ) Types.Meaning.type_name) Γ)
scope_of (Tree.procedure at x fs b ds) Γ = scope_of ds (procedure_scope x fs Γ)

pub data Declares : Type 0 where
  sound : Declarations → Declares
  unsound : Declares

abbrev pub local : Typed → Declares → Declares
local (Types.Typed.sound t) (sound ds) = sound (Rule.local (size t) ds)
local (Types.Typed.sound t) unsound = unsound
local (Types.Typed.broken n) ds = unsound
local Types.Typed.unsound ds = unsound

-- a type that is named leaves nothing in the rule
abbrev pub unseen : Typed → Declares → Declares
unseen (Types.Typed.sound t) ds = ds
unseen (Types.Typed.broken n) ds = unsound
unseen Types.Typed.unsound ds = unsound

abbrev pub proc : Meaning → Blocked → Declares → Declares
proc (Types.Meaning.procedure fs ts) (sound b) (sound ds) = sound (Rule.proc fs b ds)
proc (Types.Meaning.procedure fs ts) (sound b) unsound = unsound
proc (Types.Meaning.procedure fs ts) unsound ds = unsound
proc (Types.Meaning.variable t) b ds = unsound
proc (Types.Meaning.reference t) b ds = unsound
proc (Types.Meaning.type_name t) b ds = unsound
proc Types.Meaning.unsound b ds = unsound

abbrev pub then : Acted → Listed → Listed
then (sound a) (sound xs) = sound (Rule.◌then◌ a xs)
then (sound a) unsound = unsound
then (broken n) xs = unsound
then unsound xs = unsound

abbrev pub with_actions : Declares → Listed → Blocked
with_actions (sound ds) (sound xs) = sound (Rule.block ds xs)
with_actions (sound ds) unsound = unsound
with_actions unsound xs = unsound

-- the test of an if or a while is a bool, else 11
abbrev pub test : Formed → (Value → Acted) → Acted
test g k = when_expression g (λ f t. cond (fits bool t) (k (read_of f)) (broken 11))

abbrev mutual
  pub action_of : Statement → Scope → Acted
  action_of (Tree.eval at e) Γ = when_expression (form_of e Γ) (λ f t. sound (dropped f))
  action_of (Tree.if_then at e b) Γ = when_block (block_of b Γ) (λ c. test (form_of e Γ) (λ v. sound (Rule.choose v c)))
  action_of (Tree.if_else at e b c) Γ =
      when_block (block_of b Γ) (λ b'. when_block (block_of c Γ) (λ c'. test (form_of e Γ) (λ v. sound (Rule.choose_else v b' c'))))
  action_of (Tree.while at e b) Γ = when_block (block_of b Γ) (λ c. test (form_of e Γ) (λ v. sound (Rule.repeat v c)))
  action_of (Tree.read at e) Γ =
      when_expression (form_of e Γ) (λ f t. by_scalar t (onto f (λ p. sound (Rule.read_int p))) (onto f (λ p. sound (Rule.read_bool p))))
  action_of (Tree.write at e) Γ =
      when_expression (form_of e Γ) (λ f t. by_scalar t (sound (Rule.write_int (read_of f))) (sound (Rule.write_bool (read_of f))))
  action_of (Tree.nl at) Γ = sound Rule.newline
  action_of (Tree.call at here x es) Γ = called (number_of x Γ) (meaning_of x Γ) (forms_of es Γ)
  action_of (Tree.compound b) Γ = when_block (block_of b Γ) (λ c. sound (Rule.inner c))

  pub actions_of : Statements → Scope → Listed
  actions_of Tree.no_statement Γ = sound Rule.nothing
  actions_of (Tree.statement s ss) Γ = then (action_of s Γ) (actions_of ss Γ)

  pub declarations_of : DeclarationTrees → Scope → Declares
  declarations_of Tree.no_declaration Γ = sound Rule.none
  declarations_of (Tree.variable t at x ds) Γ =
      local (type_of t Γ) (declarations_of ds (declare x (meant (type_of t Γ) Types.Meaning.variable) Γ))
  declarations_of (Tree.type_name t at x ds) Γ =
      unseen (type_of t Γ) (declarations_of ds (declare x (meant (type_of t Γ) Types.Meaning.type_name) Γ))
  declarations_of (Tree.procedure at x fs b ds) Γ =
      proc (signature_of x fs Γ) (block_of b (inside x fs Γ)) (declarations_of ds (procedure_scope x fs Γ))

  pub block_of : BlockTree → Scope → Blocked
  block_of (Tree.block at ds ss) Γ = with_actions (declarations_of ds Γ) (actions_of ss (scope_of ds Γ))
