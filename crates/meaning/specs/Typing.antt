-- What it is for a tree to be well typed, one constructor for each rule of the language; a tree is accepted exactly
-- if it is well typed and no stage finds a break of depth, names or sizes.
use Rattle.std.specs.Prelude.{◌≡◌, ℕ, Bool, true, false, T, ◌⊎◌, List, [], ◌∷◌, ◌++◌, ℤ, pos}
use Rattle.tiny.specs.Tree.{Name, TypeTree, Fields, Expression, Formals, Statement, Statements, DeclarationTrees, BlockTree}
use Rattle.tiny.specs.Tree as Tree
use Rattle.tiny.specs.Operators.{Unary, Binary}
use Rattle.meaning.specs.Rule.{Formal, Block}
use Rattle.meaning.specs.Rule as Rule
use Rattle.meaning.specs.Types.{Ty, int, bool, array, struct, Members, no_member, member, fits, scalar, Scope, same_name, meaning_of, signature, allowed, result, operand}
use Rattle.meaning.specs.Types as Types
use Rattle.meaning.specs.Statements.{declare, passed, formal_of, plain}
use Rattle.meaning.specs.Stages.{judged, accepted, deep_block, names_block, large_program}

mutual
  pub data IsType (Γ : Scope) : TypeTree → Ty → Type 0 where
    int_is : {at : ℕ} → IsType Γ (Tree.int_type at) int
    bool_is : {at : ℕ} → IsType Γ (Tree.bool_type at) bool
    name_is : {at : ℕ} {x : Name} {t : Ty} → meaning_of x Γ ≡ Types.Meaning.type_name t → IsType Γ (Tree.named at x) t
    -- a length is not negative
    array_is : {at n : ℕ} {e : TypeTree} {t : Ty} → IsType Γ e t → IsType Γ (Tree.array at e (pos n)) (array t n)
    struct_is : {at : ℕ} {fs : Fields} {ms : Members} → AreFields Γ fs ms → IsType Γ (Tree.struct at fs) (struct ms)

  pub data AreFields (Γ : Scope) : Fields → Members → Type 0 where
    no_fields : AreFields Γ Tree.no_field no_member
    a_field : {at : ℕ} {x : Name} {e : TypeTree} {t : Ty} {fs : Fields} {ms : Members} → IsType Γ e t → AreFields Γ fs ms → AreFields Γ (Tree.field_of e at x fs) (member x t ms)

-- a name, an element or a field, of what is a designator itself
pub data Designator : Expression → Type 0 where
  name_designates : {at : ℕ} {x : Name} → Designator (Tree.name at x)
  element_designates : {at : ℕ} {d e : Expression} → Designator d → Designator (Tree.index at d e)
  field_designates : {at : ℕ} {d : Expression} {x : Name} → Designator d → Designator (Tree.select at d x)

-- the struct has the field, of this type
pub data Has : Members → Name → Ty → Type 0 where
  first_field : {x y : Name} {t : Ty} {ms : Members} → same_name x y ≡ true → Has (member y t ms) x t
  later_field : {x y : Name} {t u : Ty} {ms : Members} → same_name x y ≡ false → Has ms x u → Has (member y t ms) x u

pub data HasType (Γ : Scope) : Expression → Ty → Type 0 where
  a_number : {at : ℕ} {z : ℤ} → HasType Γ (Tree.number at z) int
  a_truth : {at : ℕ} {b : Bool} → HasType Γ (Tree.truth at b) bool
  a_variable : {at : ℕ} {x : Name} {t : Ty} → meaning_of x Γ ≡ Types.Meaning.variable t → HasType Γ (Tree.name at x) t
  a_reference : {at : ℕ} {x : Name} {t : Ty} → meaning_of x Γ ≡ Types.Meaning.reference t → HasType Γ (Tree.name at x) t
  -- types fit, the left side is a designator, and so is an array or a struct on the right
  an_assignment : {at : ℕ} {d e : Expression} {t u : Ty} → HasType Γ d t → HasType Γ e u → T (fits t u) → Designator d → T (scalar t) ⊎ Designator e → HasType Γ (Tree.assign at d e) t
  an_operation : {at : ℕ} {o : Binary} {d e : Expression} {t u : Ty} → HasType Γ d t → HasType Γ e u → T (allowed (signature o) t u) → HasType Γ (Tree.binary at o d e) (result (signature o))
  a_prefix : {at : ℕ} {o : Unary} {e : Expression} {t : Ty} → HasType Γ e t → T (fits (operand o) t) → HasType Γ (Tree.unary at o e) t
  an_element : {at n : ℕ} {d e : Expression} {t : Ty} → HasType Γ d (array t n) → HasType Γ e int → Designator d → HasType Γ (Tree.index at d e) t
  a_selection : {at : ℕ} {d : Expression} {x : Name} {ms : Members} {t : Ty} → HasType Γ d (struct ms) → Has ms x t → Designator d → HasType Γ (Tree.select at d x) t

-- by reference a designator, by value an int or a bool, or a designator
abbrev pub Given : Formal → Ty → Expression → Type 0
Given (Rule.by_value s) t e = T (scalar t) ⊎ Designator e
Given (Rule.by_reference s) t e = Designator e

-- as many arguments as formals, each of a type that fits
pub data Passes (Γ : Scope) : List Formal → List Ty → List Expression → Type 0 where
  no_argument : Passes Γ [] [] []
  an_argument : {f : Formal} {t u : Ty} {e : Expression} {fs : List Formal} {ts : List Ty} {es : List Expression} → HasType Γ e u → T (fits t u) → Given f t e → Passes Γ fs ts es → Passes Γ (f ∷ fs) (t ∷ ts) (e ∷ es)

-- the formals of a procedure f over Γ: each type is read after f and the formals before it; Δ has those before, Θ all of them
pub data AreFormals (Γ : Scope) (f : Name) : Formals → Scope → Scope → List Formal → List Ty → Type 0 where
  no_formals : {Δ : Scope} → AreFormals Γ f Tree.no_formal Δ Δ [] []
  a_formal : {at : ℕ} {r : Bool} {x : Name} {e : TypeTree} {t : Ty} {fs : Formals} {Δ Θ : Scope} {ls : List Formal} {ts : List Ty} →
      IsType (Δ ++ declare f plain Γ) e t → AreFormals Γ f fs (declare x (passed r t) Δ) Θ ls ts → AreFormals Γ f (Tree.formal e r at x fs) Δ Θ (formal_of r t ∷ ls) (t ∷ ts)

mutual
  pub data IsFine : Scope → Statement → Type 0 where
    eval_fine : {Γ : Scope} {at : ℕ} {e : Expression} {t : Ty} → HasType Γ e t → IsFine Γ (Tree.eval at e)
    if_fine : {Γ : Scope} {at : ℕ} {e : Expression} {b : BlockTree} → HasType Γ e bool → FineBlock Γ b → IsFine Γ (Tree.if_then at e b)
    if_else_fine : {Γ : Scope} {at : ℕ} {e : Expression} {b c : BlockTree} → HasType Γ e bool → FineBlock Γ b → FineBlock Γ c → IsFine Γ (Tree.if_else at e b c)
    while_fine : {Γ : Scope} {at : ℕ} {e : Expression} {b : BlockTree} → HasType Γ e bool → FineBlock Γ b → IsFine Γ (Tree.while at e b)
    read_fine : {Γ : Scope} {at : ℕ} {e : Expression} {t : Ty} → HasType Γ e t → T (scalar t) → Designator e → IsFine Γ (Tree.read at e)
    write_fine : {Γ : Scope} {at : ℕ} {e : Expression} {t : Ty} → HasType Γ e t → T (scalar t) → IsFine Γ (Tree.write at e)
    nl_fine : {Γ : Scope} {at : ℕ} → IsFine Γ (Tree.nl at)
    call_fine : {Γ : Scope} {at place : ℕ} {x : Name} {es : List Expression} {fs : List Formal} {ts : List Ty} → meaning_of x Γ ≡ Types.Meaning.procedure fs ts → Passes Γ fs ts es → IsFine Γ (Tree.call at place x es)
    compound_fine : {Γ : Scope} {b : BlockTree} → FineBlock Γ b → IsFine Γ (Tree.compound b)

  pub data AreFine : Scope → Statements → Type 0 where
    no_statements : {Γ : Scope} → AreFine Γ Tree.no_statement
    a_statement : {Γ : Scope} {s : Statement} {ss : Statements} → IsFine Γ s → AreFine Γ ss → AreFine Γ (Tree.statement s ss)

  -- the declarations over Γ make the scope Θ
  pub data Declares : Scope → DeclarationTrees → Scope → Type 0 where
    no_declarations : {Γ : Scope} → Declares Γ Tree.no_declaration Γ
    a_variable : {Γ Θ : Scope} {at : ℕ} {x : Name} {e : TypeTree} {t : Ty} {ds : DeclarationTrees} → IsType Γ e t → Declares (declare x (Types.Meaning.variable t) Γ) ds Θ → Declares Γ (Tree.variable e at x ds) Θ
    a_type : {Γ Θ : Scope} {at : ℕ} {x : Name} {e : TypeTree} {t : Ty} {ds : DeclarationTrees} → IsType Γ e t → Declares (declare x (Types.Meaning.type_name t) Γ) ds Θ → Declares Γ (Tree.type_name e at x ds) Θ
    a_procedure : {Γ Δ Θ : Scope} {at : ℕ} {x : Name} {fs : Formals} {b : BlockTree} {ds : DeclarationTrees} {ls : List Formal} {ts : List Ty} →
        AreFormals Γ x fs [] Δ ls ts → FineBlock (Δ ++ declare x (Types.Meaning.procedure ls ts) Γ) b → Declares (declare x (Types.Meaning.procedure ls ts) Γ) ds Θ → Declares Γ (Tree.procedure at x fs b ds) Θ

  pub data FineBlock : Scope → BlockTree → Type 0 where
    block_fine : {Γ Θ : Scope} {at : ℕ} {ds : DeclarationTrees} {ss : Statements} → Declares Γ ds Θ → AreFine Θ ss → FineBlock Γ (Tree.block at ds ss)

abbrev pub AcceptedIsTyped : Type 0
AcceptedIsTyped = (t : BlockTree) (b : Block) → judged t ≡ accepted b → FineBlock [] t

abbrev pub TypedIsAccepted : Type 0
TypedIsAccepted = (t : BlockTree) → deep_block t 1 0 ≡ [] → names_block t [] ≡ [] → FineBlock [] t → large_program t ≡ [] → (b : Block) × (judged t ≡ accepted b)
