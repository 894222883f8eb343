-- The tree of a rule as it was written. A node's first number is its place: the byte offset of its token.
use Rattle.std.specs.Prelude.{ℕ, Bool, List, ℤ}
use Rattle.tiny.specs.Operators.{Unary, Binary}

abbrev pub Name : Type 0
Name = List ℕ

mutual
  pub data TypeTree : Type 0 where
    int_type bool_type : ℕ → TypeTree
    named : ℕ → Name → TypeTree
    array : ℕ → TypeTree → ℤ → TypeTree
    struct : ℕ → Fields → TypeTree

  pub data Fields : Type 0 where
    no_field : Fields
    field_of : TypeTree → ℕ → Name → Fields → Fields

pub data Expression : Type 0 where
  number : ℕ → ℤ → Expression
  truth : ℕ → Bool → Expression
  name : ℕ → Name → Expression
  assign : ℕ → Expression → Expression → Expression
  binary : ℕ → Binary → Expression → Expression → Expression
  unary : ℕ → Unary → Expression → Expression
  index : ℕ → Expression → Expression → Expression
  select : ℕ → Expression → Name → Expression

pub data Formals : Type 0 where
  no_formal : Formals
  formal : TypeTree → Bool → ℕ → Name → Formals → Formals

mutual
  pub data Statement : Type 0 where
    eval : ℕ → Expression → Statement
    if_then : ℕ → Expression → BlockTree → Statement
    if_else : ℕ → Expression → BlockTree → BlockTree → Statement
    while : ℕ → Expression → BlockTree → Statement
    read write : ℕ → Expression → Statement
    nl : ℕ → Statement
    call : ℕ → ℕ → Name → List Expression → Statement
    compound : BlockTree → Statement

  pub data Statements : Type 0 where
    no_statement : Statements
    statement : Statement → Statements → Statements

  pub data DeclarationTrees : Type 0 where
    no_declaration : DeclarationTrees
    variable : TypeTree → ℕ → Name → DeclarationTrees → DeclarationTrees
    type_name : TypeTree → ℕ → Name → DeclarationTrees → DeclarationTrees
    procedure : ℕ → Name → Formals → BlockTree → DeclarationTrees → DeclarationTrees

  pub data BlockTree : Type 0 where
    block : ℕ → DeclarationTrees → Statements → BlockTree
