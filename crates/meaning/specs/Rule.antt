-- A rule that passed every check, with what the rows of the evaluation need: a name is the number of
-- declarations that stand between it and its own, counted outward, and sizes and offsets are in cells.
use Rattle.std.specs.Prelude.{ℕ, List, ℤ}
pub use Rattle.tiny.specs.Operators.{Unary, Binary, neg, not, add, sub, mul, quot, rem, and, or, lt, le, gt, ge, eq, ne}

mutual
  -- a designator
  pub data Place : Type 0 where
    -- a variable or a formal by value
    variable : ℕ → Place
    -- a formal by reference
    reference : ℕ → Place
    -- so many cells into the place
    field : Place → ℕ → Place
    -- the element that the value tells, of n, each of m cells
    element : Place → Value → ℕ → ℕ → Place

  -- an expression of type int or bool
  pub data Value : Type 0 where
    literal : ℤ → Value
    content : Place → Value
    unary : Unary → Value → Value
    binary : Binary → Value → Value → Value
    -- an assignment, which is the value stored
    store : Place → Value → Value

pub data Argument : Type 0 where
  -- an int or a bool by value
  value : Value → Argument
  -- by reference
  address : Place → Argument
  -- an array or a struct of so many cells, by value
  copied : Place → ℕ → Argument

-- the cells of what it is given
pub data Formal : Type 0 where
  by_value : ℕ → Formal
  by_reference : ℕ → Formal

mutual
  pub data Action : Type 0 where
    -- `@` on a designator, on another value, and on the assignment of an array or a struct
    drop_place : Place → Action
    drop_value : Value → Action
    copy : Place → Place → ℕ → Action
    -- if, with one block and with two, and while
    choose : Value → Block → Action
    choose_else : Value → Block → Block → Action
    repeat : Value → Block → Action
    read_int read_bool : Place → Action
    write_int write_bool : Value → Action
    newline : Action
    call : ℕ → List Argument → Action
    -- a compound instruction
    inner : Block → Action

  pub data Actions : Type 0 where
    nothing : Actions
    ◌then◌ : Action → Actions → Actions

  pub data Declarations : Type 0 where
    none : Declarations
    -- a variable of so many cells
    local : ℕ → Declarations → Declarations
    proc : List Formal → Block → Declarations → Declarations

  pub data Block : Type 0 where
    block : Declarations → Actions → Block
