-- The sizes of a rule: no size, offset or frame is over 65,536 cells, and each number in it passes a test that the tree's numbers, 0 and 1 pass.
use Rattle.std.specs.Prelude.{◌*◌, ◌≤◌, Bool, T, List, [], ◌∷◌, ℤ, pos}
use Rattle.tiny.specs.Tree.{TypeTree, Fields, Expression, Formals, Statement, Statements, DeclarationTrees, BlockTree}
use Rattle.tiny.specs.Tree as Tree
use Rattle.meaning.specs.Rule.{Place, Value, Argument, Formal, Action, Actions, Declarations, Block}
use Rattle.meaning.specs.Rule as Rule
use Rattle.meaning.specs.Evaluation.{frame_size}

-- P: a test that each number in the source passes
module _ (P : ℤ → Bool) where
  abbrev mutual
    pub WrittenType : TypeTree → Type 0
    WrittenType (Tree.int_type at) = Unit {0}
    WrittenType (Tree.bool_type at) = Unit {0}
    WrittenType (Tree.named at x) = Unit {0}
    WrittenType (Tree.array at t n) = WrittenType t × T (P n)
    WrittenType (Tree.struct at fs) = WrittenFields fs

    pub WrittenFields : Fields → Type 0
    WrittenFields Tree.no_field = Unit {0}
    WrittenFields (Tree.field_of t at x fs) = WrittenType t × WrittenFields fs

  abbrev pub WrittenExpression : Expression → Type 0
  WrittenExpression (Tree.number at z) = T (P z)
  WrittenExpression (Tree.truth at b) = Unit {0}
  WrittenExpression (Tree.name at x) = Unit {0}
  WrittenExpression (Tree.assign at d e) = WrittenExpression d × WrittenExpression e
  WrittenExpression (Tree.binary at o d e) = WrittenExpression d × WrittenExpression e
  WrittenExpression (Tree.unary at o e) = WrittenExpression e
  WrittenExpression (Tree.index at d e) = WrittenExpression d × WrittenExpression e
  WrittenExpression (Tree.select at d x) = WrittenExpression d

  abbrev pub WrittenAll : List Expression → Type 0
  WrittenAll [] = Unit {0}
  WrittenAll (e ∷ es) = WrittenExpression e × WrittenAll es

  abbrev pub WrittenFormals : Formals → Type 0
  WrittenFormals Tree.no_formal = Unit {0}
  WrittenFormals (Tree.formal t r at x fs) = WrittenType t × WrittenFormals fs

  abbrev mutual
    pub WrittenStatement : Statement → Type 0
    WrittenStatement (Tree.eval at e) = WrittenExpression e
    WrittenStatement (Tree.if_then at e b) = WrittenExpression e × Written b
    WrittenStatement (Tree.if_else at e b c) = WrittenExpression e × Written b × Written c
    WrittenStatement (Tree.while at e b) = WrittenExpression e × Written b
    WrittenStatement (Tree.read at e) = WrittenExpression e
    WrittenStatement (Tree.write at e) = WrittenExpression e
    WrittenStatement (Tree.nl at) = Unit {0}
    WrittenStatement (Tree.call at here x es) = WrittenAll es
    WrittenStatement (Tree.compound b) = Written b

    pub WrittenStatements : Statements → Type 0
    WrittenStatements Tree.no_statement = Unit {0}
    WrittenStatements (Tree.statement s ss) = WrittenStatement s × WrittenStatements ss

    pub WrittenDeclarations : DeclarationTrees → Type 0
    WrittenDeclarations Tree.no_declaration = Unit {0}
    WrittenDeclarations (Tree.variable t at x ds) = WrittenType t × WrittenDeclarations ds
    WrittenDeclarations (Tree.type_name t at x ds) = WrittenType t × WrittenDeclarations ds
    WrittenDeclarations (Tree.procedure at x fs b ds) = WrittenFormals fs × Written b × WrittenDeclarations ds

    pub Written : BlockTree → Type 0
    Written (Tree.block at ds ss) = WrittenDeclarations ds × WrittenStatements ss

  -- An array has n elements of w cells: n is a number of the source, which n * w does not bound where w is 0.
  abbrev mutual
    pub SmallPlace : Place → Type 0
    SmallPlace (Rule.variable i) = Unit {0}
    SmallPlace (Rule.reference i) = Unit {0}
    SmallPlace (Rule.field p k) = SmallPlace p × (k ≤ 65536)
    SmallPlace (Rule.element p v n w) = SmallPlace p × SmallValue v × T (P (pos n)) × (w ≤ 65536) × (n * w ≤ 65536)

    pub SmallValue : Value → Type 0
    SmallValue (Rule.literal z) = T (P z)
    SmallValue (Rule.content p) = SmallPlace p
    SmallValue (Rule.unary o v) = SmallValue v
    SmallValue (Rule.binary o u v) = SmallValue u × SmallValue v
    SmallValue (Rule.store p v) = SmallPlace p × SmallValue v

  abbrev pub SmallArgument : Argument → Type 0
  SmallArgument (Rule.value v) = SmallValue v
  SmallArgument (Rule.address p) = SmallPlace p
  SmallArgument (Rule.copied p n) = SmallPlace p × (n ≤ 65536)

  abbrev pub SmallArguments : List Argument → Type 0
  SmallArguments [] = Unit {0}
  SmallArguments (x ∷ xs) = SmallArgument x × SmallArguments xs

  abbrev pub SmallFormal : Formal → Type 0
  SmallFormal (Rule.by_value s) = s ≤ 65536
  SmallFormal (Rule.by_reference s) = s ≤ 65536

  abbrev pub SmallFormals : List Formal → Type 0
  SmallFormals [] = Unit {0}
  SmallFormals (f ∷ fs) = SmallFormal f × SmallFormals fs

  abbrev mutual
    pub SmallAction : Action → Type 0
    SmallAction (Rule.drop_place p) = SmallPlace p
    SmallAction (Rule.drop_value v) = SmallValue v
    SmallAction (Rule.copy p q n) = SmallPlace p × SmallPlace q × (n ≤ 65536)
    SmallAction (Rule.choose v b) = SmallValue v × SmallBlock b
    SmallAction (Rule.choose_else v b c) = SmallValue v × SmallBlock b × SmallBlock c
    SmallAction (Rule.repeat v b) = SmallValue v × SmallBlock b
    SmallAction (Rule.read_int p) = SmallPlace p
    SmallAction (Rule.read_bool p) = SmallPlace p
    SmallAction (Rule.write_int v) = SmallValue v
    SmallAction (Rule.write_bool v) = SmallValue v
    SmallAction Rule.newline = Unit {0}
    SmallAction (Rule.call i xs) = SmallArguments xs
    SmallAction (Rule.inner b) = SmallBlock b

    pub SmallActions : Actions → Type 0
    SmallActions Rule.nothing = Unit {0}
    SmallActions (Rule.◌then◌ a xs) = SmallAction a × SmallActions xs

    pub SmallDeclarations : Declarations → Type 0
    SmallDeclarations Rule.none = Unit {0}
    SmallDeclarations (Rule.local s ds) = (s ≤ 65536) × SmallDeclarations ds
    SmallDeclarations (Rule.proc fs b ds) = SmallFormals fs × (frame_size fs b ≤ 65536) × SmallBlock b × SmallDeclarations ds

    pub SmallBlock : Block → Type 0
    SmallBlock (Rule.block ds xs) = SmallDeclarations ds × SmallActions xs

  -- of a whole rule, with its outermost frame
  abbrev pub Small : Block → Type 0
  Small b = SmallBlock b × (frame_size [] b ≤ 65536)
