-- The typed tree of a program, from the tree that the parser makes. A tree that the grammar does not
-- derive has some fixed typed tree too.
use Rattle.std.specs.Prelude.{ℕ, Bool, false, cond, List, [], ◌∷◌}
use Rattle.tiny.specs.declared.tokens.Kind.{Kind}
use Rattle.tiny.specs.declared.tokens.Kind.TheVariants.{Name, Literal, TrueWord, IntWord, TypeWord, ProcWord, IfWord, WhileWord, ReadWord, WriteWord, NlWord, And, Or, Plus, Minus, Times, Over, Percent, Less, Greater, LessEqual, GreaterEqual, Equal, Open, Semicolon, Becomes, Index, Dot, Comma, Ampersand, DoubleAmpersand, At}
use Rattle.tiny.specs.Token.{Token, is}
use Rattle.syntax.specs.Shape.{Tree, token_of}
use Rattle.syntax.specs.Shape.Tree.{leaf, under, join}
use Rattle.tiny.specs.Operators.{Unary, Binary}
use Rattle.tiny.specs.Tree.{TypeTree, Fields, Expression, Formals, Statement, Statements, DeclarationTrees, BlockTree}
use Rattle.syntax.specs.Parse.{parse}
use Rattle.syntax.specs.Parse.Outcome.{accept, refuse}

abbrev pub operator : Kind → Binary
operator k =
    cond (is k Plus) Binary.add (cond (is k Minus) Binary.sub (cond (is k Times) Binary.mul (cond (is k Over) Binary.quot (cond (is k Percent) Binary.rem
    (cond (is k And) Binary.and (cond (is k Or) Binary.or (cond (is k Less) Binary.lt (cond (is k LessEqual) Binary.le (cond (is k Greater) Binary.gt
    (cond (is k GreaterEqual) Binary.ge (cond (is k Equal) Binary.eq Binary.ne)))))))))))

abbrev pub expression : Tree → Expression
expression (leaf t) =
    cond (is t.kind Name) (Expression.name t.place t.text)
    (cond (is t.kind Literal) (Expression.number t.place t.value) (Expression.truth t.place (is t.kind TrueWord)))
expression (under t e) = Expression.unary t.place (cond (is t.kind Minus) Unary.neg Unary.not) (expression e)
expression (join t l r) =
    cond (is t.kind Becomes) (Expression.assign t.place (expression l) (expression r))
    (cond (is t.kind Index) (Expression.index t.place (expression l) (expression r))
    (cond (is t.kind Dot) (Expression.select t.place (expression l) (token_of r).text)
    (Expression.binary t.place (operator t.kind) (expression l) (expression r))))

-- lists come in front of a rest
abbrev mutual
  pub type_tree : Tree → TypeTree
  type_tree (leaf t) =
      cond (is t.kind Name) (TypeTree.named t.place t.text) (cond (is t.kind IntWord) (TypeTree.int_type t.place) (TypeTree.bool_type t.place))
  type_tree (under t f) = TypeTree.struct t.place (fields f Fields.no_field)
  type_tree (join t e n) = TypeTree.array t.place (type_tree e) (token_of n).value

  pub fields : Tree → Fields → Fields
  fields (leaf t) more = more
  fields (under t e) more = Fields.field_of (type_tree e) t.place t.text more
  fields (join t f r) more = fields f (fields r more)

abbrev pub by_reference : Tree → Bool
by_reference (leaf t) = false
by_reference (under t e) = is t.kind Ampersand
by_reference (join t l r) = false

-- what stands under a node with one part
abbrev pub part_of : Tree → Tree
part_of (leaf t) = leaf t
part_of (under t e) = e
part_of (join t l r) = l

abbrev pub formals : Tree → Formals → Formals
formals (leaf t) more = more
formals (under t e) more =
    cond (is t.kind Open) (formals e more)
    (Formals.formal (type_tree (cond (by_reference e) (part_of e) e)) (by_reference e) t.place t.text more)
formals (join t f r) more = formals f (formals r more)

abbrev pub expressions : Tree → List Expression
expressions (leaf t) = expression (leaf t) ∷ []
expressions (under t e) = expression (under t e) ∷ []
expressions (join t l r) = cond (is t.kind Comma) (expression l ∷ expressions r) (expression (join t l r) ∷ [])

abbrev pub arguments : Tree → List Expression
arguments (leaf t) = []
arguments (under t e) = expressions e
arguments (join t l r) = []

abbrev mutual
  -- the declarations of what stands in a block; there are none in instructions
  pub declarations : Tree → DeclarationTrees → DeclarationTrees
  declarations (leaf t) more = more
  declarations (under t e) more =
      cond (is t.kind DoubleAmpersand) (declarations e more)
      (cond (is t.kind TypeWord) (DeclarationTrees.type_name (type_tree (part_of e)) (token_of e).place (token_of e).text more)
      (cond (is t.kind Name) (DeclarationTrees.variable (type_tree e) t.place t.text more) more))
  declarations (join t l r) more =
      cond (is t.kind DoubleAmpersand) (declarations l more)
      (cond (is t.kind Semicolon) (declarations l (declarations r more))
      (cond (is t.kind ProcWord)
      (DeclarationTrees.procedure (token_of l).place (token_of l).text (formals (part_of l) Formals.no_formal) (block r) more) more))

  -- the instructions of what stands in a block
  pub statements : Tree → Statements → Statements
  statements (leaf t) more =
      Statements.statement (cond (is t.kind NlWord) (Statement.nl t.place)
      (Statement.compound (BlockTree.block t.place DeclarationTrees.no_declaration Statements.no_statement))) more
  statements (under t e) more =
      cond (is t.kind DoubleAmpersand) more
      (Statements.statement (cond (is t.kind At) (Statement.eval t.place (expression e))
      (cond (is t.kind ReadWord) (Statement.read t.place (expression e))
      (cond (is t.kind WriteWord) (Statement.write t.place (expression e))
      (Statement.compound (BlockTree.block t.place (declarations e DeclarationTrees.no_declaration) (statements e Statements.no_statement)))))) more)
  statements (join t l r) more =
      cond (is t.kind DoubleAmpersand) (statements r more)
      (cond (is t.kind Semicolon) (statements l (statements r more))
      (Statements.statement (cond (is t.kind IfWord) (branches r t.place (expression l))
      (cond (is t.kind WhileWord) (Statement.while t.place (expression l) (block r))
      (Statement.call t.place (token_of l).place (token_of l).text (arguments r)))) more))

  pub branches : Tree → ℕ → Expression → Statement
  branches (leaf t) p e = Statement.if_then p e (BlockTree.block t.place DeclarationTrees.no_declaration Statements.no_statement)
  branches (under t c) p e =
      Statement.if_then p e (BlockTree.block t.place (declarations c DeclarationTrees.no_declaration) (statements c Statements.no_statement))
  branches (join t l r) p e = Statement.if_else p e (block l) (block r)

  pub block : Tree → BlockTree
  block (leaf t) = BlockTree.block t.place DeclarationTrees.no_declaration Statements.no_statement
  block (under t e) = BlockTree.block t.place (declarations e DeclarationTrees.no_declaration) (statements e Statements.no_statement)
  block (join t l r) = BlockTree.block t.place DeclarationTrees.no_declaration Statements.no_statement

-- A program read from its tokens, or the place where it is refused: of the first token that is left,
-- or else the length of the source.
pub data Reading : Type 0 where
  program : BlockTree → Reading
  refused : ℕ → Reading

abbrev pub place_in : ℕ → List Token → ℕ
place_in length [] = length
place_in length (t ∷ ts) = t.place

abbrev pub program_of : ℕ → List Token → Reading
program_of length ts = elim (parse ts) [ accept t ↦ program (block t) | refuse ts ↦ refused (place_in length ts) ]
