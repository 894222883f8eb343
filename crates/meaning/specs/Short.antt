-- Code is short: at most six instructions for each node of the tree, and three.
use Rattle.std.specs.Prelude.{◌≡◌, ℕ, ◌+◌, ◌*◌, ◌≤◌, List, [], ◌∷◌, length}
use Rattle.tiny.specs.Tree.{Expression, Statement, Statements, DeclarationTrees, BlockTree}
use Rattle.tiny.specs.Tree as Tree
use Rattle.meaning.specs.Rule.{Block}
use Rattle.meaning.specs.Code.{program}
use Rattle.meaning.specs.Stages.{judged, accepted}

-- the nodes that make code, each with a token of its own
abbrev pub nodes : Expression → ℕ
nodes (Tree.number at z) = 1
nodes (Tree.truth at b) = 1
nodes (Tree.name at x) = 1
nodes (Tree.assign at d e) = 1 + nodes d + nodes e
nodes (Tree.binary at o d e) = 1 + nodes d + nodes e
nodes (Tree.unary at o e) = 1 + nodes e
nodes (Tree.index at d e) = 1 + nodes d + nodes e
nodes (Tree.select at d x) = 1 + nodes d

abbrev pub nodes_all : List Expression → ℕ
nodes_all [] = 0
nodes_all (e ∷ es) = nodes e + nodes_all es

abbrev mutual
  pub statement_nodes : Statement → ℕ
  statement_nodes (Tree.eval at e) = 1 + nodes e
  statement_nodes (Tree.if_then at e b) = 1 + nodes e + block_nodes b
  statement_nodes (Tree.if_else at e b c) = 1 + nodes e + block_nodes b + block_nodes c
  statement_nodes (Tree.while at e b) = 1 + nodes e + block_nodes b
  statement_nodes (Tree.read at e) = 1 + nodes e
  statement_nodes (Tree.write at e) = 1 + nodes e
  statement_nodes (Tree.nl at) = 1
  statement_nodes (Tree.call at here x es) = 1 + nodes_all es
  statement_nodes (Tree.compound b) = block_nodes b

  pub statements_nodes : Statements → ℕ
  statements_nodes Tree.no_statement = 0
  statements_nodes (Tree.statement s ss) = statement_nodes s + statements_nodes ss

  pub declarations_nodes : DeclarationTrees → ℕ
  declarations_nodes Tree.no_declaration = 0
  declarations_nodes (Tree.variable t at x ds) = declarations_nodes ds
  declarations_nodes (Tree.type_name t at x ds) = declarations_nodes ds
  declarations_nodes (Tree.procedure at x fs b ds) = 1 + block_nodes b + declarations_nodes ds

  pub block_nodes : BlockTree → ℕ
  block_nodes (Tree.block at ds ss) = 1 + declarations_nodes ds + statements_nodes ss

abbrev pub CodeIsShort : Type 0
CodeIsShort = (t : BlockTree) (b : Block) → judged t ≡ accepted b → length (program b) ≤ 3 + 6 * block_nodes t
