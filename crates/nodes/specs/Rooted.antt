-- When a record of a table shows some tree of some source.
use Rattle.std.specs.Prelude.{ℕ, List}
use Rattle.syntax.specs.Shape.{Tree}
use Rattle.nodes.specs.declared.node.Node.{Node}
use Rattle.nodes.specs.Shows.{Shows}

pub record Rooted (ns : List Node) (i : ℕ) : Type 0 where
  pub source : List ℕ
  pub tree : Tree
  pub shown : Shows source ns i tree
