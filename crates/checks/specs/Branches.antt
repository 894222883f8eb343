-- The breaks of names behind the condition of an `if`: of its one block, or of both.
use Rattle.std.specs.Prelude.{List, ◌++◌}
use Rattle.syntax.specs.Shape.{Tree}
use Rattle.syntax.specs.Shape.Tree.{leaf, under, join}
use Rattle.syntax.specs.View.{block}
use Rattle.meaning.specs.Stages.{Break, Open, names_block}

abbrev pub names_branches : Tree → Open → List Break
names_branches (leaf t) Δ = names_block (block (leaf t)) Δ
names_branches (under t e) Δ = names_block (block (under t e)) Δ
names_branches (join t a b) Δ = names_block (block a) Δ ++ names_block (block b) Δ
