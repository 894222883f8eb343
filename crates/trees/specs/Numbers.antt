-- The number and the place of each refusal of a source that has no tree, or one that is too deep.
use Rattle.std.specs.Prelude.{ℕ}
use Rattle.parser.specs.Refusals.{parse_number, parse_place}
use Rattle.checks.specs.Numbers.{depth_number}
use Rattle.trees.specs.declared.faults.TreeFault.{TreeFault}
use Rattle.trees.specs.declared.faults.TreeFault.TheVariants.{Parse, Depth}

abbrev pub tree_number : TreeFault → ℕ
tree_number (Parse f) = parse_number f
tree_number (Depth f) = depth_number f.what

abbrev pub tree_place : TreeFault → ℕ
tree_place (Parse f) = parse_place f
tree_place (Depth f) = f.place
