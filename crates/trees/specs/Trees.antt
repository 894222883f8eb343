-- What becomes of a source on the way to its tree, and what is left in the table.
use Rattle.std.specs.Prelude.{◌≡◌, ℕ, List, [], Some, Ok, Err, Result}
use Rattle.tiny.specs.Scan.{scan}
use Rattle.syntax.specs.Shape.{Tree}
use Rattle.syntax.specs.View as View
use Rattle.tables.specs.declared.table.Table.{Table}
use Rattle.nodes.specs.declared.node.Node.{Node}
use Rattle.tables.specs.Items.{items}
use Rattle.nodes.specs.Shows.{Shows}
use Rattle.parser.specs.Parsing.{Parsed}
use Rattle.meaning.specs.Stages.{Break, deep_block}
use Rattle.checks.specs.Breaks.{first_break, depth_break}
use Rattle.trees.specs.declared.faults.TreeFault.{TreeFault}
use Rattle.trees.specs.declared.faults.TreeFault.TheVariants.{Parse, Depth}

-- whatever tree the record shows, its breaks of depth are such
abbrev pub Depths : List ℕ → List Node → ℕ → (List Break → Type 0) → Type 0
Depths source ns i P = (t : Tree) → Shows source ns i t → P (deep_block (View.block t) 1 0)

-- It is parsed, and no node is too deep; it is not parsed; or it is parsed, and this is the first break of depth.
abbrev pub ReadTree : List ℕ → Table Node → Result ℕ TreeFault → Table Node → Type 0
ReadTree source n (Ok i) n' = Parsed source (scan source) n (Ok i) n' × Depths source (items n') i (λ bs. bs ≡ [])
ReadTree source n (Err (Parse f)) n' = Parsed source (scan source) n (Err f) n'
ReadTree source n (Err (Depth f)) n' =
    (i : ℕ) × Parsed source (scan source) n (Ok i) n' × Depths source (items n') i (λ bs. first_break bs ≡ Some (depth_break f))
