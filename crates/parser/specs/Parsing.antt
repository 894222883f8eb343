-- The answer to a whole source, and what it leaves in the table.
use Rattle.std.specs.Prelude.{◌≡◌, ℕ, ◌-◌, Bool, true, false, List, ◌++◌, length, Ok, Err, Result, nat_lt}
use Rattle.tiny.specs.Scan.{Scanned}
use Rattle.tiny.specs.Scan.Scanned.{tokens, refused}
use Rattle.syntax.specs.Parse.{Outcome, parse}
use Rattle.syntax.specs.Parse.Outcome.{accept, refuse}
use Rattle.tables.specs.declared.table.Table.{Table}
use Rattle.nodes.specs.declared.node.Node.{Node}
use Rattle.tables.specs.Items.{items, capacity}
use Rattle.nodes.specs.Shows.{Shows}
use Rattle.parser.specs.declared.faults.ParseFault.{ParseFault}
use Rattle.parser.specs.declared.faults.ParseFault.TheVariants.{Scan, Full}
use Rattle.parser.specs.Refusals.{refusal}

-- the record of the answer shows the tree, behind the records that were there; or the refusal stands where the parser stops
abbrev pub Answered : List ℕ → Outcome → Table Node → Result ℕ ParseFault → Table Node → Type 0
Answered source (accept t) n r n' = (i : ℕ) × (more : List Node) × (r ≡ Ok i) × Shows source (items n') i t × (items n' ≡ items n ++ more)
Answered source (refuse rest) n r n' = r ≡ Err (refusal source rest)

-- with room for fewer records than there are tokens the table stays as it was
abbrev pub Fitting : Bool → List ℕ → Outcome → Table Node → Result ℕ ParseFault → Table Node → Type 0
Fitting true source o n r n' = (r ≡ Err Full) × (n' ≡ n)
Fitting false source o n r n' = Answered source o n r n' × (capacity n' ≡ capacity n)

-- what becomes of a source by its scan
abbrev pub Parsed : List ℕ → Scanned → Table Node → Result ℕ ParseFault → Table Node → Type 0
Parsed source (refused c p) n r n' = (r ≡ Err (Scan (record { what = c; place = p }))) × (n' ≡ n)
Parsed source (tokens ts) n r n' = Fitting (nat_lt (capacity n - length (items n)) (length ts)) source (parse ts) n r n'
