-- What becomes of a source before its names are looked at: it is scanned, and its tokens are parsed.
use Rattle.std.specs.Prelude.{ℕ, List, length}
use Rattle.tiny.specs.declared.faults.ScanCause.{ScanCause}
use Rattle.tiny.specs.Scan.{Scanned, scan}
use Rattle.tiny.specs.Scan as Scan
use Rattle.tiny.specs.Tree.{BlockTree}
use Rattle.syntax.specs.View.{Reading, program_of}
use Rattle.syntax.specs.View as View

-- refused by the scanner, with the cause and its place; refused by the grammar at a place; or a rule as it was written
pub data Read : Type 0 where
  unscanned : ScanCause → ℕ → Read
  unparsed : ℕ → Read
  rule : BlockTree → Read

abbrev pub parsed : Reading → Read
parsed (View.program b) = rule b
parsed (View.refused p) = unparsed p

abbrev pub taken : ℕ → Scanned → Read
taken long (Scan.tokens ts) = parsed (program_of long ts)
taken long (Scan.refused c p) = unscanned c p

abbrev pub read : List ℕ → Read
read source = taken (length source) (scan source)
