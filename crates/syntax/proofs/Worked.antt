-- The worked examples, by computation.
use Rattle.std.proofs.Common.{refl}
use Rattle.tiny.specs.Scan.{scan, scan_from}
use Rattle.syntax.specs.Examples.{WorkedRules}

pub worked_rules : WorkedRules
unfolding scan scan_from
worked_rules = record {
  nothing = refl;
  blanks = refl;
  declared = refl;
  assigned = refl;
  chained = refl;
  sums = refl;
  logic = refl;
  prefixes = refl;
  arrays = refl;
  structs = refl;
  procedures = refl;
  branches = refl;
  signed = refl;
  minus_behind_plus = refl;
  minus_behind_minus = refl;
  or_or = refl;
  or_and = refl;
  unfinished = refl;
  nothing_at_all = refl;
  more_behind = refl;
  last_separator = refl;
  no_declarations = refl;
  unused_word = refl;
  scan_first = refl;
}
