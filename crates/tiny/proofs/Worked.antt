-- The worked examples, by computation.
use Rattle.std.proofs.Common.{refl}
use Rattle.tiny.specs.Scan.{scan, scan_from}
use Rattle.tiny.specs.Examples.{WorkedScans}

pub worked_scans : WorkedScans
unfolding scan scan_from
worked_scans = record {
  nothing = refl;
  block = refl;
  sign = refl;
  longest = refl;
  parted = refl;
  noughts = refl;
  unused = refl;
  last_comment = refl;
  ints = refl;
  too_large = refl;
  too_small = refl;
  lone_bang = refl;
  lone_hash = refl;
  over_127 = refl;
}
