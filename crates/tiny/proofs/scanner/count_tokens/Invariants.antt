use Rattle.std.proofs.Common.{◌≡◌, ◌-◌}
use Rattle.tiny.specs.Scan.{scan_from, counted}
use Rattle.tiny.proofs.Counted.{plus}
use Rattle.tiny.proofs.scanner.count_tokens.Given as goal

abbrev pub invariant-loop : goal.invariant-loop
invariant-loop l =
    (l.scanner.source.now ≡ l.source)
    × (counted (scan_from 2048 l.source 0) ≡ plus l.scanner.read (counted (scan_from (2048 - l.scanner.read) l.scanner.source.now l.scanner.at)))

abbrev pub decreases-loop : goal.decreases-loop
decreases-loop l = 2048 - l.scanner.read
