use Rattle.std.proofs.Common.{◌≡◌, ◌+◌, false, drop}
use Rattle.tiny.specs.Automaton.{skip}
use Rattle.tiny.proofs.scanner.ignored.Given as goal

abbrev pub invariant-loop-n : goal.invariant-loop-n
invariant-loop-n l = skip false l.bytes ≡ l.n + skip l.comment (drop l.n l.bytes)
