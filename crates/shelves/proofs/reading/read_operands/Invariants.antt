use Rattle.std.proofs.Common.{◌≡◌, ◌-◌, ◌++◌, take, Some}
use Rattle.shelves.specs.Bytes.{after, numbers_first}
use Rattle.shelves.proofs.reading.read_operands.Given as goal

-- the numbers that were read, and those of the rest
abbrev pub invariant-loop-operand : goal.invariant-loop-operand
invariant-loop-operand l =
    numbers_first l.count l.bytes ≡ after (numbers_first (l.count - l.operand-index) l.rest) (λ r. Some (take l.operand-index l.operand-items ++ r.0, r.1))
