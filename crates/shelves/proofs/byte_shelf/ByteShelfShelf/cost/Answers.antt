use Rattle.std.proofs.Common.{arith}
use Rattle.shelves.proofs.Laws.{cost_least, cost_most}
use Rattle.shelves.proofs.byte_shelf.ByteShelfShelf.cost.Goals as goal

pub returns-clause-range : goal.returns-clause-range
returns-clause-range c = λ _. (omega (arith, cost_least c.args.instruction), omega (arith, cost_most c.args.instruction))
