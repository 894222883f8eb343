use Rattle.std.proofs.Common.{arith}
use Rattle.tables.specs.Items.{items}
use Rattle.shelves.proofs.Laws.{bytes_few}
use Rattle.shelves.proofs.byte_shelf.ByteShelfShelf.count.Goals as goal

pub returns-clause-most : goal.returns-clause-most
returns-clause-most c = let s = c.args.self.now in omega (arith, bytes_few (items s.bytes) s.sound)
