use Rattle.std.proofs.Common.{arith, length-take}
use Rattle.tables.specs.Items.{items}
use Rattle.shelves.proofs.Laws.{decoded_lawful, bytes_total}
use Rattle.shelves.proofs.byte_shelf.ByteShelfShelf.capacity.Goals as goal

pub returns-clause-kept : goal.returns-clause-kept
returns-clause-kept c =
    let s = c.args.self.now in
    record {
      sound = decoded_lawful (items s.bytes);
      within = omega (arith, bytes_total (items s.bytes) s.sound, length-take s.bytes.used s.bytes.cells.now);
      most = omega arith;
    }
