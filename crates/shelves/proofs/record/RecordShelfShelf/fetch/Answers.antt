use Rattle.std.proofs.Common.{arith}
use Rattle.tables.specs.Items.{items}
use Rattle.shelves.proofs.Codes.{fetched_sound}
use Rattle.shelves.proofs.record.RecordShelfShelf.fetch.Goals as goal

pub returns-clause-sound : goal.returns-clause-sound
returns-clause-sound c =
    let s = c.args.self.now in
    fetched_sound c.get.result (items s.code) c.args.n 1048576 c.get.ensures s.kept (omega arith)
