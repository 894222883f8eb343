use Rattle.std.proofs.Common.{◌≤◌, min, arith, length-take}
use Rattle.machine.specs.Shelves.{total}
use Rattle.tables.specs.Items.{items, capacity}
use Rattle.shelves.proofs.Codes.{total_ones}
use Rattle.shelves.proofs.record.RecordShelfShelf.capacity.Goals as goal

pub returns-clause-kept : goal.returns-clause-kept
returns-clause-kept c =
    let s = c.args.self.now in
    let t : total (λ _. 1) (items s.code) ≤ min (capacity s.code) 1048576 = omega (arith, total_ones (items s.code), length-take s.code.used s.code.cells.now) in
    record { sound = s.kept; within = t; most = omega arith }
