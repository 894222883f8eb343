use Rattle.std.proofs.Common.{length, sym, ap, arith}
use Rattle.tables.specs.Items.{items}
use Rattle.shelves.proofs.Laws.{no_code}
use Rattle.shelves.proofs.byte_shelf.ByteShelf.new.Goals as goal

pub invariant_of-result : goal.invariant_of-result
invariant_of-result c =
    let none = no_code (items c.over.result) c.over.ensures.empty in
    record { within = omega (arith, ap length c.over.ensures.empty); sound = none.1; counted = ap length (sym none.0) }
