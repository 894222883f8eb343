use Rattle.std.proofs.Common.{length, sym, ap, arith}
use Rattle.tables.specs.Items.{items}
use Rattle.shelves.proofs.Laws.{no_code}
use Rattle.shelves.proofs.byte_shelf.ByteShelfShelf.clear.Goals as goal

pub invariant_of-self : goal.invariant_of-self
invariant_of-self c =
    let none = no_code (items c.clear.new.self) c.clear.ensures.items in
    record { within = omega (arith, ap length c.clear.ensures.items); sound = none.1; counted = ap length (sym none.0) }
