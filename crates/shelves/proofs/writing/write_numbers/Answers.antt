use Rattle.std.proofs.Common.{length, ap, arith, length-append}
use Rattle.std.proofs.lemmas.List.Folds.{length-flat_map-take}
use Rattle.shelves.specs.Groups.{groups}
use Rattle.shelves.proofs.writing.write_numbers.Goals as goal

pub write_groups-requires : goal.write_groups-requires
write_groups-requires c =
    let l = c.loop-n in
    omega (arith, simp length-append at (ap length l.invariant.added), length-flat_map-take groups c.args.numbers.now l.n-index 0 (omega arith))
