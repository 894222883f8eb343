use Rattle.std.proofs.lemmas.Int.{to_z-of_z}
use Rattle.running.proofs.Elements.{in_bounds, made_sum}
use Rattle.running.proofs.calculating.element.Goals as goal

pub returns : goal.returns
returns c =
    let f = c.ranges.index in
    let n = simp to_z-of_z at c.if-index-lt0.false in
    let i = c.args.index in
    let s = c.args.size in
    in_bounds c.args.count s c.args.start i c.try_from.result n (simp to_z-of_z at c.if-index-count.false)
    (made_sum c.args.start i c.from.result c.from-2.result c.from-3.result s c.try_from.result c.ranges.start f n c.ranges.size.fits c.from.ensures c.from-2.ensures c.from-3.ensures c.try_from.ensures)
