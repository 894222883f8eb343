use Rattle.std.proofs.Common.{rules, length, unwrap_or, Err, refl, ap, ◌∙◌, arith}
use Rattle.std.proofs.lemmas.Result.{err_from_is_err_and}
use Rattle.tiny.specs.Scan.{scan}
use Rattle.parser.proofs.Scanning.{opened}
use Rattle.parser.proofs.Whole.{scans_well, count_is, few, not_scanned, too_small, answered}
use Rattle.parser.proofs.parse.parse.Goals as goal

pub returns-in_err-count : goal.returns-in_err-count
returns-in_err-count c =
    let p = err_from_is_err_and c.from_residual.result c.from_residual.ensures.1 in
    not_scanned c.args.source.now (scan c.args.source.now) c.args.nodes.now c.in_err-count.field-0.0 c.from_residual.result c.in_err-count.ensures (p.1 ∙ ap Err p.2)

pub returns-then-room-count : goal.returns-then-room-count
returns-then-room-count c = too_small c.args.source.now (scan c.args.source.now) c.args.nodes.now c.in_ok-count.count c.in_ok-count.ensures (omega arith)

pub unwrap-next-requires : goal.unwrap-next-requires
unwrap-next-requires c =
    let source = c.args.source.now in
    let k = c.in_ok-count.ensures in
    let n = c.new-scanner.ensures in
    let e = c.next.new.self in
    let o = opened source c.new-scanner.result e c.next.result (scans_well (scan source) c.in_ok-count.count k) n.source n.at n.read c.next.ensures.source c.next.ensures.left in
    o.scans

pub invariant_of-parser : goal.invariant_of-parser
invariant_of-parser c =
    let source = c.args.source.now in
    let k = c.in_ok-count.ensures in
    let n = c.new-scanner.ensures in
    let e = c.next.new.self in
    let o = opened source c.new-scanner.result e c.next.result (scans_well (scan source) c.in_ok-count.count k) n.source n.at n.read c.next.ensures.source c.next.ensures.left in
    let f = o.first c.unwrap-next.result c.unwrap-next.ensures in
    record { sound = f.sound; room = omega (arith, few c.args.nodes.now, ap length f.all, count_is (scan source) c.in_ok-count.count k) }

pub returns : goal.returns
returns c =
    let source = c.args.source.now in
    let k = c.in_ok-count.ensures in
    let n = c.new-scanner.ensures in
    let e = c.next.new.self in
    let o = opened source c.new-scanner.result e c.next.result (scans_well (scan source) c.in_ok-count.count k) n.source n.at n.read c.next.ensures.source c.next.ensures.left in
    let f = o.first c.unwrap-next.result c.unwrap-next.ensures in
    answered _ c.program-read.result c.map_err.result k (omega arith) (record { source = f.same; left = f.all; nodes = refl }) c.program-read.ensures
    (c.unwrap_or-place.ensures ∙ ap (λ o. unwrap_or o (length source)) c.place.ensures) (search rules) c.map_err.ensures.cases (λ f x h. search rules)
