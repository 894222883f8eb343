use Rattle.std.proofs.Common.{Err, sym, ap, ◌∙◌}
use Rattle.std.proofs.lemmas.Result.{err_from_is_err_and}
use Rattle.tiny.specs.Scan.{counted}
use Rattle.tiny.proofs.Counted.{scan_long, count_ends, count_breaks}
use Rattle.tiny.proofs.scanner.count_tokens.Goals as goal

pub returns-then-source-gt-MOST_BYTES : goal.returns-then-source-gt-MOST_BYTES
returns-then-source-gt-MOST_BYTES c = ap Err c.at.ensures ∙ sym (ap counted (scan_long _ c.if-source-gt-MOST_BYTES.true))

pub returns-in_err-next : goal.returns-in_err-next
returns-in_err-next c =
    let p = err_from_is_err_and c.from_residual.result c.from_residual.ensures.1 in
    rw (p.1, p.2) (count_breaks c.args.source.now c.loop.scanner.read _ c.if-source-gt-MOST_BYTES.false c.loop.invariant.1 c.loop.scanner.source.now _ _ c.in_err-next.ensures.left)

pub returns : goal.returns
returns c =
    let next = c.in_ok-next.ensures in
    count_ends c.args.source.now c.loop.scanner.read _ c.if-source-gt-MOST_BYTES.false c.loop.invariant.1 c.loop.scanner.source.now _ _ _ (sym c.if-is_some.ensures) next.left next.read
