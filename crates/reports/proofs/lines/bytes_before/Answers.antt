use Rattle.std.proofs.Common.{◌+◌, ◌^◌, ◌<◌, length, rules, tests, ◌∙◌, arith}
use Rattle.std.proofs.lemmas.Iterator.{YieldsList-from_slice}
use Rattle.std.proofs.lemmas.Iterator.Consumers.{fold_from_yields_List}
use Rattle.reports.proofs.Counting.{more_bytes, since_folded, since_few}
use Rattle.reports.proofs.lines.bytes_before.Goals as goal

pub returns-clause-count : goal.returns-clause-count
returns-clause-count c =
    let before = c.args.before.now in
    let long : 0 + length before < 2 ^ 64 = search rules in
    fold_from_yields_List _ more_bytes 0 c.fold.result c.fold.ensures.ran (YieldsList-from_slice before cc) (λ a x b q k. search (rules, tests))
    ∙ since_folded before 0 long

pub returns-clause-few : goal.returns-clause-few
returns-clause-few c = let count = returns-clause-count c in omega (arith, count, since_few c.args.before.now 0)
