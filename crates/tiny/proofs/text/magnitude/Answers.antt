use Rattle.std.proofs.Common.{◌+◌, ◌-◌, ◌*◌, ◌∙◌, arith, rules, tests}
use Rattle.std.proofs.lemmas.Iterator.{YieldsList-from_slice}
use Rattle.std.proofs.lemmas.Iterator.Consumers.{fold_from_yields_List}
use Rattle.tiny.proofs.Words.{cap, fold_digits}
use Rattle.tiny.proofs.text.magnitude.Goals as goal

pub returns : goal.returns
returns c =
    fold_from_yields_List _ (λ n d. cap (n * 10 + (d - 48))) 0 c.fold.result c.fold.ensures.ran (YieldsList-from_slice c.args.digits.now cc) (λ a x b q k. search (rules, tests))
    ∙ fold_digits c.args.digits.now 0 (omega arith)
