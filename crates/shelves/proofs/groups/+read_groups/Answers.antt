use Rattle.std.proofs.Common.{◌-◌, arith}
use Rattle.shelves.proofs.Digits.{limit_step, limit_some}
use Rattle.shelves.proofs.groups.+read_groups.Goals as goal

pub returns-in-len1-up-clause-fits : goal.returns-in-len1-up-clause-fits
returns-in-len1-up-clause-fits t c = omega (arith, limit_step c.args.most (omega arith), limit_some (c.args.most - 1))
