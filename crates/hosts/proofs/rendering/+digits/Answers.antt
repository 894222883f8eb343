use Rattle.std.proofs.Common.{◌+◌, length, decimal, sym, arith}
use Rattle.hosts.proofs.Renders.{length_one, length_step, length_most}
use Rattle.hosts.proofs.rendering.+digits.Goals as goal

pub returns-then-n-lt10-clause-value : goal.returns-then-n-lt10-clause-value
returns-then-n-lt10-clause-value t c = sym (length_one c.args.n (omega arith))

pub returns-else-n-lt10-clause-value : goal.returns-else-n-lt10-clause-value
returns-else-n-lt10-clause-value t c = omega (arith, length_step c.args.n (omega arith) (omega arith), c.digits.ensures.value)

pub returns-else-n-lt10-clause-most : goal.returns-else-n-lt10-clause-most
returns-else-n-lt10-clause-most t c = omega (arith, length_step c.args.n (omega arith) (omega arith), length_most c.args.n (omega arith), c.digits.ensures.value)
