use Rattle.std.proofs.Common.{refl, arith}
use lib.Count.{count_leading_zeros}
use Rattle.shelves.proofs.Digits.{groups_bits}
use Rattle.shelves.proofs.groups.group_count.Goals as goal

pub returns-clause-value : goal.returns-clause-value
returns-clause-value c = omega (arith, groups_bits c.args.n (count_leading_zeros 32 c.args.n) c.ranges.n.fits refl)
