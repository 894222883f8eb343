use Rattle.std.proofs.Common.{refl}
use Rattle.nodes.proofs.Roots.{not_blank, part_rooted, part_before, left_rooted, left_before, right_rooted, right_before}
use Rattle.nodes.proofs.subtree.Subtree.shape.Goals as goal

pub invariant_of-result : goal.invariant_of-result
invariant_of-result c = record { rooted = part_rooted c.args.self.rooted c.in-Under.is }

pub invariant_of-result-in-Join : goal.invariant_of-result-in-Join
invariant_of-result-in-Join c = record { rooted = left_rooted c.args.self.rooted c.in-Join.is }

pub invariant_of-result-in-Join-2 : goal.invariant_of-result-in-Join-2
invariant_of-result-in-Join-2 c = record { rooted = right_rooted c.args.self.rooted c.in-Join.is }

pub returns-in-Under-clause-parts : goal.returns-in-Under-clause-parts
returns-in-Under-clause-parts c = record { same = refl; before = part_before c.args.self.rooted c.in-Under.is }

pub returns-in-Join-clause-parts : goal.returns-in-Join-clause-parts
returns-in-Join-clause-parts c =
    (record { same = refl; before = left_before c.args.self.rooted c.in-Join.is }, record { same = refl; before = right_before c.args.self.rooted c.in-Join.is })
