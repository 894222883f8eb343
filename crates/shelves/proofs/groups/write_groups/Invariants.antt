use Rattle.std.proofs.Common.{◌≡◌, ◌^◌, ◌<◌, ◌++◌}
use Rattle.tables.specs.Items.{items, capacity}
use Rattle.shelves.specs.Groups.{groups}
use Rattle.shelves.proofs.groups.write_groups.Given as goal

-- the groups that were added and those of the rest
abbrev pub invariant-loop-rest : goal.invariant-loop-rest
invariant-loop-rest l =
    record {
      joined : items l.bytes ++ groups l.rest ≡ items l.initial.bytes ++ groups l.n;
      kept : capacity l.bytes ≡ capacity l.initial.bytes;
      fits : l.rest < 2 ^ 32;
    }

abbrev pub decreases-loop-rest : goal.decreases-loop-rest
decreases-loop-rest l = l.rest
