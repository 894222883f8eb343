use Rattle.std.proofs.Common.{◌≡◌, ◌++◌, take}
use Rattle.std.specs.List.{flat_map}
use Rattle.tables.specs.Items.{items, capacity}
use Rattle.shelves.specs.Groups.{groups}
use Rattle.shelves.proofs.writing.write_numbers.Given as goal

-- the first numbers are added
abbrev pub invariant-loop-n : goal.invariant-loop-n
invariant-loop-n l =
    record {
      added : items l.bytes ≡ items l.initial.bytes ++ flat_map groups (take l.n-index l.numbers);
      kept : capacity l.bytes ≡ capacity l.initial.bytes;
    }
