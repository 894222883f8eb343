use Rattle.std.proofs.Common.{refl}
use Rattle.shelves.specs.Groups.{groups}
use Rattle.shelves.specs.Bytes.{encoded}
use Rattle.machine_tests.proofs.sample_bytes.Goals as goal

pub returns : goal.returns
unfolding encoded groups
returns c = record { written = refl; encoded = refl }
