-- The number of each cause in the list of refusals.
use Rattle.std.specs.Prelude.{ℕ}
use Rattle.checks.specs.declared.faults.DepthCause.{DepthCause}
use Rattle.checks.specs.declared.faults.DepthCause.TheVariants.{Node, Procedure}
use Rattle.checks.specs.declared.faults.NameCause.{NameCause}
use Rattle.checks.specs.declared.faults.NameCause.TheVariants.{Undeclared, Twice}

abbrev pub depth_number : DepthCause → ℕ
depth_number Node = 7
depth_number Procedure = 7

abbrev pub name_number : NameCause → ℕ
name_number Undeclared = 8
name_number Twice = 9
