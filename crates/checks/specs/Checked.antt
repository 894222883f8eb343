-- The break that a refused tree is told by.
use Rattle.meaning.specs.Stages.{Break}
use Rattle.checks.specs.declared.faults.CheckFault.{CheckFault}
use Rattle.checks.specs.declared.faults.CheckFault.TheVariants.{Depth, Names}
use Rattle.checks.specs.Breaks.{depth_break}
use Rattle.checks.specs.Declares.{name_break}

abbrev pub check_break : CheckFault → Break
check_break (Depth f) = depth_break f
check_break (Names f) = name_break f
