use Rattle.tiny.proofs.Worked.{worked_scans}
use Rattle.tiny.proofs.worked_scans_stand.Goals as goal

pub returns : goal.returns
returns c = worked_scans
