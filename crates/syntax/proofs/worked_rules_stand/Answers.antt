use Rattle.syntax.proofs.Worked.{worked_rules}
use Rattle.syntax.proofs.worked_rules_stand.Goals as goal

pub returns : goal.returns
returns c = worked_rules
