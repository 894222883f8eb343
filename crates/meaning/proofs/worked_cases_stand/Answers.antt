use Rattle.meaning.proofs.Cases.{worked_cases}
use Rattle.meaning.proofs.worked_cases_stand.Goals as goal

pub returns : goal.returns
returns c = worked_cases
