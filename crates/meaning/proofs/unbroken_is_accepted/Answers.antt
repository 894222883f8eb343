use Rattle.meaning.proofs.unbroken_is_accepted.Goals as goal
use Rattle.meaning.proofs.Accepted.{unbroken_accepted}

pub returns : goal.returns
returns c = unbroken_accepted
