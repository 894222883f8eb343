use Rattle.meaning.proofs.accepted_is_small.Goals as goal
use Rattle.meaning.proofs.Accepted.{accepted_small}

pub returns : goal.returns
returns c = accepted_small
