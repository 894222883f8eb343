use Rattle.meaning.proofs.Lawful.{accepted_lawful}
use Rattle.meaning.proofs.accepted_is_lawful.Goals as goal

pub returns : goal.returns
returns c = accepted_lawful
