use Rattle.meaning.proofs.accepted_is_sound.Goals as goal
use Rattle.meaning.proofs.Accepted.{accepted_sound}

pub returns : goal.returns
returns c = accepted_sound
