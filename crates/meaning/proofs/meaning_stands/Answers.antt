use Rattle.meaning.proofs.Agreement.{meaning_agrees}
use Rattle.meaning.proofs.meaning_stands.Goals as goal

pub returns : goal.returns
returns c = meaning_agrees
