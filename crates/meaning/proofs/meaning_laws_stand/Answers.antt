use Rattle.meaning.proofs.MeaningLaws.{meaning_laws}
use Rattle.meaning.proofs.meaning_laws_stand.Goals as goal

pub returns : goal.returns
returns c = meaning_laws
