use Rattle.meaning.proofs.Objects.{objects_agree}
use Rattle.meaning.proofs.objects_stand.Goals as goal

pub returns : goal.returns
returns c = objects_agree
