use Rattle.meaning.proofs.Short.{code_short}
use Rattle.meaning.proofs.code_is_short.Goals as goal

pub returns : goal.returns
returns c = code_short
