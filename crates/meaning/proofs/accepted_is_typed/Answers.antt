use Rattle.meaning.proofs.Typable.{accepted_typed}
use Rattle.meaning.proofs.WellTyped.{typed_accepted}
use Rattle.meaning.proofs.accepted_is_typed.Goals as goal

pub returns : goal.returns
returns c = record { typed = accepted_typed; accepted = typed_accepted }
