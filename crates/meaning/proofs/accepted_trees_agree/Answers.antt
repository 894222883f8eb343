use Rattle.meaning.proofs.Agreement.{accepted_trees_agree_lem, charges_are_instructions}
use Rattle.meaning.proofs.accepted_trees_agree.Goals as goal

pub returns : goal.returns
returns c = record { agree = accepted_trees_agree_lem; charges = charges_are_instructions }
