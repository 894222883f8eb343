use Rattle.meaning.proofs.Addresses.{addresses_agree}
use Rattle.meaning.proofs.addresses_stand.Goals as goal

pub returns : goal.returns
returns c = addresses_agree
