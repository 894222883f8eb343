use Rattle.tiny.proofs.Whole as whole
use Rattle.tiny.proofs.the_scan_is_the_spelling.Goals as goal

pub returns : goal.returns
returns c = record { scan = whole.scan_is; kind = whole.one }
