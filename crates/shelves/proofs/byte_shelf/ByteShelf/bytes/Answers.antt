use Rattle.std.proofs.Common.{sym, ap, ◌∙◌}
use Rattle.shelves.specs.Bytes.{decoded}
use Rattle.shelves.proofs.Laws.{decoded_encoded}
use Rattle.shelves.proofs.byte_shelf.ByteShelf.bytes.Goals as goal

pub returns-clause-only : goal.returns-clause-only
returns-clause-only c = λ is l e. sym (decoded_encoded is l) ∙ ap decoded e
