use Rattle.std.proofs.Common.{◌≤◌, get_or, None, arith}
use Rattle.std.proofs.lemmas.List.{get_or_past}
use Rattle.shelves.specs.Parts.{table}
use Rattle.shelves.proofs.parts.InstructionTryFromParts.try_from.Goals as goal

pub returns-in_default : goal.returns-in_default
returns-in_default c =
    let far : 37 ≤ c.args.parts.code = grind arith in
    let xs = c.args.parts.operands in
    get_or_past (table (get_or xs 0 0) (get_or xs 1 0) (get_or xs 2 0)) c.args.parts.code None far
