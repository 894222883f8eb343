use Rattle.std.proofs.Common.{rules, refl}
use Rattle.parser.proofs.Scanning.{tested}
use Rattle.parser.proofs.parser.Parser.stands.Goals as goal

pub returns : goal.returns
returns c = tested c.args.kinds.now c.args.self.now c.is_some_and.result c.args.self.now.next refl c.is_some_and.ensures (λ t h. search rules)
