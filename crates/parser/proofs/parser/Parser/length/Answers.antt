-- The answer follows the path of the function.
use Rattle.std.proofs.Common.{[], ◌∷◌}
use Rattle.tiny.specs.declared.tokens.Kind.TheVariants.{Literal, IndexEnd}
use Rattle.syntax.specs.Parse.{pushed, dropped}
use Rattle.syntax.specs.Parse.Symbol.{token}
use Rattle.parser.proofs.Stand.{start, passed, named, put_leaf, done}
use Rattle.parser.proofs.parser.Parser.length.Goals as goal

pub returns : goal.returns
returns c = done (put_leaf c.add.ensures (passed c.in_ok-expect.ensures (named c.in_ok-token.ensures (start (token Literal pushed ∷ token IndexEnd dropped ∷ []) _))))
