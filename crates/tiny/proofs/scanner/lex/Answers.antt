use Rattle.std.proofs.Common.{◌+◌, sym, ◌∙◌}
use Rattle.tiny.proofs.Lexed.{place_from, reached_from, lexed_token}
use Rattle.tiny.proofs.scanner.lex.Goals as goal

pub returns-clause-token : goal.returns-clause-token
returns-clause-token c =
    let source = c.args.source.now in
    let place = c.args.at + c.ignored.result in
    lexed_token source c.args.at place (place_from source c.args.at _ c.ignored.ensures.skipped) c.if-place-source.false _ _
    (reached_from source place _ c.munch-len.ensures.reached) _ _ (sym c.kind.ensures ∙ c.in-Some.is) c.meaning.ensures
