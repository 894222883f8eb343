use Rattle.std.proofs.Common.{◌≡◌, suc, ◌+◌, ◌-◌, Some, None, Ok, Err, sym, ◌∙◌, ap, arith}
use Rattle.std.proofs.lemmas.Result.{err_from_is_err_and}
use Rattle.tiny.specs.Scan.{lexed}
use Rattle.tiny.proofs.Counted.{hands_out}
use Rattle.tiny.proofs.scanner.Scanner.ahead.Goals as goal

-- a literal outside int has no value
pub returns-in_err-value : goal.returns-in_err-value
returns-in_err-value c =
    let s = c.args.self.now in
    let room : 2048 - s.read ≡ suc (2048 - (s.read + 1)) = omega (arith, c.if-self-eq-MOST_TOKENS.false) in
    let none : c.in-Some.stretch.value ≡ None = grind arith in
    let found : lexed s.source.now s.at ≡ Ok (Some c.in-Some.stretch) = sym c.lex.ensures.token ∙ c.in_ok-stretch.was ∙ ap Ok c.in-Some.is in
    let fault : c.in_err-value.field-0.0 ≡ c.at-2.result = grind arith in
    let p = err_from_is_err_and c.from_residual-in_err-value.result c.from_residual-in_err-value.ensures.1 in
    p.1 ∙ ap Err (p.2 ∙ fault ∙ c.at-2.ensures) ∙ hands_out (2048 - s.read) s.source.now s.at c.in-Some.stretch found _ room none
