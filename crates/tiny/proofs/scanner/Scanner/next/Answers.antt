use Rattle.std.proofs.Common.{refl, ◌∙◌, sym, ap, Ok, Err, None, arith, ◌-◌}
use Rattle.std.proofs.lemmas.Result.{err_from_is_err_and}
use Rattle.tiny.proofs.Counted.{takes, next_within}
use Rattle.tiny.proofs.scanner.Scanner.next.Goals as goal

pub returns-in_err-ahead-clause-left : goal.returns-in_err-ahead-clause-left
returns-in_err-ahead-clause-left c =
    let s = c.args.self.now in
    let p = err_from_is_err_and c.from_residual.result c.from_residual.ensures.1 in
    rw p.1 (takes s.read s.at s.read s.at s.source.now s.few (Err p.0) (ap Err p.2 ∙ sym c.in_err-ahead.was ∙ c.ahead.ensures) refl refl)

pub invariant_of-self : goal.invariant_of-self
invariant_of-self c =
    let s = c.args.self.now in
    let (within, room) = next_within (2048 - s.read) s.source.now s.at c.in-Some.token s.within (sym c.ahead.ensures ∙ c.in_ok-ahead.was ∙ ap Ok c.in-Some.is) in
    record { within = within; few = omega arith }

pub returns-in-Some-clause-left : goal.returns-in-Some-clause-left
returns-in-Some-clause-left c =
    let s = c.args.self.now in
    takes s.read s.at _ _ s.source.now s.few _ (sym (ap Ok c.in-Some.is) ∙ sym c.in_ok-ahead.was ∙ c.ahead.ensures) (omega arith) refl

pub returns-in-None-clause-left : goal.returns-in-None-clause-left
returns-in-None-clause-left c =
    let s = c.args.self.now in
    rw c.in-None.is (takes s.read s.at _ _ s.source.now s.few (Ok None) (ap Ok (sym c.in-None.is) ∙ sym c.in_ok-ahead.was ∙ c.ahead.ensures) refl refl)
