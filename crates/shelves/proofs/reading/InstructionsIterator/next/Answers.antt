use Rattle.std.proofs.Common.{◌≡◌, ◌∷◌, length, sym, ap, ◌∙◌, arith}
use Rattle.shelves.specs.Bytes.{decoded, going_on_from}
use Rattle.shelves.proofs.Laws.{decoded_step}
use Rattle.shelves.proofs.reading.InstructionsIterator.next.Goals as goal

pub returns-in_err-instruction-clause-steps : goal.returns-in_err-instruction-clause-steps
returns-in_err-instruction-clause-steps c =
    let bytes = c.args.self.now.bytes.now in
    let none = decoded_step bytes ∙ ap (λ o. going_on_from o decoded) (sym c.in_err-instruction.ensures) in
    rw c.from_residual.ensures (none, none)

pub returns-clause-steps : goal.returns-clause-steps
returns-clause-steps c =
    decoded_step c.args.self.now.bytes.now ∙ ap (λ o. going_on_from o decoded) (sym c.in_ok-instruction.ensures)

pub returns-clause-goes : goal.returns-clause-goes
returns-clause-goes c =
    let step : decoded c.args.self.now.bytes.now ≡ c.in_ok-instruction.instruction ∷ decoded c.in_ok-instruction.rest.now =
    decoded_step c.args.self.now.bytes.now ∙ ap (λ o. going_on_from o decoded) (sym c.in_ok-instruction.ensures) in
    record { on = λ _. (tt, tt, omega (arith, ap length step)); keeps = tt; rests = λ _. tt }
