use Rattle.std.proofs.Common.{◌≡◌, Bool, true, List, ℕ, sym, ◌∙◌, rules, arith}
use Rattle.std.proofs.lemmas.Grind.{common_steps}
use Rattle.hosts.specs.Parts.{Spelled, literal}
use Rattle.hosts.proofs.Spellings.{literal_spelled, spelled_literal}
use Rattle.hosts.proofs.parts.is_literal.Goals as goal

told : (part : List ℕ) (r : Bool) → r ≡ literal part → (r ≡ true → Spelled part) × (Spelled part → r ≡ true)
told part r e = (λ t. literal_spelled part (sym e ∙ t), λ s. e ∙ spelled_literal s)

pub returns-in-45-clause-tells : goal.returns-in-45-clause-tells
returns-in-45-clause-tells c =
    let test : c.is_numeral.result ≡ literal c.args.part.now = grind (arith, common_steps) in
    told c.args.part.now c.is_numeral.result test

pub returns-in_default-clause-tells : goal.returns-in_default-clause-tells
returns-in_default-clause-tells c =
    let test : c.is_numeral-in_default.result ≡ literal c.args.part.now = search rules in
    told c.args.part.now c.is_numeral-in_default.result test
