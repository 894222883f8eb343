use Rattle.std.proofs.Common.{◌≡◌, ◌+◌, [], ◌∷◌, length, decimal, length-append, w32, FitsSigned, rules, ap, ◌∙◌, arith}
use Rattle.tables.specs.Items.{items}
use Rattle.hosts.specs.Texts.{text_of}
use Rattle.hosts.proofs.Renders.{signed_some}
use Rattle.hosts.proofs.rendering.add_event.Goals as goal

pub add_decimal-requires : goal.add_decimal-requires
add_decimal-requires c =
    let long = ap length c.push.ensures.added ∙ length-append (items c.args.text.now) (45 ∷ []) in
    let text : length (text_of c.args.event) ≡ 1 + length (decimal c.unsigned_abs.result) = search rules in
    omega (arith, c.requires, text, c.push.ensures.kept, long)

pub add_decimal-requires-in-Int-2 : goal.add_decimal-requires-in-Int-2
add_decimal-requires-in-Int-2 c =
    let text : length (text_of c.args.event) ≡ length (decimal c.unsigned_abs-in-Int-2.result) = search rules in
    omega (arith, c.requires, text)

pub returns-in-Int-2-clause-some : goal.returns-in-Int-2-clause-some
returns-in-Int-2-clause-some c =
    let f : FitsSigned w32 c.in-Int-2.value = search rules in
    rw c.in-Int-2.is (signed_some c.in-Int-2.value f)
