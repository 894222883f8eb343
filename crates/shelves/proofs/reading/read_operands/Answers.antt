use Rattle.std.proofs.Common.{◌≡◌, ℕ, ◌+◌, ◌-◌, ◌++◌, List, [], ◌∷◌, None, sym, ap, ◌∙◌, arith, length-take, take}
use Rattle.std.proofs.lemmas.List.{take_more_set}
use Rattle.shelves.specs.Bytes.{numbers_first}
use Rattle.shelves.proofs.Laws.{numbers_more, numbers_none, joined}
use Rattle.shelves.proofs.reading.read_operands.Goals as goal

pub returns-in_err-number : goal.returns-in_err-number
returns-in_err-number c =
    let l = c.loop-operand in
    let none : numbers_first c.args.count c.args.bytes.now ≡ None =
    l.invariant ∙ numbers_none (c.args.count - l.operand-index) (take l.operand-index l.operand-items) l.rest.now (omega (arith, length-take {A = ℕ} c.args.count (0 ∷ 0 ∷ 0 ∷ []))) c.in_err-number.ensures in
    rw (c.from_residual.ensures, none)

pub loop-operand-preserved : goal.loop-operand-preserved
loop-operand-preserved c =
    let l = c.loop-operand in
    let k = l.operand-index in
    let v = c.in_ok-number.number in
    let more = numbers_more (c.args.count - k) v (take k l.operand-items) l.rest.now c.in_ok-number.after.now (omega (arith, length-take {A = ℕ} c.args.count (0 ∷ 0 ∷ 0 ∷ []))) c.in_ok-number.ensures in
    let less : c.args.count - k - 1 ≡ c.args.count - (k + 1) = omega arith in
    l.invariant
    ∙ more
    ∙ ap (λ (n : ℕ). joined (take k l.operand-items ++ v ∷ []) (numbers_first n c.in_ok-number.after.now)) less
    ∙ ap (λ (first : List ℕ). joined first (numbers_first (c.args.count - (k + 1)) c.in_ok-number.after.now)) (sym (take_more_set l.operand-items k v (omega arith)))
