use Rattle.std.proofs.Common.{◌≡◌, ℕ, ◌+◌, List, length, take, sym, ap, ◌∙◌, arith}
use Rattle.std.specs.List.{flat_map, sum_by}
use Rattle.std.proofs.lemmas.List.Concat.{length-flat_map}
use Rattle.machine.specs.declared.instruction.Instruction.{Instruction}
use Rattle.shelves.specs.Groups.{groups}
use Rattle.shelves.specs.Parts.{arity, parts_of}
use Rattle.shelves.specs.Bytes.{encoded}
use Rattle.shelves.specs.declared.parts.Parts.{Parts}
use Rattle.shelves.proofs.Laws.{cost_most}
use Rattle.shelves.proofs.Views.{operands_present}
use Rattle.shelves.proofs.writing.encoded_length.Goals as goal

-- the code number is one byte, and the operands take the bytes of their groups
long : (i : Instruction) (parts : Parts) (ns : List ℕ) (n : ℕ) → parts ≡ parts_of i → ns ≡ take (arity parts.code) parts.operands
    → n ≡ sum_by (λ m. length (groups m)) ns → 1 + n ≡ length (encoded i)
unfolding encoded
long i parts ns n e p s =
    let groups_long = s ∙ sym (length-flat_map groups ns) ∙ ap (λ (ms : List ℕ). length (flat_map groups ms)) (p ∙ operands_present i parts e) in
    omega arith

pub overflow_add-result : goal.overflow_add-result
overflow_add-result c =
    let l = long c.args.instruction c.from.result c.present.result.now c.groups_length.result c.from.ensures c.present.ensures.value c.groups_length.ensures in
    omega (arith, cost_most c.args.instruction)

pub returns : goal.returns
returns c = long c.args.instruction c.from.result c.present.result.now c.groups_length.result c.from.ensures c.present.ensures.value c.groups_length.ensures
