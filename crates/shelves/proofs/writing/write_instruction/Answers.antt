use Rattle.std.proofs.Common.{ℕ, List, [], ◌∷◌, ◌++◌, length, ap, ◌∙◌, append_assoc, arith, length-append}
use Rattle.std.specs.List.{flat_map}
use Rattle.tables.specs.Items.{items}
use Rattle.machine.specs.Instructions.{view}
use Rattle.shelves.specs.Groups.{groups}
use Rattle.shelves.specs.Parts.{raws}
use Rattle.shelves.specs.Bytes.{encoded}
use Rattle.shelves.specs.declared.parts.Parts.{Parts}
use Rattle.shelves.proofs.Laws.{cost_least}
use Rattle.shelves.proofs.Views.{operands_present}
use Rattle.shelves.proofs.writing.write_instruction.Goals as goal

pub push-requires : goal.push-requires
push-requires c = omega (arith, cost_least c.args.instruction)

pub write_numbers-requires : goal.write_numbers-requires
unfolding encoded
write_numbers-requires c =
    let present = c.present.ensures.value ∙ operands_present c.args.instruction c.from-parts.result c.from-parts.ensures in
    omega (arith, simp length-append at (ap length c.push.ensures.added), ap (λ (ns : List ℕ). length (flat_map groups ns)) present)

pub returns : goal.returns
unfolding encoded
returns c =
    let i = c.args.instruction in
    let before = items c.args.bytes.now in
    let present = c.present.ensures.value ∙ operands_present i c.from-parts.result c.from-parts.ensures in
    record {
      added =
          c.write_numbers.ensures.added
          ∙ ap (λ (xs : List ℕ). xs ++ flat_map groups c.present.result.now) c.push.ensures.added
          ∙ ap (λ (ns : List ℕ). (before ++ c.from-parts.result.code ∷ []) ++ flat_map groups ns) present
          ∙ ap (λ (q : Parts). (before ++ q.code ∷ []) ++ flat_map groups (raws i)) c.from-parts.ensures
          ∙ append_assoc before ((view i).0 ∷ []) (flat_map groups (raws i));
      kept = c.write_numbers.ensures.kept ∙ c.push.ensures.kept;
    }
