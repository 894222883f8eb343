use Rattle.std.proofs.Common.{min, length, sym, refl, ap, ◌∙◌, arith, length-append}
use Rattle.machine.specs.Instructions.{lawful_all}
use Rattle.tables.specs.Items.{items, capacity}
use Rattle.shelves.proofs.Codes.{total_ones, put_full, put_fits, lawful_push}
use Rattle.shelves.proofs.record.RecordShelfShelf.put.Goals as goal

pub returns-then-len-capacity : goal.returns-then-len-capacity
returns-then-len-capacity c =
    let code = c.args.self.now.code in
    let full = put_full (λ _. 1) (min (capacity code) 1048576) (items code) c.args.instruction (sym c.if-not-is_lawful.ensures) (omega (arith, total_ones (items code))) in
    record { answer = sym full.0; after = sym full.1; fixed = (refl, refl) }

pub invariant_of-self : goal.invariant_of-self
invariant_of-self c =
    let s = c.args.self.now in
    record {
      within = omega (arith, simp length-append at (ap length c.push.ensures.added));
      kept = ap lawful_all c.push.ensures.added ∙ lawful_push (items s.code) c.args.instruction s.kept (sym c.if-not-is_lawful.ensures);
    }

pub returns : goal.returns
returns c =
    let code = c.args.self.now.code in
    let fits = put_fits (λ _. 1) (min (capacity code) 1048576) (items code) c.args.instruction (sym c.if-not-is_lawful.ensures) (omega (arith, total_ones (items code))) in
    record { answer = sym fits.0; after = c.push.ensures.added ∙ sym fits.1; fixed = (ap (λ n. min n 1048576) c.push.ensures.kept, refl) }
