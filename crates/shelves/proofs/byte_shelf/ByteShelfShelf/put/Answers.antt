use Rattle.std.proofs.Common.{ℕ, min, length, sym, refl, ap, ◌∙◌, arith, length-append}
use Rattle.std.proofs.lemmas.List.{length_push}
use Rattle.tables.specs.Items.{items, capacity}
use Rattle.shelves.proofs.Codes.{put_full, put_fits}
use Rattle.shelves.specs.Bytes.{byte_cost, decoded}
use Rattle.shelves.proofs.Laws.{bytes_total, bytes_few, put_decoded}
use Rattle.shelves.proofs.byte_shelf.ByteShelfShelf.put.Goals as goal

pub returns-then-capacity-len : goal.returns-then-capacity-len
returns-then-capacity-len c =
    let s = c.args.self.now in
    let total = bytes_total (items s.bytes) s.sound in
    let full = put_full byte_cost (min (capacity s.bytes) 1048576) (decoded (items s.bytes)) c.args.instruction (sym c.if-not-is_lawful.ensures) (omega arith) in
    record { answer = sym full.0; after = sym full.1; fixed = (refl, refl) }

pub overflow_add-self : goal.overflow_add-self
overflow_add-self c = let s = c.args.self.now in omega (arith, bytes_few (items s.bytes) s.sound)

pub invariant_of-self : goal.invariant_of-self
invariant_of-self c =
    let s = c.args.self.now in
    let wrote = c.write_instruction.ensures in
    let put = put_decoded (items s.bytes) _ c.args.instruction s.sound (sym c.if-not-is_lawful.ensures) wrote.added in
    record {
      within = omega (arith, simp length-append at (ap length wrote.added));
      sound = put.1;
      counted = omega (arith, ap length put.0, length_push (decoded (items s.bytes)) c.args.instruction);
    }

pub returns : goal.returns
returns c =
    let s = c.args.self.now in
    let i = c.args.instruction in
    let l = sym c.if-not-is_lawful.ensures in
    let wrote = c.write_instruction.ensures in
    let put = put_decoded (items s.bytes) _ i s.sound l wrote.added in
    let total = bytes_total (items s.bytes) s.sound in
    let fits = put_fits byte_cost (min (capacity s.bytes) 1048576) (decoded (items s.bytes)) i l (omega arith) in
    record { answer = sym fits.0; after = put.0 ∙ sym fits.1; fixed = (ap (λ (n : ℕ). min n 1048576) wrote.kept, refl) }
