use Rattle.std.proofs.Common.{◌≡◌, sym, ap, ◌∙◌, arith}
use Rattle.std.proofs.lemmas.Iterator.Consumers.{nth_from_yields_List, YieldsList-from_first}
use Rattle.std.proofs.lemmas.Iterator.Adapters.{option_map_id}
use Rattle.std.proofs.lemmas.Option.{slice_get_past}
use Rattle.machine.specs.Shelves.{fetched}
use Rattle.tables.specs.Items.{items}
use Rattle.shelves.specs.Bytes.{decoded}
use Rattle.shelves.proofs.Codes.{fetched_sound}
use Rattle.shelves.proofs.Laws.{bytes_few, decoded_lawful}
use Rattle.shelves.proofs.byte_shelf.ByteShelfShelf.fetch.Goals as goal

pub returns-then-n-self-clause-answer : goal.returns-then-n-self-clause-answer
returns-then-n-self-clause-answer c =
    let s = c.args.self.now in
    sym (slice_get_past (decoded (items s.bytes)) c.args.n (omega (arith, s.counted, c.if-n-self.true)))

pub returns : goal.returns
returns c =
    let s = c.args.self.now in
    let code = decoded (items s.bytes) in
    let got = nth_from_yields_List c.nth.result c.nth.new.self c.args.n c.nth.ensures.ran (YieldsList-from_first (λ i. i) (λ s. decoded s.bytes.now) code (ap decoded c.as_slice.ensures)) in
    let answer : c.nth.result ≡ fetched code c.args.n = sym (option_map_id c.nth.result) ∙ got in
    record { answer = answer; sound = fetched_sound c.nth.result code c.args.n 1048576 answer (decoded_lawful (items s.bytes)) (omega (arith, bytes_few (items s.bytes) s.sound)) }
