use Rattle.std.proofs.Common.{◌≡◌, ◌-◌, ◌<◌, ℕ, List, length, take, drop, ap, ◌∙◌, arith}
use Rattle.std.specs.List.{prefix_len}
use Rattle.std.specs.Option.{unwrap_or}
use Rattle.std.proofs.lemmas.List.{take_rest}
use Rattle.std.proofs.lemmas.Bool.Decides.{nat_tests}
use Rattle.hosts.specs.Parts.{blank}
use Rattle.hosts.proofs.Words.{no_part, some_part}
use Rattle.hosts.proofs.parts.first_part.Goals as goal

pub returns-then-is_empty : goal.returns-then-is_empty
returns-then-is_empty c =
    let bytes = c.args.bytes.now in
    let text : List ℕ = take (length bytes - c.blanks.result) (drop c.blanks.result bytes) in
    let rest : text ≡ drop (prefix_len blank bytes) bytes = take_rest bytes c.blanks.result ∙ ap (λ (n : ℕ). drop n bytes) c.blanks.ensures.value in
    let none : length text ≡ 0 = grind (arith, nat_tests) in
    no_part bytes text rest none

pub returns : goal.returns
returns c =
    let bytes = c.args.bytes.now in
    let text : List ℕ = take (length bytes - c.blanks.result) (drop c.blanks.result bytes) in
    let rest : text ≡ drop (prefix_len blank bytes) bytes = take_rest bytes c.blanks.result ∙ ap (λ (n : ℕ). drop n bytes) c.blanks.ensures.value in
    let some : 0 < length text = grind (arith, nat_tests) in
    let end = c.unwrap_or-end.ensures ∙ ap (λ o. unwrap_or o (length text)) c.first_blank.ensures in
    let part = some_part bytes text c.unwrap_or-end.result rest end some in
    cc
