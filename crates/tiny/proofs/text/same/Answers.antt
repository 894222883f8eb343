use Rattle.std.proofs.Common.{◌≡◌, ◌∙◌, rules}
use Rattle.std.specs.Str.{str_eq_ignore_ascii_case}
use Rattle.tiny.proofs.Words.{same_word}
use Rattle.tiny.proofs.text.same.Goals as goal

pub returns : goal.returns
returns c =
    let alike : c.eq_ignore_ascii_case.result ≡ str_eq_ignore_ascii_case c.args.text.now c.args.word.now = search rules in
    alike ∙ same_word c.args.text.now c.args.word.now
