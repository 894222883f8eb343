use Rattle.std.proofs.Common.{◌∷◌, refl, sym, ap, ◌∙◌, subst}
use Rattle.tiny.specs.Scan.{token_in, left_of, Takes}
use Rattle.parser.specs.Rest.{tokens_of}
use Rattle.parser.proofs.Alike.{any_kind}
use Rattle.parser.proofs.Scanning.{onward, next_stands}
use Rattle.parser.proofs.parser.Parser.take.Goals as goal

pub returns-then-not-contains : goal.returns-then-not-contains
returns-then-not-contains c =
    let t = c.in_ok-token.token in
    (refl, next_stands c.args.kinds.now c.args.self.now t c.in_ok-token.was ∙ sym (any_kind t.what.kind c.args.kinds.now) ∙ sym c.contains.ensures.value ∙ c.if-not-contains.true)

pub returns : goal.returns
returns c =
    let s = c.args.self.now.scanner in
    let e = c.next.new.self in
    let t = c.in_ok-token.token in
    let before = left_of s.read s.source.now s.at in
    let after = left_of e.read e.source.now e.at in
    let takes = subst (λ r. Takes s.source.now before r after) c.unwrap-self.ensures c.next.ensures.left in
    let o = onward s.source.now before c.unwrap-self.result after c.args.self.now.sound takes in
    let same = ap (λ x. x.now) c.next.ensures.source in
    record {
      source = same;
      first = ap (λ o. tokens_of s.source.now o before) c.in_ok-token.was
          ∙ ap (λ ts. token_in s.source.now t ∷ ts) (sym o.same ∙ ap (λ x. tokens_of x c.unwrap-self.result after) (sym same));
      kind = sym (any_kind t.what.kind c.args.kinds.now) ∙ sym c.contains.ensures.value ∙ c.if-not-contains.false;
      nodes = refl;
    }
