use Rattle.std.proofs.Common.{◌-◌, ap, ◌∙◌, arith, rules, tests}
use Rattle.std.proofs.lemmas.Iterator.Search.{any_from_yields_List}
use Rattle.std.proofs.lemmas.Iterator.Adapters.{YieldsList-from_rev_slice}
use Rattle.meaning.specs.Types.{same_name}
use Rattle.checks.specs.declared.names.NameRecord.{NameRecord}
use Rattle.checks.specs.Names.{text_of}
use Rattle.checks.proofs.Held.{held_any}
use Rattle.checks.proofs.names.Names.holds.Goals as goal

pub returns : goal.returns
returns c =
    let s = c.args.self.now.source.now in
    let test = λ (r : NameRecord). same_name (text_of s c.args.name) (text_of s r) in
    any_from_yields_List test _ _ _ c.any.ensures.ran
    (YieldsList-from_rev_slice c.in-Some.names.now (ap (λ i. i.rest.now) c.rev.ensures.source ∙ c.iter.ensures.rest)) (λ x b q k. search (rules, tests))
    ∙ rw (c.in-Some.ensures.lookup.0.2, c.as_slice.ensures) (held_any s _ c.args.start (c.args.end - c.args.start) _ (rw (← c.as_slice.ensures) (omega (arith, c.in-Some.ensures.lookup.0.0, c.in-Some.ensures.lookup.0.1))))
