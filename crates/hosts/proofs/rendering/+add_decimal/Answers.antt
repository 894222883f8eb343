use Rattle.std.proofs.Common.{◌+◌, ◌/◌, ◌%◌, List, ℕ, [], ◌∷◌, ◌++◌, length, decimal, append_assoc, length-append, ap, ◌∙◌, sym, arith}
use Rattle.std.proofs.lemmas.Fmt.{decimal_digit, decimal_step}
use Rattle.tables.specs.Items.{items}
use Rattle.hosts.proofs.Renders.{length_one, length_step}
use Rattle.hosts.proofs.rendering.+add_decimal.Goals as goal

pub push-requires : goal.push-requires
push-requires t c = omega (arith, length_one c.args.n (omega arith), c.requires)

pub returns-then-n-lt10 : goal.returns-then-n-lt10
returns-then-n-lt10 t c = record {
  added = c.push.ensures.added ∙ ap (λ (s : List ℕ). items c.args.text.now ++ s) (sym (decimal_digit c.args.n (omega arith)));
  kept = c.push.ensures.kept;
}

pub add_decimal-requires : goal.add_decimal-requires
add_decimal-requires t c = (omega arith, omega (arith, length_step c.args.n (omega arith) (omega arith), c.requires))

pub push-requires-2 : goal.push-requires-2
push-requires-2 t c =
    let long = ap length c.add_decimal.ensures.added ∙ length-append (items c.args.text.now) (decimal (c.args.n / 10)) in
    omega (arith, length_step c.args.n (omega arith) (omega arith), c.requires, c.add_decimal.ensures.kept, long)

pub returns : goal.returns
returns t c =
    let before = items c.args.text.now in
    let last = (48 + c.args.n % 10) ∷ [] in
    record {
      added =
          c.push-2.ensures.added
          ∙ ap (λ (s : List ℕ). s ++ last) c.add_decimal.ensures.added
          ∙ append_assoc before (decimal (c.args.n / 10)) last
          ∙ ap (λ (s : List ℕ). before ++ s) (sym (decimal_step c.args.n (omega arith) (omega arith)));
      kept = c.push-2.ensures.kept ∙ c.add_decimal.ensures.kept;
    }
