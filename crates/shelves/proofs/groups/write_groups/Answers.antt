use Rattle.std.proofs.Common.{ℕ, ◌+◌, ◌/◌, ◌%◌, List, [], ◌∷◌, ◌++◌, length, sym, ap, ◌∙◌, append_assoc, arith, length-append}
use Rattle.tables.specs.Items.{items}
use Rattle.shelves.specs.Groups.{groups}
use Rattle.shelves.proofs.Digits.{groups_last, groups_more, some_group, read_back}
use Rattle.shelves.proofs.groups.write_groups.Goals as goal

pub push-requires : goal.push-requires
push-requires c =
    let l = c.loop-rest in
    omega (arith, simp length-append at (ap length l.invariant.joined), some_group l.rest)

pub loop-rest-preserved : goal.loop-rest-preserved
loop-rest-preserved c =
    let l = c.loop-rest in
    let r = l.rest in
    record {
      joined =
          ap (λ (xs : List ℕ). xs ++ groups (r / 128)) c.push.ensures.added
          ∙ append_assoc (items l.bytes) ((128 + r % 128) ∷ []) (groups (r / 128))
          ∙ ap (λ (xs : List ℕ). items l.bytes ++ xs) (sym (groups_more r (omega arith) (omega arith)))
          ∙ l.invariant.joined;
      kept = c.push.ensures.kept ∙ l.invariant.kept;
      fits = omega arith;
    }

pub push-requires-2 : goal.push-requires-2
push-requires-2 c =
    let l = c.loop-rest in
    omega (arith, simp length-append at (ap length l.invariant.joined), some_group l.rest)

pub returns : goal.returns
returns c =
    let l = c.loop-rest in
    let added = c.push-2.ensures.added ∙ ap (λ (xs : List ℕ). items l.bytes ++ xs) (sym (groups_last l.rest (omega arith))) ∙ l.invariant.joined in
    record {
      written = record { added = added; kept = c.push-2.ensures.kept ∙ l.invariant.kept };
      back = read_back (items c.args.bytes.now) _ c.args.n c.ranges.n.fits added;
    }
