-- What is true of the trees that are accepted, and of the rules that they make.
use Rattle.std.proofs.Common.{◌≡◌, ℕ, [], sym, ap, ◌∙◌, subst, arith}
use Rattle.tiny.specs.Tree.{BlockTree}
use Rattle.meaning.specs.Rule.{Block}
use Rattle.meaning.specs.Stages.{judged, accepted, one_of, made, deep_block, names_block, kinds_block, large_program}
use Rattle.meaning.specs.Accepted.{AcceptedIsSound, UnbrokenIsAccepted, AcceptedIsSmall}
use Rattle.meaning.proofs.Nil.{nil}
use Rattle.meaning.proofs.Passed.{past_first, past_any, passed}
use Rattle.meaning.proofs.Blocks.{HeldBlocked, block_held}
use Rattle.meaning.proofs.Complete.{complete}
use Rattle.meaning.proofs.Small.{SmallProgram, program_small}

pub accepted_sound : AcceptedIsSound
accepted_sound t b e =
    let p = passed t b e in
    let h = subst (λ x. HeldBlocked x [] 0) p.made (block_held t [] 1 0 tt (nil p.deep)) in
    record { fits = h.0; needs = h.1 }

pub accepted_small : AcceptedIsSmall
accepted_small P z o t b w e =
    let p = passed t b e in subst (SmallProgram P z o) p.made (program_small P z o t w (nil p.large))

-- what is left of the judgement where a stage finds nothing
pub unbroken : (t : BlockTree) → deep_block t 1 0 ≡ [] → names_block t [] ≡ [] → kinds_block t [] ≡ [] → large_program t ≡ [] → (b : Block) × (judged t ≡ accepted b)
unbroken t d n k l = let c = complete t n k in (c.0, rw (d, n, k, l, c.1))

never : (t : BlockTree) → judged t ≡ one_of [] → ⊥
never t e =
    let d = past_first _ _ (one_of []) tt e in
    let n = past_first _ _ (one_of []) tt d.1 in
    let k = past_any _ _ (one_of []) tt n.1 in
    let l = past_first _ _ (one_of []) tt k.1 in
    let c = complete t n.0 k.0 in
    not_made c.0 (sym (ap made c.1) ∙ l.1)
  where
    not_made : (b : Block) → accepted b ≡ one_of [] → ⊥
    not_made b e = let z : ◌≡◌ {A = ℕ} 0 1 = cc in omega arith

pub unbroken_accepted : UnbrokenIsAccepted
unbroken_accepted = record {
  accepts = λ t u. unbroken t u.depth u.names u.kinds u.sizes;
  only = λ t b e. let p = passed t b e in record { depth = p.deep; names = p.names; kinds = p.kinds; sizes = p.large };
  shows = never;
}
