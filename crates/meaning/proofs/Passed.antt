-- What an accepted tree passed.
use Rattle.std.proofs.Common.{◌≡◌, List, [], ◌∷◌, sym, refl, subst}
use Rattle.tiny.specs.Tree.{BlockTree}
use Rattle.meaning.specs.Rule.{Block}
use Rattle.meaning.specs.Statements.{Blocked, block_of}
use Rattle.meaning.specs.Statements as Statements
use Rattle.meaning.specs.Stages.{Break, Judged, refused, one_of, accepted, first, any, made, judged, deep_block, names_block, kinds_block, large_program}

pub record Passed (t : BlockTree) (b : Block) : Type 0 where
  pub deep : deep_block t 1 0 ≡ []
  pub names : names_block t [] ≡ []
  pub kinds : kinds_block t [] ≡ []
  pub large : large_program t ≡ []
  pub made : block_of t [] ≡ Statements.Blocked.sound b

-- what tells a judgement that names no break of a stage
abbrev pub Silent : Judged → Type 0
Silent (refused x) = ⊥
Silent (one_of []) = Unit {0}
Silent (one_of (x ∷ bs)) = ⊥
Silent (accepted b) = Unit {0}

pub past_first : (bs : List Break) (j k : Judged) → Silent k → first bs j ≡ k → (bs ≡ []) × (j ≡ k)
past_first [] j k s e = (refl, e)
past_first (x ∷ bs) j k s e = absurd (subst Silent (sym e) s)

pub past_any : (bs : List Break) (j k : Judged) → Silent k → any bs j ≡ k → (bs ≡ []) × (j ≡ k)
past_any [] j k s e = (refl, e)
past_any (x ∷ bs) j k s e = absurd (subst Silent (sym e) s)

past_made : (x : Blocked) (b : Block) → made x ≡ accepted b → x ≡ Statements.Blocked.sound b
past_made (Statements.Blocked.sound c) b e = cc
past_made Statements.Blocked.unsound b e = cc

pub passed : (t : BlockTree) (b : Block) → judged t ≡ accepted b → Passed t b
passed t b e =
    let d = past_first _ _ (accepted b) tt e in
    let n = past_first _ _ (accepted b) tt d.1 in
    let k = past_any _ _ (accepted b) tt n.1 in
    let l = past_first _ _ (accepted b) tt k.1 in
    record { deep = d.0; names = n.0; kinds = k.0; large = l.0; made = past_made _ b l.1 }
