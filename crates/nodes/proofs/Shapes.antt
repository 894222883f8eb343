-- Shapes that some arms of a match leave over.
use Rattle.std.proofs.Common.{◌≡◌, ℕ, List, refl, sym, subst}
use Rattle.tiny.specs.declared.tokens.Lexeme.{Lexeme}
use Rattle.tiny.specs.declared.placed.Placed.{Placed}
use Rattle.tiny.specs.Token.{Token}
use Rattle.syntax.specs.Shape.{Tree}
use Rattle.syntax.specs.Shape.Tree.{leaf, under}
use Rattle.nodes.specs.declared.subtree.Subtree.{Subtree}
use Rattle.nodes.specs.declared.subtree.Shape.{Shape}
use Rattle.nodes.specs.declared.subtree.Shape.TheVariants.{Leaf, Under, Join}
use Rattle.nodes.specs.Subtrees.{Shaped}

module _ (source : List ℕ) (x : Shape) (u : Tree) (h : Shaped source x u) (P : Tree → Type 0) where
  -- what holds of a leaf and of one part holds of what has not two
  pub unjoined : ((k : Placed Lexeme) (a b : Subtree) → x ≡ Join k a b → ⊥) → ((t : Token) → P (leaf t)) → ((t : Token) (e : Tree) → P (under t e)) → P u
  unjoined n f g =
      elim x as (λ y. Shaped source y u → ((k : Placed Lexeme) (a b : Subtree) → y ≡ Join k a b → ⊥) → P u) [
        | Leaf k ↦ λ h n. subst P (sym h) (f _)
        | Under k p ↦ λ h n. subst P (sym h.whole) (g _ _)
        | Join k a b ↦ λ h n. absurd (n k a b refl)
      ] h n
