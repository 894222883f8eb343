-- When a table of records shows a tree of a source.
use Rattle.std.specs.Prelude.{◌≡◌, ℕ, ◌<◌, List, length, slice_index_or}
use Rattle.tiny.specs.declared.tokens.Lexeme.{Lexeme}
use Rattle.tiny.specs.declared.placed.Placed.{Placed}
use Rattle.tiny.specs.Scan.{token_in}
use Rattle.syntax.specs.Shape.{Tree}
use Rattle.syntax.specs.Shape.Tree.{leaf, under, join}
use Rattle.nodes.specs.declared.node.Node.{Node}
use Rattle.nodes.specs.declared.node.Node.TheVariants.{Blank, Leaf, Under, Join}

-- record i of the table is the root of the tree, and its parts stand before it
pub data Shows (source : List ℕ) (ns : List Node) : ℕ → Tree → Type 0 where
  leaf_at : {i : ℕ} {t : Placed Lexeme} → i < length ns → slice_index_or ns i Blank ≡ Leaf t → Shows source ns i (leaf (token_in source t))
  under_at : {i m : ℕ} {t : Placed Lexeme} {e : Tree} →
      i < length ns → slice_index_or ns i Blank ≡ Under t m → m < i → Shows source ns m e → Shows source ns i (under (token_in source t) e)
  join_at : {i m n : ℕ} {t : Placed Lexeme} {l r : Tree} →
      i < length ns → slice_index_or ns i Blank ≡ Join t m n → m < i → n < i → Shows source ns m l → Shows source ns n r →
      Shows source ns i (join (token_in source t) l r)
