-- What a subtree shows, and what its parts show.
use Rattle.std.specs.Prelude.{◌≡◌, ℕ, ◌<◌, List}
use Rattle.tiny.specs.declared.tokens.Lexeme.{Lexeme}
use Rattle.tiny.specs.declared.placed.Placed.{Placed}
use Rattle.tiny.specs.Scan.{token_in}
use Rattle.syntax.specs.Shape.{Tree, token_of}
use Rattle.syntax.specs.Shape.Tree.{leaf, under, join}
use Rattle.nodes.specs.Shows.{Shows}
use Rattle.nodes.specs.declared.subtree.Subtree.{Subtree}
use Rattle.nodes.specs.declared.subtree.Shape.{Shape}
use Rattle.nodes.specs.declared.subtree.Shape.TheVariants.{Leaf, Under, Join}

-- it shows this tree of this source
abbrev pub Shown : List ℕ → Subtree → Tree → Type 0
Shown source s t = Shows source s.nodes.now s.at t

-- the tree is one part under a token
pub record OnePart (source : List ℕ) (k : Placed Lexeme) (p : Subtree) (t : Tree) : Type 0 where
  pub part : Tree
  pub whole : t ≡ under (token_in source k) part
  pub shown : Shown source p part

-- the tree is two parts joined by a token
pub record TwoParts (source : List ℕ) (k : Placed Lexeme) (a b : Subtree) (t : Tree) : Type 0 where
  pub left : Tree
  pub right : Tree
  pub whole : t ≡ join (token_in source k) left right
  pub left_shown : Shown source a left
  pub right_shown : Shown source b right

-- a tree has this shape
abbrev pub Shaped : List ℕ → Shape → Tree → Type 0
Shaped source (Leaf k) t = t ≡ leaf (token_in source k)
Shaped source (Under k p) t = OnePart source k p t
Shaped source (Join k a b) t = TwoParts source k a b t

-- a part stands in the same table, before its whole
pub record Within (s p : Subtree) : Type 0 where
  pub same : p.nodes.now ≡ s.nodes.now
  pub before : p.at < s.at

abbrev pub PartsWithin : Subtree → Shape → Type 0
PartsWithin s (Leaf k) = Unit {0}
PartsWithin s (Under k p) = Within s p
PartsWithin s (Join k a b) = Within s a × Within s b

-- the token of the tree that it shows
abbrev pub BeginsWith : Subtree → Placed Lexeme → Type 0
BeginsWith s k = (source : List ℕ) (t : Tree) → Shown source s t → token_in source k ≡ token_of t

-- from a subtree to another, whatever tree the first shows
abbrev pub LeadsTo : Subtree → Subtree → (Tree → Tree) → Type 0
LeadsTo s p f = (source : List ℕ) (t : Tree) → Shown source s t → Shown source p (f t)
