-- The tree of a program as the parser makes it. Each node belongs to one token, and each token has
-- at most one node.
use Rattle.std.specs.Prelude.{ℕ, suc, ◌+◌}
use Rattle.tiny.specs.Token.{Token}

pub data Tree : Type 0 where
  leaf : Token → Tree
  under : Token → Tree → Tree
  join : Token → Tree → Tree → Tree

abbrev pub token_of : Tree → Token
token_of (leaf t) = t
token_of (under t e) = t
token_of (join t l r) = t

-- how many nodes it has
abbrev pub size : Tree → ℕ
size (leaf t) = 1
size (under t e) = suc (size e)
size (join t l r) = suc (size l + size r)
