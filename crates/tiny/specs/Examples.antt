-- Worked examples: short sources, and what is scanned from them.
use Rattle.std.specs.Prelude.{◌≡◌, ℕ, List, [], ◌∷◌, ◌++◌, ℤ, pos, negsuc, codes}
use Rattle.tiny.specs.declared.faults.ScanCause.TheVariants.{NoToken, TooLarge}
use Rattle.tiny.specs.declared.tokens.Kind.{Kind}
use Rattle.tiny.specs.declared.tokens.Kind.TheVariants.{Ampersand, Brace, BraceEnd, Caret, DoubleAmpersand, IfWord, IntWord, Less, LessEqual, Becomes, Literal, Name, WriteWord, StringWord}
use Rattle.tiny.specs.Token.{Token}
use Rattle.tiny.specs.Scan.{scan}
use Rattle.tiny.specs.Scan.Scanned.{tokens, refused}

abbrev tok : Kind → ℕ → List ℕ → ℤ → Token
tok k p x v = record { kind = k; place = p; text = x; value = v }

-- a token that is no literal
abbrev plain : Kind → ℕ → List ℕ → Token
plain k p x = tok k p x (pos 0)

pub record WorkedScans : Type 0 where
  pub nothing : scan [] ≡ tokens []
  pub block : scan (codes "{}") ≡ tokens (plain Brace 0 (codes "{") ∷ plain BraceEnd 1 (codes "}") ∷ [])
  -- the sign belongs to the literal
  pub sign :
      scan (codes "{int x && write x-1}")
      ≡ tokens (plain Brace 0 (codes "{") ∷ plain IntWord 1 (codes "int") ∷ plain Name 5 (codes "x") ∷ plain DoubleAmpersand 7 (codes "&&")
      ∷ plain WriteWord 10 (codes "write") ∷ plain Name 16 (codes "x") ∷ tok Literal 17 (codes "-1") (negsuc 0) ∷ plain BraceEnd 19 (codes "}") ∷ [])
  -- reserved words in any letter case, a comment, and the longest token
  pub longest :
      scan (codes "IF a<=-0 ## c" ++ 10 ∷ codes "&&&_1")
      ≡ tokens (plain IfWord 0 (codes "IF") ∷ plain Name 3 (codes "a") ∷ plain LessEqual 4 (codes "<=") ∷ tok Literal 6 (codes "-0") (pos 0)
      ∷ plain DoubleAmpersand 14 (codes "&&") ∷ plain Ampersand 16 (codes "&") ∷ plain Name 17 (codes "_1") ∷ [])
  -- a blank parts two symbols
  pub parted : scan (codes "< =") ≡ tokens (plain Less 0 (codes "<") ∷ plain Becomes 2 (codes "=") ∷ [])
  -- no digit goes in front of another as 0
  pub noughts : scan (codes "007") ≡ tokens (tok Literal 0 (codes "0") (pos 0) ∷ tok Literal 1 (codes "0") (pos 0) ∷ tok Literal 2 (codes "7") (pos 7) ∷ [])
  -- tokens of no rule are tokens
  pub unused : scan (codes "^String") ≡ tokens (plain Caret 0 (codes "^") ∷ plain StringWord 1 (codes "String") ∷ [])
  pub last_comment : scan (codes "x##") ≡ tokens (plain Name 0 (codes "x") ∷ [])
  pub ints :
      scan (codes "+2147483647 -2147483648") ≡ tokens (tok Literal 0 (codes "+2147483647") (pos 2147483647) ∷ tok Literal 12 (codes "-2147483648") (negsuc 2147483647) ∷ [])
  pub too_large : scan (codes " 2147483648") ≡ refused TooLarge 1
  pub too_small : scan (codes "0 -2147483649") ≡ refused TooLarge 2
  pub lone_bang : scan (codes "x ! y") ≡ refused NoToken 2
  pub lone_hash : scan (codes "1# 2") ≡ refused NoToken 1
  pub over_127 : scan (120 ∷ 195 ∷ 177 ∷ []) ≡ refused NoToken 1
