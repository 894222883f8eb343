-- The grammar: `Derives s before t after` says that the tokens `before` begin with an `s` whose
-- tree is t, and that `after` are the tokens behind it. A constructor for each production.
use Rattle.std.specs.Prelude.{◌≡◌, ◌⊎◌, List, [], ◌∷◌}
use Rattle.tiny.specs.declared.tokens.Kind.{Kind}
use Rattle.tiny.specs.declared.tokens.Kind.TheVariants.{Name, Literal, StructWord, TypeWord, ProcWord, IfWord, ElseWord, WhileWord, ReadWord, WriteWord, NlWord, CallWord, And, Or, Plus, Minus, Open, Close, Semicolon, Becomes, Index, IndexEnd, Dot, Comma, Brace, BraceEnd, Ampersand, DoubleAmpersand, At}
use Rattle.tiny.specs.Token.{Token, truths, prefixes, factors, relations, basic_types}
use Rattle.syntax.specs.Shape.{Tree}
use Rattle.syntax.specs.Shape.Tree.{leaf, under, join}

-- what there are lists of, and the brackets that may have nothing between them
pub data Listed : Type 0 where
  declarations statements formals fields arguments : Listed

pub data Bracket : Type 0 where
  braces formal_parens actual_parens : Bracket

pub data Sort : Type 0 where
  e0 e1 e2 e3 e4 e5 e6 basic : Sort
  type field formal declaration statement branches content : Sort
  list : Listed → Sort
  enclosed : Bracket → Sort

abbrev pub block : Sort
block = enclosed braces

abbrev pub item : Listed → Sort
item declarations = declaration
item statements = statement
item formals = formal
item fields = field
item arguments = e0

abbrev pub separator : Listed → Kind
separator declarations = Semicolon
separator statements = Semicolon
separator formals = Comma
separator fields = Comma
separator arguments = Comma

abbrev pub opening : Bracket → Kind
opening braces = Brace
opening formal_parens = Open
opening actual_parens = Open

abbrev pub closing : Bracket → Kind
closing braces = BraceEnd
closing formal_parens = Close
closing actual_parens = Close

abbrev pub contents : Bracket → Sort
contents braces = content
contents formal_parens = list formals
contents actual_parens = list arguments

abbrev pub Is : Kind → Token → Type 0
Is k t = t.kind ≡ k

abbrev pub OneOf : List Kind → Token → Type 0
OneOf [] t = ⊥
OneOf (k ∷ ks) t = Is k t ⊎ OneOf ks t

pub data Derives : Sort → List Token → Tree → List Token → Type 0 where
  -- basic expressions
  name : {t : Token} {a : List Token} → Is Name t → Derives basic (t ∷ a) (leaf t) a
  literal : {t : Token} {a : List Token} → Is Literal t → Derives basic (t ∷ a) (leaf t) a
  truth : {t : Token} {a : List Token} → OneOf truths t → Derives basic (t ∷ a) (leaf t) a
  parens : {o c : Token} {e : Tree} {b a : List Token} → Is Open o → Derives e0 b e (c ∷ a) → Is Close c → Derives basic (o ∷ b) e a
  -- level 6: postfix [ ] and .
  e6_basic : {e : Tree} {b a : List Token} → Derives basic b e a → Derives e6 b e a
  index : {o c : Token} {e f : Tree} {b m a : List Token} →
      Derives e6 b e (o ∷ m) → Is Index o → Derives e0 m f (c ∷ a) → Is IndexEnd c → Derives e6 b (join o e f) a
  select : {o n : Token} {e : Tree} {b a : List Token} → Derives e6 b e (o ∷ n ∷ a) → Is Dot o → Is Name n → Derives e6 b (join o e (leaf n)) a
  -- level 5: prefix - and not
  e5_e6 : {e : Tree} {b a : List Token} → Derives e6 b e a → Derives e5 b e a
  prefixed : {o : Token} {e : Tree} {b a : List Token} → OneOf prefixes o → Derives e5 b e a → Derives e5 (o ∷ b) (under o e) a
  -- level 4: * / %, left
  e4_e5 : {e : Tree} {b a : List Token} → Derives e5 b e a → Derives e4 b e a
  product : {o : Token} {l r : Tree} {b m a : List Token} → Derives e4 b l (o ∷ m) → OneOf factors o → Derives e5 m r a → Derives e4 b (join o l r) a
  -- level 3: e4, `e4 and e3` or `e4 or e4`
  e3_e4 : {e : Tree} {b a : List Token} → Derives e4 b e a → Derives e3 b e a
  conjunction : {o : Token} {l r : Tree} {b m a : List Token} → Derives e4 b l (o ∷ m) → Is And o → Derives e3 m r a → Derives e3 b (join o l r) a
  disjunction : {o : Token} {l r : Tree} {b m a : List Token} → Derives e4 b l (o ∷ m) → Is Or o → Derives e4 m r a → Derives e3 b (join o l r) a
  -- level 2: e3 or `e3 - e3`, then any number of `+ e3`
  e2_e3 : {e : Tree} {b a : List Token} → Derives e3 b e a → Derives e2 b e a
  difference : {o : Token} {l r : Tree} {b m a : List Token} → Derives e3 b l (o ∷ m) → Is Minus o → Derives e3 m r a → Derives e2 b (join o l r) a
  sum : {o : Token} {l r : Tree} {b m a : List Token} → Derives e2 b l (o ∷ m) → Is Plus o → Derives e3 m r a → Derives e2 b (join o l r) a
  -- level 1: relations, left
  e1_e2 : {e : Tree} {b a : List Token} → Derives e2 b e a → Derives e1 b e a
  relation : {o : Token} {l r : Tree} {b m a : List Token} → Derives e1 b l (o ∷ m) → OneOf relations o → Derives e2 m r a → Derives e1 b (join o l r) a
  -- level 0: =, right
  e0_e1 : {e : Tree} {b a : List Token} → Derives e1 b e a → Derives e0 b e a
  assignment : {o : Token} {l r : Tree} {b m a : List Token} → Derives e1 b l (o ∷ m) → Is Becomes o → Derives e0 m r a → Derives e0 b (join o l r) a
  -- types
  basic_type : {t : Token} {a : List Token} → OneOf basic_types t → Derives type (t ∷ a) (leaf t) a
  type_name : {t : Token} {a : List Token} → Is Name t → Derives type (t ∷ a) (leaf t) a
  struct : {s o c : Token} {f : Tree} {b a : List Token} →
      Is StructWord s → Is Brace o → Derives (list fields) b f (c ∷ a) → Is BraceEnd c → Derives type (s ∷ o ∷ b) (under s f) a
  array : {o n c : Token} {e : Tree} {b a : List Token} →
      Derives type b e (o ∷ n ∷ c ∷ a) → Is Index o → Is Literal n → Is IndexEnd c → Derives type b (join o e (leaf n)) a
  field_of : {n : Token} {e : Tree} {b a : List Token} → Derives type b e (n ∷ a) → Is Name n → Derives field b (under n e) a
  by_value : {n : Token} {e : Tree} {b a : List Token} → Derives type b e (n ∷ a) → Is Name n → Derives formal b (under n e) a
  by_reference : {r n : Token} {e : Tree} {b a : List Token} →
      Derives type b e (r ∷ n ∷ a) → Is Ampersand r → Is Name n → Derives formal b (under n (under r e)) a
  -- declarations
  variable : {n : Token} {e : Tree} {b a : List Token} → Derives type b e (n ∷ a) → Is Name n → Derives declaration b (under n e) a
  type_declaration : {w n : Token} {e : Tree} {b a : List Token} →
      Is TypeWord w → Derives type b e (n ∷ a) → Is Name n → Derives declaration (w ∷ b) (under w (under n e)) a
  procedure : {w n : Token} {f e : Tree} {b m a : List Token} →
      Is ProcWord w → Is Name n → Derives (enclosed formal_parens) b f m → Derives block m e a → Derives declaration (w ∷ n ∷ b) (join w (under n f) e) a
  -- instructions
  eval : {w : Token} {e : Tree} {b a : List Token} → Is At w → Derives e0 b e a → Derives statement (w ∷ b) (under w e) a
  if : {w : Token} {e r : Tree} {b m a : List Token} → Is IfWord w → Derives e0 b e m → Derives branches m r a → Derives statement (w ∷ b) (join w e r) a
  while : {w : Token} {e r : Tree} {b m a : List Token} → Is WhileWord w → Derives e0 b e m → Derives block m r a → Derives statement (w ∷ b) (join w e r) a
  read : {w : Token} {e : Tree} {b a : List Token} → Is ReadWord w → Derives e0 b e a → Derives statement (w ∷ b) (under w e) a
  write : {w : Token} {e : Tree} {b a : List Token} → Is WriteWord w → Derives e0 b e a → Derives statement (w ∷ b) (under w e) a
  nl : {w : Token} {a : List Token} → Is NlWord w → Derives statement (w ∷ a) (leaf w) a
  call : {w n : Token} {e : Tree} {b a : List Token} →
      Is CallWord w → Is Name n → Derives (enclosed actual_parens) b e a → Derives statement (w ∷ n ∷ b) (join w (leaf n) e) a
  compound : {e : Tree} {b a : List Token} → Derives block b e a → Derives statement b e a
  -- the block of an if, or its two blocks
  then : {e : Tree} {b a : List Token} → Derives block b e a → Derives branches b e a
  else : {o : Token} {l r : Tree} {b m a : List Token} → Derives block b l (o ∷ m) → Is ElseWord o → Derives block m r a → Derives branches b (join o l r) a
  -- what stands in a block: instructions, declarations that && ends, or both
  instructions : {e : Tree} {b a : List Token} → Derives (list statements) b e a → Derives content b e a
  declared : {o : Token} {d : Tree} {b a : List Token} → Derives (list declarations) b d (o ∷ a) → Is DoubleAmpersand o → Derives content b (under o d) a
  both : {o : Token} {d e : Tree} {b m a : List Token} →
      Derives (list declarations) b d (o ∷ m) → Is DoubleAmpersand o → Derives (list statements) m e a → Derives content b (join o d e) a
  -- one or more, with a separator between two
  one : {l : Listed} {e : Tree} {b a : List Token} → Derives (item l) b e a → Derives (list l) b e a
  more : {l : Listed} {o : Token} {e r : Tree} {b m a : List Token} →
      Derives (item l) b e (o ∷ m) → Is (separator l) o → Derives (list l) m r a → Derives (list l) b (join o e r) a
  -- brackets
  nothing : {k : Bracket} {o c : Token} {a : List Token} → Is (opening k) o → Is (closing k) c → Derives (enclosed k) (o ∷ c ∷ a) (leaf o) a
  something : {k : Bracket} {o c : Token} {e : Tree} {b a : List Token} →
      Is (opening k) o → Derives (contents k) b e (c ∷ a) → Is (closing k) c → Derives (enclosed k) (o ∷ b) (under o e) a

-- a program is a block, with nothing behind it
abbrev pub Program : List Token → Tree → Type 0
Program ts t = Derives block ts t []
