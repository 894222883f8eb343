-- When a table of names with a scope record stands for the open scopes, and what a pass over names says.
use Rattle.std.specs.Prelude.{◌≡◌, ℕ, ◌+◌, ◌-◌, ◌<◌, ◌≤◌, cond, List, [], ◌∷◌, ◌++◌, length, Some, Ok, Result}
use Rattle.tiny.specs.declared.placed.Placed.{Placed}
use Rattle.tiny.specs.declared.tokens.Lexeme.{Lexeme}
use Rattle.tiny.specs.Tree.{Name, Fields}
use Rattle.tiny.specs.Tree as Tree
use Rattle.syntax.specs.Shape.{size}
use Rattle.syntax.specs.Shape as Shape
use Rattle.syntax.specs.View as View
use Rattle.nodes.specs.declared.subtree.Subtree.{Subtree}
use Rattle.nodes.specs.Subtrees.{Shown}
use Rattle.tables.specs.Items.{items, capacity, item_at}
use Rattle.tiny.specs.declared.tokens.Kind.TheVariants.{Name as NameKind, TypeWord, ProcWord, Semicolon, DoubleAmpersand}
use Rattle.tiny.specs.Token.{is}
use Rattle.meaning.specs.Stages.{Break, Open, has, known, innermost, added, twice, names_formals, open_formals, names_block}
use Rattle.checks.specs.declared.faults.NameCause.{NameCause}
use Rattle.checks.specs.declared.names.NameRecord.{NameRecord}
use Rattle.checks.specs.declared.names.Names.{Names}
use Rattle.checks.specs.declared.scope.Scope.{Scope}
use Rattle.checks.specs.Breaks.{Tells}
use Rattle.checks.specs.Names.{held}
use Rattle.checks.specs.Numbers.{name_number}

abbrev pub name_break : Placed NameCause → Break
name_break f = record { number = name_number f.what; at = f.place }

-- the names in the table, and how many there may be
abbrev pub listed : Names → List NameRecord
listed n = items n.table.now

abbrev pub most : Names → ℕ
most n = capacity n.table.now

-- the names of the innermost scope
pub record Inner (source : List ℕ) (n : Names) (s : Scope) (xs : List Name) : Type 0 where
  pub text : n.source.now ≡ source
  pub holds : (x : Name) → has xs x ≡ held source (listed n) s.start (s.top - s.start) x

-- the names of all open scopes, and those of the innermost
pub record Declares (source : List ℕ) (n : Names) (s : Scope) (Δ : Open) : Type 0 where
  pub knows : (x : Name) → known Δ x ≡ held source (listed n) 0 s.top x
  pub inner : Inner source n s (innermost Δ)

-- the answer is the first of these breaks, whatever tree the record shows and whatever scopes the table declares
abbrev pub NamesAre : {X : Type 0} → Names → Scope → Subtree → Result X (Placed NameCause) → (Shape.Tree → Open → List Break) → Type 0
NamesAre n s e r f = (source : List ℕ) (t : Shape.Tree) (Δ : Open) → Shown source e t → Declares source n s Δ → Tells name_break r (f t Δ)

-- a fact of an answer without a break
pub record WhenOk {X F : Type 0} (r : Result X F) (P : Type 0) : Type 0 where
  pub then : (x : X) → r ≡ Ok x → P

-- the subtree shows a tree of the source for whose names there is room: so many are in use
pub record FitsIn (source : List ℕ) (s : Subtree) (used room : ℕ) : Type 0 where
  pub tree : Shape.Tree
  pub shown : Shown source s tree
  pub fits : used + size tree ≤ room

-- the first `used` names are in the table, and on top of them there is room for those of a tree, which are `few` at most
pub record Fits (n : Names) (used : ℕ) (e : Subtree) (few : Shape.Tree → ℕ) : Type 0 where
  pub source : List ℕ
  pub tree : Shape.Tree
  pub shown : Shown source e tree
  pub within : used ≤ length (listed n)
  pub fits : used + few tree ≤ most n

-- the same of a procedure: its name with its formals, and its block
pub record FitsBoth (n : Names) (used : ℕ) (e b : Subtree) : Type 0 where
  pub source : List ℕ
  pub head : Shape.Tree
  pub body : Shape.Tree
  pub head_shown : Shown source e head
  pub body_shown : Shown source b body
  pub within : used ≤ length (listed n)
  pub fits : used + (1 + (size head + size body)) ≤ most n

-- the same of one name
pub record FitsOne (n : Names) (used : ℕ) : Type 0 where
  pub within : used ≤ length (listed n)
  pub fits : used < most n

-- the first k names are as they were
pub record Keeps (k : ℕ) (a b : Names) : Type 0 where
  pub text : b.source.now ≡ a.source.now
  pub same : (i : ℕ) → i < k → item_at (listed b) i ≡ item_at (listed a) i
  pub within : k ≤ length (listed b)
  pub room : most b ≡ most a

-- after what closes each scope that it opens: the scope record is as it was, and without a break so are the names that were open
pub record Closes {X F : Type 0} (r : Result X F) (a b : Names) (s u : Scope) : Type 0 where
  pub scope : u ≡ s
  pub keeps : WhenOk r (Keeps s.top a b)

-- the innermost scope has more names
pub record Grown (a b : Names) (s u : Scope) : Type 0 where
  pub keeps : Keeps s.top a b
  pub start : u.start ≡ s.start
  pub more : s.top ≤ u.top
  pub within : u.top ≤ length (listed b)

-- it has one more, the name that a token is
pub record Named (a b : Names) (s u : Scope) (t : Placed Lexeme) : Type 0 where
  pub keeps : Keeps s.top a b
  pub start : u.start ≡ s.start
  pub next : u.top ≡ s.top + 1
  pub put : item_at (listed b) s.top ≡ Some (record { place = t.place; end = t.what.end })
  pub long : length (listed b) ≡ s.top + 1

-- the names of fields, on top of others
abbrev pub open_fields : Fields → List Name → List Name
open_fields Tree.no_field xs = xs
open_fields (Tree.field_of t at x fs) xs = open_fields fs (x ∷ xs)

-- after the fields of a list, with the scope of the struct's fields before and after
pub record Fielded (e : Subtree) (a b : Names) (s u : Scope) : Type 0 where
  pub grown : Grown a b s u
  pub inner : (source : List ℕ) (t : Shape.Tree) (xs : List Name) → Shown source e t → Inner source a s xs →
      Inner source b u (open_fields (View.fields t Tree.no_field) xs)
  pub few : (source : List ℕ) (t : Shape.Tree) → Shown source e t → u.top ≤ s.top + size t

-- after what declares names in the innermost scope: `f` are the open scopes then, and `n` bounds how many names are new
pub record Opened (e : Subtree) (a b : Names) (s u : Scope) (f : Shape.Tree → Open → Open) (n : Shape.Tree → ℕ) : Type 0 where
  pub grown : Grown a b s u
  pub declares : (source : List ℕ) (t : Shape.Tree) (Δ : Open) → Shown source e t → Declares source a s Δ → Declares source b u (f t Δ)
  pub few : (source : List ℕ) (t : Shape.Tree) → Shown source e t → u.top ≤ s.top + n t

-- how many names the declarations of what stands in a block open
abbrev pub new_names : Shape.Tree → ℕ
new_names (Shape.leaf t) = 0
new_names (Shape.under t e) = cond (is t.kind DoubleAmpersand) (new_names e) (cond (is t.kind TypeWord) 1 (cond (is t.kind NameKind) 1 0))
new_names (Shape.join t l r) =
    cond (is t.kind DoubleAmpersand) (new_names l) (cond (is t.kind Semicolon) (new_names l + new_names r) (cond (is t.kind ProcWord) 1 0))

-- how many names may stand in a block, which opens none around it
abbrev pub inside : Shape.Tree → ℕ
inside t = size t - 1

-- how many names are left where those of the declarations are open already
abbrev pub behind : Shape.Tree → ℕ
behind t = size t - new_names t

-- the names of a procedure: its own, its formals, its block
abbrev pub names_procedure : Shape.Tree → Shape.Tree → Open → List Break
names_procedure l r Δ =
    twice (innermost Δ) (Shape.token_of l).place (Shape.token_of l).text
    ++ (names_formals (View.formals (View.part_of l) Tree.no_formal) ([] ∷ added (Shape.token_of l).text Δ)
    ++ names_block (View.block r) (open_formals (View.formals (View.part_of l) Tree.no_formal) ([] ∷ added (Shape.token_of l).text Δ)))

-- after a procedure, whose name is open
pub record Proceeded (e : Subtree) (a b : Names) (s u : Scope) : Type 0 where
  pub grown : Grown a b s u
  pub declares : (source : List ℕ) (l : Shape.Tree) (Δ : Open) → Shown source e l → Declares source a s Δ → Declares source b u (added (Shape.token_of l).text Δ)
  pub next : u.top ≡ s.top + 1
