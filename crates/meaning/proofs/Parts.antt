-- From what holds of the parts of a tree, where they are sound, to what holds of the whole.
use Rattle.meaning.specs.Rule.{Place, Block}
use Rattle.meaning.specs.Types.{Ty, Form, place, value, copies, Formed, when_form, on_place}
use Rattle.meaning.specs.Types as Types
use Rattle.meaning.specs.Statements.{Acted, Blocked, when_expression, when_block}
use Rattle.meaning.specs.Statements as Statements

-- P holds of a sound part
abbrev pub IfFormed : (Form → Ty → Type 0) → Formed → Type 0
IfFormed P (Types.Formed.sound f t) = P f t
IfFormed P (Types.Formed.broken n) = Unit {0}
IfFormed P Types.Formed.unsound = Unit {0}

abbrev pub IfBlocked : (Block → Type 0) → Blocked → Type 0
IfBlocked P (Statements.Blocked.sound b) = P b
IfBlocked P Statements.Blocked.unsound = Unit {0}

module _ (P : Form → Ty → Type 0) where
  pub after_form : (Q : Formed → Type 0) (x : Formed) (k : Form → Ty → Formed) → Q Types.Formed.unsound → IfFormed P x → ((f : Form) (t : Ty) → P f t → Q (k f t)) → Q (when_form x k)
  after_form Q (Types.Formed.sound f t) k u h g = g f t h
  after_form Q (Types.Formed.broken n) k u h g = u
  after_form Q Types.Formed.unsound k u h g = u

  pub after_expression : (Q : Acted → Type 0) (x : Formed) (k : Form → Ty → Acted) → Q Statements.Acted.unsound → IfFormed P x → ((f : Form) (t : Ty) → P f t → Q (k f t)) → Q (when_expression x k)
  after_expression Q (Types.Formed.sound f t) k u h g = g f t h
  after_expression Q (Types.Formed.broken n) k u h g = u
  after_expression Q Types.Formed.unsound k u h g = u

pub after_block : (P : Block → Type 0) (Q : Acted → Type 0) (x : Blocked) (k : Block → Acted) → Q Statements.Acted.unsound → IfBlocked P x → ((b : Block) → P b → Q (k b)) → Q (when_block x k)
after_block P Q (Statements.Blocked.sound b) k u h g = g b h
after_block P Q Statements.Blocked.unsound k u h g = u

-- a designator is needed
pub at_place : (P : Form → Type 0) (Q : Formed → Type 0) (f : Form) (k : Place → Formed) → Q (Types.Formed.broken 12) → P f → ((p : Place) → P (place p) → Q (k p)) → Q (on_place f k)
at_place P Q (place p) k u h g = g p h
at_place P Q (value v) k u h g = u
at_place P Q (copies p q n) k u h g = u
