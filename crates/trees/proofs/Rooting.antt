-- A source that is parsed has a tree in the table.
use Rattle.std.proofs.Common.{◌≡◌, ℕ, Bool, true, false, List, [], ◌∷◌, None, Ok, sym, refl, subst, arith}
use Rattle.tiny.specs.Scan.{Scanned}
use Rattle.tiny.specs.Scan.Scanned.{tokens, refused}
use Rattle.syntax.specs.Parse.{Outcome}
use Rattle.syntax.specs.Parse.Outcome.{accept, refuse}
use Rattle.tables.specs.declared.table.Table.{Table}
use Rattle.nodes.specs.declared.node.Node.{Node}
use Rattle.tables.specs.Items.{items}
use Rattle.nodes.specs.Shows.{Shows}
use Rattle.syntax.specs.Shape.{Tree}
use Rattle.parser.specs.Parsing.{Answered, Fitting, Parsed}
use Rattle.nodes.specs.Rooted.{Rooted}
use Rattle.meaning.specs.Stages.{Break}
use Rattle.checks.specs.Breaks.{first_break}

answered : (source : List ℕ) (o : Outcome) (n : Table Node) (i : ℕ) (n' : Table Node) → Answered source o n (Ok i) n' → Rooted (items n') i
answered source (accept t) n i n' (j, more, e, s, g) =
    let i≡ : i ≡ j = cc in record { source = source; tree = t; shown = subst (λ (k : ℕ). Shows source (items n') k t) (sym i≡) s }
answered source (refuse rest) n i n' e = absurd (let z : ◌≡◌ {A = ℕ} 0 1 = cc in omega arith)

fitted : (b : Bool) (source : List ℕ) (o : Outcome) (n : Table Node) (i : ℕ) (n' : Table Node) → Fitting b source o n (Ok i) n' → Rooted (items n') i
fitted true source o n i n' (e, s) = absurd (let z : ◌≡◌ {A = ℕ} 0 1 = cc in omega arith)
fitted false source o n i n' (a, s) = answered source o n i n' a

pub rooted : (source : List ℕ) (s : Scanned) (n : Table Node) (i : ℕ) (n' : Table Node) → Parsed source s n (Ok i) n' → Rooted (items n') i
rooted source (refused c p) n i n' (e, s) = absurd (let z : ◌≡◌ {A = ℕ} 0 1 = cc in omega arith)
rooted source (tokens ts) n i n' f = fitted _ source _ n i n' f

-- a record of the same table shows the same
pub shown_there : {source : List ℕ} {ms ns : List Node} {i k : ℕ} {t : Tree} → ms ≡ ns → k ≡ i → Shows source ns i t → Shows source ms k t
shown_there e k s = rw (e, k) s

-- a list without a first break is empty
pub no_break : (bs : List Break) → None ≡ first_break bs → bs ≡ []
no_break [] e = refl
no_break (b ∷ bs) e = absurd (let z : ◌≡◌ {A = ℕ} 0 1 = cc in omega arith)
