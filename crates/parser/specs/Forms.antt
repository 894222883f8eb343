-- The grammar's names of lists, brackets and tails of expressions and types.
use Rattle.std.specs.Prelude.{Bool, true, false, cond, List, [], ◌∷◌}
use Rattle.tiny.specs.declared.tokens.Kind.{Kind}
use Rattle.tiny.specs.declared.tokens.Kind.TheVariants.{Becomes, Plus, Minus, And, Or, Index, Dot, Name, IndexEnd, Literal}
use Rattle.tiny.specs.Token.{is, relations, factors}
use Rattle.syntax.specs.Grammar as Grammar
use Rattle.syntax.specs.Grammar.Sort.{e0, e2, e3, e4, e5}
use Rattle.syntax.specs.Parse as Parse
use Rattle.syntax.specs.Parse.{Symbol, expect, pushed, dropped}
use Rattle.syntax.specs.Parse.Symbol.{token}
use Rattle.parser.specs.declared.forms.Listed.{Listed}
use Rattle.parser.specs.declared.forms.Listed.TheVariants.{Declarations, Statements, Formals, Fields, Arguments}
use Rattle.parser.specs.declared.forms.Bracket.{Bracket}
use Rattle.parser.specs.declared.forms.Bracket.TheVariants.{Braces, FormalParens, ActualParens}
use Rattle.parser.specs.declared.forms.Tail.{Tail}
use Rattle.parser.specs.declared.forms.Tail.TheVariants.{Assignment, Relation, Sum, Difference, Logic, Product, Postfix, Lengths}

abbrev pub listed : Listed → Grammar.Listed
listed Declarations = Grammar.Listed.declarations
listed Statements = Grammar.Listed.statements
listed Formals = Grammar.Listed.formals
listed Fields = Grammar.Listed.fields
listed Arguments = Grammar.Listed.arguments

abbrev pub bracket : Bracket → Grammar.Bracket
bracket Braces = Grammar.Bracket.braces
bracket FormalParens = Grammar.Bracket.formal_parens
bracket ActualParens = Grammar.Bracket.actual_parens

abbrev pub tail : Tail → Parse.Tail
tail Assignment = Parse.Tail.assign?
tail Relation = Parse.Tail.relation?
tail Sum = Parse.Tail.plus?
tail Difference = Parse.Tail.minus?
tail Logic = Parse.Tail.logic?
tail Product = Parse.Tail.factor?
tail Postfix = Parse.Tail.postfix?
tail Lengths = Parse.Tail.array?

abbrev pub operators : Tail → List Kind
operators Assignment = Becomes ∷ []
operators Relation = relations
operators Sum = Plus ∷ []
operators Difference = Minus ∷ []
operators Logic = And ∷ Or ∷ []
operators Product = factors
operators Postfix = Index ∷ Dot ∷ []
operators Lengths = Index ∷ []

-- whether more of the operators may follow
abbrev pub repeats : Tail → Bool
repeats Assignment = false
repeats Relation = true
repeats Sum = true
repeats Difference = false
repeats Logic = false
repeats Product = true
repeats Postfix = true
repeats Lengths = true

-- what stands behind a postfix operator: a name behind `.`, an expression and `]` behind `[`
abbrev pub selecting : Kind → List Symbol
selecting k = cond (is k Dot) (token Name pushed ∷ []) (expect e0 ∷ token IndexEnd dropped ∷ [])

-- what stands on the right of an operator
abbrev pub operand : Tail → Kind → List Symbol
operand Assignment k = expect e0 ∷ []
operand Relation k = expect e2 ∷ []
operand Sum k = expect e3 ∷ []
operand Difference k = expect e3 ∷ []
operand Logic k = cond (is k And) (expect e3 ∷ []) (expect e4 ∷ [])
operand Product k = expect e5 ∷ []
operand Postfix k = selecting k
operand Lengths k = token Literal pushed ∷ token IndexEnd dropped ∷ []
