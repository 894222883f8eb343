-- What each stage finds wrong with a tree, as a list of numbers with their places.
use Rattle.std.specs.Prelude.{ℕ, suc, Bool, true, false, cond, List, [], ◌∷◌, ◌++◌, nat_lt}
use Rattle.tiny.specs.Tree.{Name, TypeTree, Fields, Expression, Formals, Statement, Statements, DeclarationTrees, BlockTree}
use Rattle.tiny.specs.Tree as Tree
use Rattle.meaning.specs.Types.{size, Typed, Formed, Meaning, Scope, same_name, type_of, form_of, meaning_of}
use Rattle.meaning.specs.Types as Types
use Rattle.meaning.specs.Statements.{Acted, Blocked, action_of, block_of, declare, meant, passed, still, seen_by, plain, inside, signature_of, procedure_scope, scope_of}
use Rattle.meaning.specs.Statements as Statements
use Rattle.meaning.specs.Rule.{Block}
use Rattle.meaning.specs.Evaluation.{frame_size}

pub record Break : Type 0 where
  pub number : ℕ
  pub at : ℕ

abbrev pub break : ℕ → ℕ → List Break
break n p = record { number = n; at = p } ∷ []

-- Depth, in the order of the source: a node deeper than 96, a procedure nested deeper than 8. d is the node's depth.

abbrev pub deeper : ℕ → ℕ → ℕ → List Break
deeper most d p = cond (nat_lt most d) (break 7 p) []

abbrev mutual
  pub deep_type : TypeTree → ℕ → List Break
  deep_type (Tree.int_type at) d = deeper 96 d at
  deep_type (Tree.bool_type at) d = deeper 96 d at
  deep_type (Tree.named at x) d = deeper 96 d at
  deep_type (Tree.array at t n) d = deep_type t (suc d) ++ deeper 96 d at
  deep_type (Tree.struct at fs) d = deeper 96 d at ++ deep_fields fs (suc d)

  pub deep_fields : Fields → ℕ → List Break
  deep_fields Tree.no_field d = []
  deep_fields (Tree.field_of t at x fs) d = deep_type t (suc d) ++ (deeper 96 d at ++ deep_fields fs d)

abbrev pub deep : Expression → ℕ → List Break
deep (Tree.number at z) d = deeper 96 d at
deep (Tree.truth at b) d = deeper 96 d at
deep (Tree.name at x) d = deeper 96 d at
deep (Tree.assign at e f) d = deep e (suc d) ++ (deeper 96 d at ++ deep f (suc d))
deep (Tree.binary at o e f) d = deep e (suc d) ++ (deeper 96 d at ++ deep f (suc d))
deep (Tree.unary at o e) d = deeper 96 d at ++ deep e (suc d)
deep (Tree.index at e f) d = deep e (suc d) ++ (deeper 96 d at ++ deep f (suc d))
deep (Tree.select at e x) d = deep e (suc d) ++ deeper 96 d at

abbrev pub deep_all : List Expression → ℕ → List Break
deep_all [] d = []
deep_all (e ∷ es) d = deep e d ++ deep_all es d

abbrev pub deep_formals : Formals → ℕ → List Break
deep_formals Tree.no_formal d = []
deep_formals (Tree.formal t r at x fs) d = deep_type t (suc d) ++ (deeper 96 d at ++ deep_formals fs d)

-- l: how many procedures stand around
abbrev mutual
  pub deep_statement : Statement → ℕ → ℕ → List Break
  deep_statement (Tree.eval at e) d l = deeper 96 d at ++ deep e (suc d)
  deep_statement (Tree.if_then at e b) d l = deeper 96 d at ++ (deep e (suc d) ++ deep_block b (suc d) l)
  deep_statement (Tree.if_else at e b c) d l = deeper 96 d at ++ (deep e (suc d) ++ (deep_block b (suc d) l ++ deep_block c (suc d) l))
  deep_statement (Tree.while at e b) d l = deeper 96 d at ++ (deep e (suc d) ++ deep_block b (suc d) l)
  deep_statement (Tree.read at e) d l = deeper 96 d at ++ deep e (suc d)
  deep_statement (Tree.write at e) d l = deeper 96 d at ++ deep e (suc d)
  deep_statement (Tree.nl at) d l = deeper 96 d at
  deep_statement (Tree.call at here x es) d l = deeper 96 d at ++ (deeper 96 (suc d) here ++ deep_all es (suc d))
  deep_statement (Tree.compound b) d l = deep_block b d l

  pub deep_statements : Statements → ℕ → ℕ → List Break
  deep_statements Tree.no_statement d l = []
  deep_statements (Tree.statement s ss) d l = deep_statement s d l ++ deep_statements ss d l

  pub deep_declarations : DeclarationTrees → ℕ → ℕ → List Break
  deep_declarations Tree.no_declaration d l = []
  deep_declarations (Tree.variable t at x ds) d l = deep_type t (suc d) ++ (deeper 96 d at ++ deep_declarations ds d l)
  deep_declarations (Tree.type_name t at x ds) d l = deep_type t (suc d) ++ (deeper 96 d at ++ deep_declarations ds d l)
  deep_declarations (Tree.procedure at x fs b ds) d l =
      cond (nat_lt 96 d) (break 7 at) (deeper 8 (suc l) at) ++ (deep_formals fs (suc d) ++ (deep_block b (suc d) (suc l) ++ deep_declarations ds d l))

  pub deep_block : BlockTree → ℕ → ℕ → List Break
  deep_block (Tree.block at ds ss) d l = deeper 96 d at ++ (deep_declarations ds (suc d) l ++ deep_statements ss (suc d) l)

-- Names, in the order of the source: one that is not declared, one that its scope has already.

abbrev pub has : List Name → Name → Bool
has [] x = false
has (y ∷ ys) x = cond (same_name x y) true (has ys x)

-- the scopes that are open, the innermost first
abbrev pub Open : Type 0
Open = List (List Name)

abbrev pub known : Open → Name → Bool
known [] x = false
known (s ∷ Δ) x = cond (has s x) true (known Δ x)

abbrev pub innermost : Open → List Name
innermost [] = []
innermost (s ∷ Δ) = s

abbrev pub added : Name → Open → Open
added x [] = (x ∷ []) ∷ []
added x (s ∷ Δ) = (x ∷ s) ∷ Δ

abbrev pub undeclared : Open → ℕ → Name → List Break
undeclared Δ at x = cond (known Δ x) [] (break 8 at)

abbrev pub twice : List Name → ℕ → Name → List Break
twice s at x = cond (has s x) (break 9 at) []

abbrev mutual
  pub names_type : TypeTree → Open → List Break
  names_type (Tree.int_type at) Δ = []
  names_type (Tree.bool_type at) Δ = []
  names_type (Tree.named at x) Δ = undeclared Δ at x
  names_type (Tree.array at t n) Δ = names_type t Δ
  names_type (Tree.struct at fs) Δ = names_fields fs [] Δ

  pub names_fields : Fields → List Name → Open → List Break
  names_fields Tree.no_field s Δ = []
  names_fields (Tree.field_of t at x fs) s Δ = names_type t Δ ++ (twice s at x ++ names_fields fs (x ∷ s) Δ)

abbrev pub names : Expression → Open → List Break
names (Tree.number at z) Δ = []
names (Tree.truth at b) Δ = []
names (Tree.name at x) Δ = undeclared Δ at x
names (Tree.assign at e f) Δ = names e Δ ++ names f Δ
names (Tree.binary at o e f) Δ = names e Δ ++ names f Δ
names (Tree.unary at o e) Δ = names e Δ
names (Tree.index at e f) Δ = names e Δ ++ names f Δ
names (Tree.select at e x) Δ = names e Δ

abbrev pub names_all : List Expression → Open → List Break
names_all [] Δ = []
names_all (e ∷ es) Δ = names e Δ ++ names_all es Δ

abbrev pub names_formals : Formals → Open → List Break
names_formals Tree.no_formal Δ = []
names_formals (Tree.formal t r at x fs) Δ = names_type t Δ ++ (twice (innermost Δ) at x ++ names_formals fs (added x Δ))

abbrev pub open_formals : Formals → Open → Open
open_formals Tree.no_formal Δ = Δ
open_formals (Tree.formal t r at x fs) Δ = open_formals fs (added x Δ)

abbrev pub open_declarations : DeclarationTrees → Open → Open
open_declarations Tree.no_declaration Δ = Δ
open_declarations (Tree.variable t at x ds) Δ = open_declarations ds (added x Δ)
open_declarations (Tree.type_name t at x ds) Δ = open_declarations ds (added x Δ)
open_declarations (Tree.procedure at x fs b ds) Δ = open_declarations ds (added x Δ)

abbrev mutual
  pub names_statement : Statement → Open → List Break
  names_statement (Tree.eval at e) Δ = names e Δ
  names_statement (Tree.if_then at e b) Δ = names e Δ ++ names_block b Δ
  names_statement (Tree.if_else at e b c) Δ = names e Δ ++ (names_block b Δ ++ names_block c Δ)
  names_statement (Tree.while at e b) Δ = names e Δ ++ names_block b Δ
  names_statement (Tree.read at e) Δ = names e Δ
  names_statement (Tree.write at e) Δ = names e Δ
  names_statement (Tree.nl at) Δ = []
  names_statement (Tree.call at here x es) Δ = undeclared Δ here x ++ names_all es Δ
  names_statement (Tree.compound b) Δ = names_block b Δ

  pub names_statements : Statements → Open → List Break
  names_statements Tree.no_statement Δ = []
  names_statements (Tree.statement s ss) Δ = names_statement s Δ ++ names_statements ss Δ

  pub names_declarations : DeclarationTrees → Open → List Break
  names_declarations Tree.no_declaration Δ = []
  names_declarations (Tree.variable t at x ds) Δ = names_type t Δ ++ (twice (innermost Δ) at x ++ names_declarations ds (added x Δ))
  names_declarations (Tree.type_name t at x ds) Δ = names_type t Δ ++ (twice (innermost Δ) at x ++ names_declarations ds (added x Δ))
  names_declarations (Tree.procedure at x fs b ds) Δ =
      twice (innermost Δ) at x ++ (names_formals fs ([] ∷ added x Δ) ++ (names_block b (open_formals fs ([] ∷ added x Δ)) ++ names_declarations ds (added x Δ)))

  pub names_block : BlockTree → Open → List Break
  names_block (Tree.block at ds ss) Δ = names_declarations ds ([] ∷ Δ) ++ names_statements ss (open_declarations ds ([] ∷ Δ))

-- Kinds and types: every node whose own rule fails while its parts and declarations are sound.

abbrev pub own_type : Typed → ℕ → List Break
own_type (Types.Typed.sound t) at = []
own_type (Types.Typed.broken n) at = break n at
own_type Types.Typed.unsound at = []

abbrev pub own_form : Formed → ℕ → List Break
own_form (Types.Formed.sound f t) at = []
own_form (Types.Formed.broken n) at = break n at
own_form Types.Formed.unsound at = []

abbrev pub own_action : Acted → ℕ → List Break
own_action (Statements.Acted.sound a) at = []
own_action (Statements.Acted.broken n) at = break n at
own_action Statements.Acted.unsound at = []

abbrev mutual
  pub kinds_type : TypeTree → Scope → List Break
  kinds_type (Tree.int_type at) Γ = []
  kinds_type (Tree.bool_type at) Γ = []
  kinds_type (Tree.named at x) Γ = own_type (type_of (Tree.named at x) Γ) at
  kinds_type (Tree.array at t n) Γ = kinds_type t Γ ++ own_type (type_of (Tree.array at t n) Γ) at
  kinds_type (Tree.struct at fs) Γ = kinds_fields fs Γ

  pub kinds_fields : Fields → Scope → List Break
  kinds_fields Tree.no_field Γ = []
  kinds_fields (Tree.field_of t at x fs) Γ = kinds_type t Γ ++ kinds_fields fs Γ

abbrev pub kinds : Expression → Scope → List Break
kinds (Tree.number at z) Γ = []
kinds (Tree.truth at b) Γ = []
kinds (Tree.name at x) Γ = own_form (form_of (Tree.name at x) Γ) at
kinds (Tree.assign at e f) Γ = kinds e Γ ++ (own_form (form_of (Tree.assign at e f) Γ) at ++ kinds f Γ)
kinds (Tree.binary at o e f) Γ = kinds e Γ ++ (own_form (form_of (Tree.binary at o e f) Γ) at ++ kinds f Γ)
kinds (Tree.unary at o e) Γ = own_form (form_of (Tree.unary at o e) Γ) at ++ kinds e Γ
kinds (Tree.index at e f) Γ = kinds e Γ ++ (own_form (form_of (Tree.index at e f) Γ) at ++ kinds f Γ)
kinds (Tree.select at e x) Γ = kinds e Γ ++ own_form (form_of (Tree.select at e x) Γ) at

abbrev pub kinds_all : List Expression → Scope → List Break
kinds_all [] Γ = []
kinds_all (e ∷ es) Γ = kinds e Γ ++ kinds_all es Γ

-- the name after call is a node of its own
abbrev pub callee : Meaning → ℕ → List Break
callee (Types.Meaning.variable t) at = break 10 at
callee (Types.Meaning.reference t) at = break 10 at
callee (Types.Meaning.type_name t) at = break 10 at
callee (Types.Meaning.procedure fs ts) at = []
callee Types.Meaning.unsound at = []

abbrev pub kinds_formals : Formals → Name → Meaning → Scope → Scope → List Break
kinds_formals Tree.no_formal f m Δ Γ = []
kinds_formals (Tree.formal t r at x fs) f m Δ Γ =
    let typed : Typed = type_of t (seen_by f m Δ Γ) in
    kinds_type t (seen_by f m Δ Γ) ++ kinds_formals fs f (still m typed) (declare x (meant typed (passed r)) Δ) Γ

abbrev mutual
  pub kinds_statement : Statement → Scope → List Break
  kinds_statement (Tree.eval at e) Γ = kinds e Γ
  kinds_statement (Tree.if_then at e b) Γ = own_action (action_of (Tree.if_then at e b) Γ) at ++ (kinds e Γ ++ kinds_block b Γ)
  kinds_statement (Tree.if_else at e b c) Γ = own_action (action_of (Tree.if_else at e b c) Γ) at ++ (kinds e Γ ++ (kinds_block b Γ ++ kinds_block c Γ))
  kinds_statement (Tree.while at e b) Γ = own_action (action_of (Tree.while at e b) Γ) at ++ (kinds e Γ ++ kinds_block b Γ)
  kinds_statement (Tree.read at e) Γ = own_action (action_of (Tree.read at e) Γ) at ++ kinds e Γ
  kinds_statement (Tree.write at e) Γ = own_action (action_of (Tree.write at e) Γ) at ++ kinds e Γ
  kinds_statement (Tree.nl at) Γ = []
  kinds_statement (Tree.call at here x es) Γ =
      own_action (action_of (Tree.call at here x es) Γ) at ++ (callee (meaning_of x Γ) here ++ kinds_all es Γ)
  kinds_statement (Tree.compound b) Γ = kinds_block b Γ

  pub kinds_statements : Statements → Scope → List Break
  kinds_statements Tree.no_statement Γ = []
  kinds_statements (Tree.statement s ss) Γ = kinds_statement s Γ ++ kinds_statements ss Γ

  pub kinds_declarations : DeclarationTrees → Scope → List Break
  kinds_declarations Tree.no_declaration Γ = []
  kinds_declarations (Tree.variable t at x ds) Γ =
      kinds_type t Γ ++ kinds_declarations ds (declare x (meant (type_of t Γ) Types.Meaning.variable) Γ)
  kinds_declarations (Tree.type_name t at x ds) Γ =
      kinds_type t Γ ++ kinds_declarations ds (declare x (meant (type_of t Γ) Types.Meaning.type_name) Γ)
  kinds_declarations (Tree.procedure at x fs b ds) Γ =
      kinds_formals fs x plain [] Γ
      ++ (kinds_block b (inside x fs Γ) ++ kinds_declarations ds (procedure_scope x fs Γ))

  pub kinds_block : BlockTree → Scope → List Break
  kinds_block (Tree.block at ds ss) Γ = kinds_declarations ds Γ ++ kinds_statements ss (scope_of ds Γ)

-- Sizes, parts before the whole: a type or a frame over 65,536 cells.

abbrev pub larger : ℕ → ℕ → List Break
larger n at = cond (nat_lt 65536 n) (break 14 at) []

abbrev pub large_typed : Typed → ℕ → List Break
large_typed (Types.Typed.sound t) at = larger (size t) at
large_typed (Types.Typed.broken n) at = []
large_typed Types.Typed.unsound at = []

abbrev mutual
  pub large_type : TypeTree → Scope → List Break
  large_type (Tree.int_type at) Γ = []
  large_type (Tree.bool_type at) Γ = []
  large_type (Tree.named at x) Γ = large_typed (type_of (Tree.named at x) Γ) at
  large_type (Tree.array at t n) Γ = large_type t Γ ++ large_typed (type_of (Tree.array at t n) Γ) at
  large_type (Tree.struct at fs) Γ = large_fields fs Γ ++ large_typed (type_of (Tree.struct at fs) Γ) at

  pub large_fields : Fields → Scope → List Break
  large_fields Tree.no_field Γ = []
  large_fields (Tree.field_of t at x fs) Γ = large_type t Γ ++ large_fields fs Γ

abbrev pub large_formals : Formals → Name → Meaning → Scope → Scope → List Break
large_formals Tree.no_formal f m Δ Γ = []
large_formals (Tree.formal t r at x fs) f m Δ Γ =
    let typed : Typed = type_of t (seen_by f m Δ Γ) in
    large_type t (seen_by f m Δ Γ) ++ large_formals fs f (still m typed) (declare x (meant typed (passed r)) Δ) Γ

abbrev pub brace : BlockTree → ℕ
brace (Tree.block at ds ss) = at

abbrev pub large_frame : Meaning → Blocked → ℕ → List Break
large_frame (Types.Meaning.procedure fs ts) (Statements.Blocked.sound b) at = larger (frame_size fs b) at
large_frame (Types.Meaning.procedure fs ts) Statements.Blocked.unsound at = []
large_frame (Types.Meaning.variable t) b at = []
large_frame (Types.Meaning.reference t) b at = []
large_frame (Types.Meaning.type_name t) b at = []
large_frame Types.Meaning.unsound b at = []

abbrev mutual
  pub large_statement : Statement → Scope → List Break
  large_statement (Tree.eval at e) Γ = []
  large_statement (Tree.if_then at e b) Γ = large_block b Γ
  large_statement (Tree.if_else at e b c) Γ = large_block b Γ ++ large_block c Γ
  large_statement (Tree.while at e b) Γ = large_block b Γ
  large_statement (Tree.read at e) Γ = []
  large_statement (Tree.write at e) Γ = []
  large_statement (Tree.nl at) Γ = []
  large_statement (Tree.call at here x es) Γ = []
  large_statement (Tree.compound b) Γ = large_block b Γ

  pub large_statements : Statements → Scope → List Break
  large_statements Tree.no_statement Γ = []
  large_statements (Tree.statement s ss) Γ = large_statement s Γ ++ large_statements ss Γ

  pub large_declarations : DeclarationTrees → Scope → List Break
  large_declarations Tree.no_declaration Γ = []
  large_declarations (Tree.variable t at x ds) Γ =
      large_type t Γ ++ large_declarations ds (declare x (meant (type_of t Γ) Types.Meaning.variable) Γ)
  large_declarations (Tree.type_name t at x ds) Γ =
      large_type t Γ ++ large_declarations ds (declare x (meant (type_of t Γ) Types.Meaning.type_name) Γ)
  large_declarations (Tree.procedure at x fs b ds) Γ =
      large_formals fs x plain [] Γ
      ++ (large_block b (inside x fs Γ)
      ++ (large_frame (signature_of x fs Γ) (block_of b (inside x fs Γ)) (brace b)
      ++ large_declarations ds (procedure_scope x fs Γ)))

  pub large_block : BlockTree → Scope → List Break
  large_block (Tree.block at ds ss) Γ = large_declarations ds Γ ++ large_statements ss (scope_of ds Γ)

abbrev pub large_program : BlockTree → List Break
large_program b = large_block b [] ++ large_frame (Types.Meaning.procedure [] []) (block_of b []) (brace b)

-- What becomes of a tree: the first break of the first stage that has one, any break of the kinds and types, or a rule.
pub data Judged : Type 0 where
  refused : Break → Judged
  one_of : List Break → Judged
  accepted : Block → Judged

abbrev pub first : List Break → Judged → Judged
first [] j = j
first (b ∷ bs) j = refused b

abbrev pub any : List Break → Judged → Judged
any [] j = j
any (b ∷ bs) j = one_of (b ∷ bs)

abbrev pub made : Blocked → Judged
made (Statements.Blocked.sound b) = accepted b
made Statements.Blocked.unsound = one_of []

abbrev pub judged : BlockTree → Judged
judged b =
    let sizes : Judged = first (large_program b) (made (block_of b [])) in
    let kinds : Judged = any (kinds_block b []) sizes in
    let names : Judged = first (names_block b []) kinds in
    first (deep_block b 1 0) names
