-- The breaks of depth of each shape of tree, in the order in which the pass comes to them.
use Rattle.std.proofs.Common.{◌≡◌, ℕ, suc, ◌+◌, Bool, true, false, cond, ltb, List, [], ◌∷◌, ◌++◌, ◌⊎◌, sym, refl, ap, ◌∙◌, append_assoc, append-nil, add-one, arith}
use Rattle.tiny.specs.declared.tokens.Kind.TheVariants.{Name, TypeWord, ProcWord, IfWord, WhileWord, ReadWord, WriteWord, Open, Semicolon, Becomes, Index, Dot, Comma, DoubleAmpersand, At}
use Rattle.tiny.specs.Token.{Token, is, code}
use Rattle.tiny.specs.Tree.{TypeTree, Fields, Expression, Formals, Statement, Statements, DeclarationTrees}
use Rattle.syntax.specs.Shape.{Tree, token_of}
use Rattle.syntax.specs.Shape.Tree.{leaf, under, join}
use Rattle.syntax.specs.View.{expression, type_tree, fields, formals, by_reference, part_of, expressions, arguments, declarations, statements, branches, block}
use Rattle.meaning.specs.Stages.{Break, break, deeper, deep, deep_type, deep_fields, deep_formals, deep_all, deep_statement, deep_statements, deep_declarations, deep_block}
use Rattle.checks.specs.Depth.{deep_branches}
use Rattle.tiny.specs.declared.tokens.Lexeme.{Lexeme}
use Rattle.tiny.specs.declared.placed.Placed.{Placed}
use Rattle.nodes.specs.declared.subtree.Subtree.{Subtree}
use Rattle.nodes.specs.declared.subtree.Shape.{Shape}
use Rattle.nodes.specs.declared.subtree.Shape.TheVariants.{Join}
use Rattle.nodes.specs.Subtrees.{Shaped}
use Rattle.nodes.proofs.KindTests.{is_kind, is_other}
use Rattle.nodes.proofs.Shapes.{unjoined}
use Rattle.checks.proofs.Choices.{along, same, behind, three, apart, no_mark, one_word}
use Rattle.checks.proofs.Steps.{Made, made, taken, left}
use Rattle.checks.proofs.Steps.Plan.{done, last, next, pick}

-- Expressions

deep_cond : (b : Bool) (x y : Expression) (d : ℕ) → deep (cond b x y) d ≡ cond b (deep x d) (deep y d)
deep_cond b x y d = along (λ e. deep e d) b x y

pub deep_under : {u : Tree} (t : Token) (e : Tree) (d : ℕ) → u ≡ under t e →
    Made (deep (expression u) d) (next (deeper 96 d t.place) (last (deep (expression e) (d + 1))))
deep_under t e d w = made (ap (λ x. deep (expression x) d) w ∙ simp add-one)

join_ways : (b c d : Bool) (A B C : List Break) → (b ≡ true → d ≡ false) → (c ≡ true → d ≡ false) →
    cond b (A ++ (B ++ C)) (cond c (A ++ (B ++ C)) (cond d (A ++ B) (A ++ (B ++ C)))) ≡ A ++ (B ++ cond d [] C)
join_ways true c true A B C h k = absurd (let n = h refl in let z : ◌≡◌ {A = ℕ} 0 1 = cc in omega arith)
join_ways true c false A B C h k = refl
join_ways false true true A B C h k = absurd (let n = k refl in let z : ◌≡◌ {A = ℕ} 0 1 = cc in omega arith)
join_ways false true false A B C h k = refl
join_ways false false true A B C h k = simp append-nil
join_ways false false false A B C h k = refl

pub deep_join : {u : Tree} (t : Token) (l r : Tree) (d : ℕ) → u ≡ join t l r →
    Made (deep (expression u) d)
    (next (deep (expression l) (d + 1)) (next (deeper 96 d t.place) (pick (is t.kind Dot) done (last (deep (expression r) (d + 1))))))
deep_join t l r d w =
    made (ap (λ x. deep (expression x) d) w
    ∙ simp (add-one, deep_cond) (join_ways (is t.kind Becomes) (is t.kind Index) (is t.kind Dot) (deep (expression l) (suc d)) (deeper 96 d t.place) (deep (expression r) (suc d)) (apart (code t.kind) 38 41 refl) (apart (code t.kind) 39 41 refl)))

-- Types and fields

deep_type_cond : (b : Bool) (x y : TypeTree) (d : ℕ) → deep_type (cond b x y) d ≡ cond b (deep_type x d) (deep_type y d)
deep_type_cond b x y d = along (λ e. deep_type e d) b x y

pub type_leaf : {u : Tree} (t : Token) (d : ℕ) → u ≡ leaf t → Made (deep_type (type_tree u) d) (last (deeper 96 d t.place))
type_leaf t d w = made (ap (λ x. deep_type (type_tree x) d) w ∙ simp (deep_type_cond, same))

pub type_under : {u : Tree} (t : Token) (e : Tree) (d : ℕ) → u ≡ under t e →
    Made (deep_type (type_tree u) d) (next (deeper 96 d t.place) (last (deep_fields (fields e Fields.no_field) (d + 1))))
type_under t e d w = made (ap (λ x. deep_type (type_tree x) d) w ∙ simp add-one)

pub type_join : {u : Tree} (t : Token) (e n : Tree) (d : ℕ) → u ≡ join t e n →
    Made (deep_type (type_tree u) d) (next (deep_type (type_tree e) (d + 1)) (last (deeper 96 d t.place)))
type_join t e n d w = made (ap (λ x. deep_type (type_tree x) d) w ∙ simp add-one)

spread_fields : (t : Tree) (more : Fields) (d : ℕ) → deep_fields (fields t more) d ≡ deep_fields (fields t Fields.no_field) d ++ deep_fields more d
spread_fields (leaf t) more d = refl
spread_fields (under t e) more d = simp (append_assoc, append-nil)
spread_fields (join t f r) more d =
    spread_fields f (fields r more) d
    ∙ ap (λ x. deep_fields (fields f Fields.no_field) d ++ x) (spread_fields r more d)
    ∙ sym (append_assoc (deep_fields (fields f Fields.no_field) d) (deep_fields (fields r Fields.no_field) d) (deep_fields more d))
    ∙ ap (λ x. x ++ deep_fields more d) (sym (spread_fields f (fields r Fields.no_field) d))

pub fields_leaf : {u : Tree} (t : Token) (d : ℕ) → u ≡ leaf t → Made (deep_fields (fields u Fields.no_field) d) done
fields_leaf t d w = made (ap (λ x. deep_fields (fields x Fields.no_field) d) w)

pub fields_under : {u : Tree} (t : Token) (e : Tree) (d : ℕ) → u ≡ under t e →
    Made (deep_fields (fields u Fields.no_field) d) (next (deep_type (type_tree e) (d + 1)) (last (deeper 96 d t.place)))
fields_under t e d w = made (ap (λ x. deep_fields (fields x Fields.no_field) d) w ∙ simp (add-one, append-nil))

pub fields_join : {u : Tree} (t : Token) (f r : Tree) (d : ℕ) → u ≡ join t f r →
    Made (deep_fields (fields u Fields.no_field) d) (next (deep_fields (fields f Fields.no_field) d) (last (deep_fields (fields r Fields.no_field) d)))
fields_join t f r d w = made (ap (λ x. deep_fields (fields x Fields.no_field) d) w ∙ spread_fields f (fields r Fields.no_field) d)

-- Formals

deep_formals_cond : (b : Bool) (x y : Formals) (d : ℕ) → deep_formals (cond b x y) d ≡ cond b (deep_formals x d) (deep_formals y d)
deep_formals_cond b x y d = along (λ e. deep_formals e d) b x y

spread_formals : (t : Tree) (more : Formals) (d : ℕ) → deep_formals (formals t more) d ≡ deep_formals (formals t Formals.no_formal) d ++ deep_formals more d
spread_formals (leaf t) more d = refl
spread_formals (under t e) more d = simp (deep_formals_cond, behind, append_assoc, append-nil, spread_formals e more d)
spread_formals (join t f r) more d =
    spread_formals f (formals r more) d
    ∙ ap (λ x. deep_formals (formals f Formals.no_formal) d ++ x) (spread_formals r more d)
    ∙ sym (append_assoc (deep_formals (formals f Formals.no_formal) d) (deep_formals (formals r Formals.no_formal) d) (deep_formals more d))
    ∙ ap (λ x. x ++ deep_formals more d) (sym (spread_formals f (formals r Formals.no_formal) d))

pub formals_leaf : {u : Tree} (t : Token) (d : ℕ) → u ≡ leaf t → Made (deep_formals (formals u Formals.no_formal) d) done
formals_leaf t d w = made (ap (λ x. deep_formals (formals x Formals.no_formal) d) w)

pub formals_under : {u : Tree} (t : Token) (e : Tree) (d : ℕ) → u ≡ under t e →
    Made (deep_formals (formals u Formals.no_formal) d)
    (pick (is t.kind Open) (last (deep_formals (formals e Formals.no_formal) d))
    (next (deep_type (type_tree (cond (by_reference e) (part_of e) e)) (d + 1)) (last (deeper 96 d t.place))))
formals_under t e d w = made (ap (λ x. deep_formals (formals x Formals.no_formal) d) w ∙ simp (deep_formals_cond, add-one, append-nil))

pub formals_join : {u : Tree} (t : Token) (f r : Tree) (d : ℕ) → u ≡ join t f r →
    Made (deep_formals (formals u Formals.no_formal) d) (next (deep_formals (formals f Formals.no_formal) d) (last (deep_formals (formals r Formals.no_formal) d)))
formals_join t f r d w = made (ap (λ x. deep_formals (formals x Formals.no_formal) d) w ∙ spread_formals f (formals r Formals.no_formal) d)

-- Arguments

pub all_leaf : {u : Tree} (t : Token) (d : ℕ) → u ≡ leaf t → Made (deep_all (expressions u) d) (last (deep (expression u) d))
all_leaf t d w = made (ap (λ x. deep_all (expressions x) d) w ∙ append-nil (deep (expression (leaf t)) d) ∙ ap (λ x. deep (expression x) d) (sym w))

pub all_under : {u : Tree} (t : Token) (e : Tree) (d : ℕ) → u ≡ under t e → Made (deep_all (expressions u) d) (last (deep (expression u) d))
all_under t e d w = made (ap (λ x. deep_all (expressions x) d) w ∙ append-nil (deep (expression (under t e)) d) ∙ ap (λ x. deep (expression x) d) (sym w))

pub all_join : {u : Tree} (t : Token) (l r : Tree) (d : ℕ) → u ≡ join t l r →
    Made (deep_all (expressions u) d)
    (pick (is t.kind Comma) (next (deep (expression l) d) (last (deep_all (expressions r) d))) (last (deep (expression u) d)))
all_join t l r d w =
    made (ap (λ x. deep_all (expressions x) d) w
    ∙ along (λ es. deep_all es d) (is t.kind Comma) (expression l ∷ expressions r) (expression (join t l r) ∷ [])
    ∙ ap (λ x. cond (is t.kind Comma) (deep (expression l) d ++ deep_all (expressions r) d) x)
    (append-nil (deep (expression (join t l r)) d) ∙ ap (λ x. deep (expression x) d) (sym w)))

-- what is not two arguments
pub all_rest : (source : List ℕ) (x : Shape) (u : Tree) (d : ℕ) → ((k : Placed Lexeme) (a b : Subtree) → x ≡ Join k a b → ⊥) → Shaped source x u →
    Made (deep_all (expressions u) d) (last (deep (expression u) d))
all_rest source x u d n h =
    unjoined source x u h (λ v. Made (deep_all (expressions v) d) (last (deep (expression v) d))) n (λ t. all_leaf t d refl) (λ t e. all_under t e d refl)

pub arguments_leaf : {u : Tree} (t : Token) (d : ℕ) → u ≡ leaf t → Made (deep_all (arguments u) d) done
arguments_leaf t d w = made (ap (λ x. deep_all (arguments x) d) w)

pub arguments_under : {u : Tree} (t : Token) (e : Tree) (d : ℕ) → u ≡ under t e → Made (deep_all (arguments u) d) (last (deep_all (expressions e) d))
arguments_under t e d w = made (ap (λ x. deep_all (arguments x) d) w)

pub arguments_join : {u : Tree} (t : Token) (l r : Tree) (d : ℕ) → u ≡ join t l r → Made (deep_all (arguments u) d) done
arguments_join t l r d w = made (ap (λ x. deep_all (arguments x) d) w)

-- Declarations, instructions and blocks

deep_declarations_cond : (b : Bool) (x y : DeclarationTrees) (d l : ℕ) → deep_declarations (cond b x y) d l ≡ cond b (deep_declarations x d l) (deep_declarations y d l)
deep_declarations_cond b x y d l = along (λ e. deep_declarations e d l) b x y

spread_declarations : (t : Tree) (more : DeclarationTrees) (d l : ℕ) →
    deep_declarations (declarations t more) d l ≡ deep_declarations (declarations t DeclarationTrees.no_declaration) d l ++ deep_declarations more d l
spread_declarations (leaf t) more d l = refl
spread_declarations (under t e) more d l =
    simp (deep_declarations_cond, behind, append_assoc, append-nil, spread_declarations e more d l)
spread_declarations (join t a b) more d l =
    let first = spread_declarations a in
    let second = spread_declarations b in
    simp (deep_declarations_cond, behind, append_assoc, append-nil, first more d l, first (declarations b more) d l, second more d l, first (declarations b DeclarationTrees.no_declaration) d l)

pub declarations_leaf : {u : Tree} (t : Token) (d l : ℕ) → u ≡ leaf t → Made (deep_declarations (declarations u DeclarationTrees.no_declaration) d l) done
declarations_leaf t d l w = made (ap (λ x. deep_declarations (declarations x DeclarationTrees.no_declaration) d l) w)

pub declarations_under : {u : Tree} (t : Token) (e : Tree) (d l : ℕ) → u ≡ under t e →
    Made (deep_declarations (declarations u DeclarationTrees.no_declaration) d l)
    (pick (is t.kind DoubleAmpersand) (last (deep_declarations (declarations e DeclarationTrees.no_declaration) d l))
    (pick (is t.kind TypeWord) (next (deep_type (type_tree (part_of e)) (d + 1)) (last (deeper 96 d (token_of e).place)))
    (pick (is t.kind Name) (next (deep_type (type_tree e) (d + 1)) (last (deeper 96 d t.place))) done)))
declarations_under t e d l w =
    made (ap (λ x. deep_declarations (declarations x DeclarationTrees.no_declaration) d l) w ∙ simp (deep_declarations_cond, add-one, append-nil))

pub declarations_join : {u : Tree} (t : Token) (a b : Tree) (d l : ℕ) → u ≡ join t a b →
    Made (deep_declarations (declarations u DeclarationTrees.no_declaration) d l)
    (pick (is t.kind DoubleAmpersand) (last (deep_declarations (declarations a DeclarationTrees.no_declaration) d l))
    (pick (is t.kind Semicolon)
    (next (deep_declarations (declarations a DeclarationTrees.no_declaration) d l) (last (deep_declarations (declarations b DeclarationTrees.no_declaration) d l)))
    (pick (is t.kind ProcWord)
    (next (cond (ltb 96 d) (break 7 (token_of a).place) (deeper 8 (l + 1) (token_of a).place))
    (next (deep_formals (formals (part_of a) Formals.no_formal) (d + 1)) (last (deep_block (block b) (d + 1) (l + 1))))) done)))
declarations_join t a b d l w =
    made (ap (λ x. deep_declarations (declarations x DeclarationTrees.no_declaration) d l) w
    ∙ simp (deep_declarations_cond, add-one, append-nil, spread_declarations a (declarations b DeclarationTrees.no_declaration) d l))

module _ {u : Tree} (t : Token) (e : Tree) (d l : ℕ) (w : u ≡ under t e) where
  pub declarations_type : t.kind ≡ TypeWord →
      Made (deep_declarations (declarations u DeclarationTrees.no_declaration) d l)
      (next (deep_type (type_tree (part_of e)) (d + 1)) (last (deeper 96 d (token_of e).place)))
  declarations_type k = taken (left (declarations_under t e d l w) (ap (λ k. is k DoubleAmpersand) k)) (is_kind k)

  pub declarations_variable : t.kind ≡ Name →
      Made (deep_declarations (declarations u DeclarationTrees.no_declaration) d l) (next (deep_type (type_tree e) (d + 1)) (last (deeper 96 d t.place)))
  declarations_variable k =
      taken (left (left (declarations_under t e d l w) (ap (λ k. is k DoubleAmpersand) k)) (ap (λ k. is k TypeWord) k)) (is_kind k)

module _ {u : Tree} (t : Token) (a b : Tree) (d l : ℕ) (w : u ≡ join t a b) where
  pub declarations_two : t.kind ≡ Semicolon →
      Made (deep_declarations (declarations u DeclarationTrees.no_declaration) d l)
      (next (deep_declarations (declarations a DeclarationTrees.no_declaration) d l) (last (deep_declarations (declarations b DeclarationTrees.no_declaration) d l)))
  declarations_two k = taken (left (declarations_join t a b d l w) (ap (λ k. is k DoubleAmpersand) k)) (is_kind k)

  pub declarations_procedure : t.kind ≡ ProcWord →
      Made (deep_declarations (declarations u DeclarationTrees.no_declaration) d l)
      (next (cond (ltb 96 d) (break 7 (token_of a).place) (deeper 8 (l + 1) (token_of a).place))
      (next (deep_formals (formals (part_of a) Formals.no_formal) (d + 1)) (last (deep_block (block b) (d + 1) (l + 1)))))
  declarations_procedure k =
      taken (left (left (declarations_join t a b d l w) (ap (λ k. is k DoubleAmpersand) k)) (ap (λ k. is k Semicolon) k)) (is_kind k)

deep_statement_cond : (b : Bool) (x y : Statement) (d l : ℕ) → deep_statement (cond b x y) d l ≡ cond b (deep_statement x d l) (deep_statement y d l)
deep_statement_cond b x y d l = along (λ e. deep_statement e d l) b x y

deep_statements_cond : (b : Bool) (x y : Statements) (d l : ℕ) → deep_statements (cond b x y) d l ≡ cond b (deep_statements x d l) (deep_statements y d l)
deep_statements_cond b x y d l = along (λ e. deep_statements e d l) b x y

spread_statements : (t : Tree) (more : Statements) (d l : ℕ) →
    deep_statements (statements t more) d l ≡ deep_statements (statements t Statements.no_statement) d l ++ deep_statements more d l
spread_statements (leaf t) more d l = simp append-nil
spread_statements (under t e) more d l = simp (deep_statements_cond, behind, append-nil)
spread_statements (join t a b) more d l =
    let first = spread_statements a in
    let second = spread_statements b in
    simp (deep_statements_cond, behind, append_assoc, append-nil, first (statements b more) d l, second more d l, first (statements b Statements.no_statement) d l)

pub statements_leaf : {u : Tree} (t : Token) (d l : ℕ) → u ≡ leaf t →
    Made (deep_statements (statements u Statements.no_statement) d l) (last (deeper 96 d t.place))
statements_leaf t d l w =
    made (ap (λ x. deep_statements (statements x Statements.no_statement) d l) w ∙ simp (deep_statement_cond, same, append-nil))

block_here : {u v : Tree} (d l : ℕ) → u ≡ v → deep_block (block v) d l ≡ deep_block (block u) d l
block_here d l w = ap (λ x. deep_block (block x) d l) (sym w)

under_is : (t : Token) (e : Tree) (d l : ℕ) →
    deep_statements (statements (under t e) Statements.no_statement) d l ≡
    cond (is t.kind DoubleAmpersand) [] (cond (cond (is t.kind At) true (cond (is t.kind ReadWord) true (is t.kind WriteWord)))
    (deeper 96 d t.place ++ deep (expression e) (d + 1)) (deep_block (block (under t e)) d l))
under_is t e d l = simp (deep_statements_cond, deep_statement_cond, append-nil, add-one, three)

pub statements_under : {u : Tree} (t : Token) (e : Tree) (d l : ℕ) → u ≡ under t e →
    Made (deep_statements (statements u Statements.no_statement) d l)
    (pick (is t.kind DoubleAmpersand) done
    (pick (cond (is t.kind At) true (cond (is t.kind ReadWord) true (is t.kind WriteWord)))
    (next (deeper 96 d t.place) (last (deep (expression e) (d + 1)))) (last (deep_block (block u) d l))))
statements_under t e d l w =
    made (ap (λ x. deep_statements (statements x Statements.no_statement) d l) w
    ∙ under_is t e d l
    ∙ ap (λ x. cond (is t.kind DoubleAmpersand) [] (cond (cond (is t.kind At) true (cond (is t.kind ReadWord) true (is t.kind WriteWord))) (deeper 96 d t.place ++ deep (expression e) (d + 1)) x)) (block_here d l w))

if_is : (r : Tree) (p : ℕ) (e : Expression) (d l : ℕ) → deep_statement (branches r p e) d l ≡ deeper 96 d p ++ (deep e (suc d) ++ deep_branches r (suc d) l)
if_is (leaf t) p e d l = refl
if_is (under t c) p e d l = refl
if_is (join t a b) p e d l = refl

pub statements_join : {u : Tree} (t : Token) (a b : Tree) (d l : ℕ) → u ≡ join t a b →
    Made (deep_statements (statements u Statements.no_statement) d l)
    (pick (is t.kind DoubleAmpersand) (last (deep_statements (statements b Statements.no_statement) d l))
    (pick (is t.kind Semicolon)
    (next (deep_statements (statements a Statements.no_statement) d l) (last (deep_statements (statements b Statements.no_statement) d l)))
    (pick (is t.kind IfWord) (next (deeper 96 d t.place) (next (deep (expression a) (d + 1)) (last (deep_branches b (d + 1) l))))
    (pick (is t.kind WhileWord) (next (deeper 96 d t.place) (next (deep (expression a) (d + 1)) (last (deep_block (block b) (d + 1) l))))
    (next (deeper 96 d t.place) (next (deeper 96 (d + 1) (token_of a).place) (last (deep_all (arguments b) (d + 1)))))))))
statements_join t a b d l w =
    made (ap (λ x. deep_statements (statements x Statements.no_statement) d l) w
    ∙ simp (deep_statements_cond, deep_statement_cond, append-nil, add-one, spread_statements a (statements b Statements.no_statement) d l, if_is b t.place (expression a) d l))

module _ {u : Tree} (t : Token) (a b : Tree) (d l : ℕ) (w : u ≡ join t a b) where
  pub statements_two : t.kind ≡ Semicolon →
      Made (deep_statements (statements u Statements.no_statement) d l)
      (next (deep_statements (statements a Statements.no_statement) d l) (last (deep_statements (statements b Statements.no_statement) d l)))
  statements_two k = taken (left (statements_join t a b d l w) (ap (λ k. is k DoubleAmpersand) k)) (is_kind k)

  pub statements_if : t.kind ≡ IfWord →
      Made (deep_statements (statements u Statements.no_statement) d l)
      (next (deeper 96 d t.place) (next (deep (expression a) (d + 1)) (last (deep_branches b (d + 1) l))))
  statements_if k = taken (left (left (statements_join t a b d l w) (ap (λ k. is k DoubleAmpersand) k)) (ap (λ k. is k Semicolon) k)) (is_kind k)

  pub statements_while : t.kind ≡ WhileWord →
      Made (deep_statements (statements u Statements.no_statement) d l)
      (next (deeper 96 d t.place) (next (deep (expression a) (d + 1)) (last (deep_block (block b) (d + 1) l))))
  statements_while k =
      taken (left (left (left (statements_join t a b d l w) (ap (λ k. is k DoubleAmpersand) k)) (ap (λ k. is k Semicolon) k)) (ap (λ k. is k IfWord) k)) (is_kind k)

  pub statements_call : (t.kind ≡ DoubleAmpersand → ⊥) → (t.kind ≡ Semicolon → ⊥) → (t.kind ≡ IfWord → ⊥) → (t.kind ≡ WhileWord → ⊥) →
      Made (deep_statements (statements u Statements.no_statement) d l)
      (next (deeper 96 d t.place) (next (deeper 96 (d + 1) (token_of a).place) (last (deep_all (arguments b) (d + 1)))))
  statements_call f g h i = left (left (left (left (statements_join t a b d l w) (is_other f)) (is_other g)) (is_other h)) (is_other i)

module _ {u : Tree} (t : Token) (e : Tree) (d l : ℕ) (w : u ≡ under t e) where
  pub statements_word : (t.kind ≡ At) ⊎ ((t.kind ≡ ReadWord) ⊎ (t.kind ≡ WriteWord)) →
      Made (deep_statements (statements u Statements.no_statement) d l) (next (deeper 96 d t.place) (last (deep (expression e) (d + 1))))
  statements_word k = taken (left (statements_under t e d l w) (no_mark k)) (one_word k)

  pub statements_block : (t.kind ≡ DoubleAmpersand → ⊥) → (t.kind ≡ At → ⊥) → (t.kind ≡ ReadWord → ⊥) → (t.kind ≡ WriteWord → ⊥) →
      Made (deep_statements (statements u Statements.no_statement) d l) (last (deep_block (block u) d l))
  statements_block f g h i = left (left (statements_under t e d l w) (is_other f)) (rw (is_other g, is_other h, is_other i))

pub branches_leaf : {u : Tree} (t : Token) (d l : ℕ) → u ≡ leaf t → Made (deep_branches u d l) (last (deep_block (block u) d l))
branches_leaf t d l w = made (ap (λ x. deep_branches x d l) w ∙ block_here d l w)

pub branches_under : {u : Tree} (t : Token) (e : Tree) (d l : ℕ) → u ≡ under t e → Made (deep_branches u d l) (last (deep_block (block u) d l))
branches_under t e d l w = made (ap (λ x. deep_branches x d l) w ∙ block_here d l w)

pub branches_join : {u : Tree} (t : Token) (a b : Tree) (d l : ℕ) → u ≡ join t a b →
    Made (deep_branches u d l) (next (deep_block (block a) d l) (last (deep_block (block b) d l)))
branches_join t a b d l w = made (ap (λ x. deep_branches x d l) w)

-- what is not two blocks
pub branches_rest : (source : List ℕ) (x : Shape) (u : Tree) (d l : ℕ) → ((k : Placed Lexeme) (a b : Subtree) → x ≡ Join k a b → ⊥) → Shaped source x u →
    Made (deep_branches u d l) (last (deep_block (block u) d l))
branches_rest source x u d l n h =
    unjoined source x u h (λ v. Made (deep_branches v d l) (last (deep_block (block v) d l))) n (λ t. branches_leaf t d l refl) (λ t e. branches_under t e d l refl)

pub block_leaf : {u : Tree} (t : Token) (d l : ℕ) → u ≡ leaf t → Made (deep_block (block u) d l) (last (deeper 96 d t.place))
block_leaf t d l w = made (ap (λ x. deep_block (block x) d l) w ∙ append-nil (deeper 96 d t.place))

pub block_under : {u : Tree} (t : Token) (e : Tree) (d l : ℕ) → u ≡ under t e →
    Made (deep_block (block u) d l)
    (next (deeper 96 d t.place) (next (deep_declarations (declarations e DeclarationTrees.no_declaration) (d + 1) l)
    (last (deep_statements (statements e Statements.no_statement) (d + 1) l))))
block_under t e d l w = made (ap (λ x. deep_block (block x) d l) w ∙ simp add-one)

pub block_join : {u : Tree} (t : Token) (a b : Tree) (d l : ℕ) → u ≡ join t a b → Made (deep_block (block u) d l) (last (deeper 96 d t.place))
block_join t a b d l w = made (ap (λ x. deep_block (block x) d l) w ∙ append-nil (deeper 96 d t.place)
    )
