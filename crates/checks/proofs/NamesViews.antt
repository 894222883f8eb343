-- The breaks of names of each shape of tree, in the order in which the pass comes to them.
use Rattle.std.proofs.Common.{◌≡◌, ℕ, Bool, true, false, cond, List, [], ◌∷◌, ◌++◌, ◌⊎◌, sym, refl, ap, ◌∙◌, append_assoc, append-nil, arith}
use Rattle.tiny.specs.declared.tokens.Kind.TheVariants.{Name, TypeWord, ProcWord, IfWord, WhileWord, ReadWord, WriteWord, Open, Semicolon, Becomes, Index, Dot, Comma, DoubleAmpersand, At}
use Rattle.tiny.specs.Token.{Token, is, code}
use Rattle.tiny.specs.Tree as Tiny
use Rattle.tiny.specs.Tree.{TypeTree, Fields, Expression, Formals, Statement, Statements, DeclarationTrees, BlockTree}
use Rattle.syntax.specs.Shape.{Tree, token_of}
use Rattle.syntax.specs.Shape.Tree.{leaf, under, join}
use Rattle.syntax.specs.View.{expression, type_tree, fields, formals, by_reference, part_of, expressions, arguments, declarations, statements, branches, block}
use Rattle.meaning.specs.Stages as Stages
use Rattle.meaning.specs.Stages.{Break, undeclared, twice, innermost, added, names, names_all, names_type, names_fields, names_formals, open_formals, names_statement, names_statements, names_declarations, names_block, open_declarations}
use Rattle.checks.specs.Branches.{names_branches}
use Rattle.checks.specs.Declares.{open_fields, names_procedure}
use Rattle.tiny.specs.declared.tokens.Lexeme.{Lexeme}
use Rattle.tiny.specs.declared.placed.Placed.{Placed}
use Rattle.nodes.specs.declared.subtree.Subtree.{Subtree}
use Rattle.nodes.specs.declared.subtree.Shape.{Shape}
use Rattle.nodes.specs.declared.subtree.Shape.TheVariants.{Join as TwoParted}
use Rattle.nodes.specs.Subtrees.{Shaped}
use Rattle.nodes.proofs.KindTests.{is_kind, is_other}
use Rattle.nodes.proofs.Shapes.{unjoined}
use Rattle.checks.proofs.Choices.{along, same, behind, three, apart, no_mark, one_word}
use Rattle.checks.proofs.Steps.{Made, made, taken, left}
use Rattle.checks.proofs.Steps.Plan.{done, last, next, pick}

-- Expressions

names_cond : (b : Bool) (x y : Expression) (Δ : Stages.Open) → names (cond b x y) Δ ≡ cond b (names x Δ) (names y Δ)
names_cond b x y Δ = along (λ e. names e Δ) b x y

join_ways : (b c d : Bool) (A C : List Break) → (b ≡ true → d ≡ false) → (c ≡ true → d ≡ false) →
    cond b (A ++ C) (cond c (A ++ C) (cond d A (A ++ C))) ≡ A ++ cond d [] C
join_ways true c true A C h k = absurd (let n = h refl in let z : ◌≡◌ {A = ℕ} 0 1 = cc in omega arith)
join_ways true c false A C h k = refl
join_ways false true true A C h k = absurd (let n = k refl in let z : ◌≡◌ {A = ℕ} 0 1 = cc in omega arith)
join_ways false true false A C h k = refl
join_ways false false true A C h k = simp append-nil
join_ways false false false A C h k = refl

pub names_join : {u : Tree} (t : Token) (l r : Tree) (Δ : Stages.Open) → u ≡ join t l r →
    Made (names (expression u) Δ) (next (names (expression l) Δ) (pick (is t.kind Dot) done (last (names (expression r) Δ))))
names_join t l r Δ w =
    made (ap (λ x. names (expression x) Δ) w
    ∙ simp names_cond (join_ways (is t.kind Becomes) (is t.kind Index) (is t.kind Dot) (names (expression l) Δ) (names (expression r) Δ) (apart (code t.kind) 38 41 refl) (apart (code t.kind) 39 41 refl)))

-- Arguments

pub all_leaf : {u : Tree} (t : Token) (Δ : Stages.Open) → u ≡ leaf t → Made (names_all (expressions u) Δ) (last (names (expression u) Δ))
all_leaf t Δ w = made (ap (λ x. names_all (expressions x) Δ) w ∙ append-nil (names (expression (leaf t)) Δ) ∙ ap (λ x. names (expression x) Δ) (sym w))

pub all_under : {u : Tree} (t : Token) (e : Tree) (Δ : Stages.Open) → u ≡ under t e → Made (names_all (expressions u) Δ) (last (names (expression u) Δ))
all_under t e Δ w = made (ap (λ x. names_all (expressions x) Δ) w ∙ append-nil (names (expression (under t e)) Δ) ∙ ap (λ x. names (expression x) Δ) (sym w))

pub all_join : {u : Tree} (t : Token) (l r : Tree) (Δ : Stages.Open) → u ≡ join t l r →
    Made (names_all (expressions u) Δ) (pick (is t.kind Comma) (next (names (expression l) Δ) (last (names_all (expressions r) Δ))) (last (names (expression u) Δ)))
all_join t l r Δ w =
    made (ap (λ x. names_all (expressions x) Δ) w
    ∙ along (λ es. names_all es Δ) (is t.kind Comma) (expression l ∷ expressions r) (expression (join t l r) ∷ [])
    ∙ ap (λ x. cond (is t.kind Comma) (names (expression l) Δ ++ names_all (expressions r) Δ) x)
    (append-nil (names (expression (join t l r)) Δ) ∙ ap (λ x. names (expression x) Δ) (sym w)))

-- what is not two arguments
pub all_rest : (source : List ℕ) (x : Shape) (u : Tree) (Δ : Stages.Open) → ((k : Placed Lexeme) (a b : Subtree) → x ≡ TwoParted k a b → ⊥) → Shaped source x u →
    Made (names_all (expressions u) Δ) (last (names (expression u) Δ))
all_rest source x u Δ n h =
    unjoined source x u h (λ v. Made (names_all (expressions v) Δ) (last (names (expression v) Δ))) n (λ t. all_leaf t Δ refl) (λ t e. all_under t e Δ refl)

pub arguments_leaf : {u : Tree} (t : Token) (Δ : Stages.Open) → u ≡ leaf t → Made (names_all (arguments u) Δ) done
arguments_leaf t Δ w = made (ap (λ x. names_all (arguments x) Δ) w)

pub arguments_under : {u : Tree} (t : Token) (e : Tree) (Δ : Stages.Open) → u ≡ under t e → Made (names_all (arguments u) Δ) (last (names_all (expressions e) Δ))
arguments_under t e Δ w = made (ap (λ x. names_all (arguments x) Δ) w)

pub arguments_join : {u : Tree} (t : Token) (l r : Tree) (Δ : Stages.Open) → u ≡ join t l r → Made (names_all (arguments u) Δ) done
arguments_join t l r Δ w = made (ap (λ x. names_all (arguments x) Δ) w)

-- Types and fields

names_type_cond : (b : Bool) (x y : TypeTree) (Δ : Stages.Open) → names_type (cond b x y) Δ ≡ cond b (names_type x Δ) (names_type y Δ)
names_type_cond b x y Δ = along (λ e. names_type e Δ) b x y

pub type_leaf : {u : Tree} (t : Token) (Δ : Stages.Open) → u ≡ leaf t →
    Made (names_type (type_tree u) Δ) (pick (is t.kind Name) (last (undeclared Δ t.place t.text)) done)
type_leaf t Δ w = made (ap (λ x. names_type (type_tree x) Δ) w ∙ simp (names_type_cond, same))

pub type_under : {u : Tree} (t : Token) (e : Tree) (Δ : Stages.Open) → u ≡ under t e → Made (names_type (type_tree u) Δ) (last (names_fields (fields e Fields.no_field) [] Δ))
type_under t e Δ w = made (ap (λ x. names_type (type_tree x) Δ) w)

pub type_join : {u : Tree} (t : Token) (e n : Tree) (Δ : Stages.Open) → u ≡ join t e n → Made (names_type (type_tree u) Δ) (last (names_type (type_tree e) Δ))
type_join t e n Δ w = made (ap (λ x. names_type (type_tree x) Δ) w)

pub opened_fields : (t : Tree) (more : Fields) (xs : List Tiny.Name) → open_fields (fields t more) xs ≡ open_fields more (open_fields (fields t Fields.no_field) xs)
opened_fields (leaf t) more xs = refl
opened_fields (under t e) more xs = refl
opened_fields (join t f r) more xs =
    opened_fields f (fields r more) xs
    ∙ opened_fields r more (open_fields (fields f Fields.no_field) xs)
    ∙ ap (open_fields more) (sym (opened_fields f (fields r Fields.no_field) xs))

spread_fields : (t : Tree) (more : Fields) (xs : List Tiny.Name) (Δ : Stages.Open) →
    names_fields (fields t more) xs Δ ≡ names_fields (fields t Fields.no_field) xs Δ ++ names_fields more (open_fields (fields t Fields.no_field) xs) Δ
spread_fields (leaf t) more xs Δ = refl
spread_fields (under t e) more xs Δ = simp (append_assoc, append-nil)
spread_fields (join t f r) more xs Δ =
    let ys = open_fields (fields f Fields.no_field) xs in
    let A = names_fields (fields f Fields.no_field) xs Δ in
    let B = names_fields (fields r Fields.no_field) (open_fields (fields f Fields.no_field) xs) Δ in
    spread_fields f (fields r more) xs Δ
    ∙ ap (λ z. A ++ z) (spread_fields r more (open_fields (fields f Fields.no_field) xs) Δ)
    ∙ ap (λ z. A ++ (B ++ names_fields more z Δ)) (sym (opened_fields f (fields r Fields.no_field) xs))
    ∙ sym (append_assoc A B (names_fields more (open_fields (fields f (fields r Fields.no_field)) xs) Δ))
    ∙ ap (λ z. z ++ names_fields more (open_fields (fields f (fields r Fields.no_field)) xs) Δ) (sym (spread_fields f (fields r Fields.no_field) xs Δ))

pub fields_leaf : {u : Tree} (t : Token) (xs : List Tiny.Name) (Δ : Stages.Open) → u ≡ leaf t → Made (names_fields (fields u Fields.no_field) xs Δ) done
fields_leaf t xs Δ w = made (ap (λ x. names_fields (fields x Fields.no_field) xs Δ) w)

pub fields_under : {u : Tree} (t : Token) (e : Tree) (xs : List Tiny.Name) (Δ : Stages.Open) → u ≡ under t e →
    Made (names_fields (fields u Fields.no_field) xs Δ) (next (names_type (type_tree e) Δ) (last (twice xs t.place t.text)))
fields_under t e xs Δ w = made (ap (λ x. names_fields (fields x Fields.no_field) xs Δ) w ∙ simp append-nil)

pub fields_join : {u : Tree} (t : Token) (f r : Tree) (xs : List Tiny.Name) (Δ : Stages.Open) → u ≡ join t f r →
    Made (names_fields (fields u Fields.no_field) xs Δ)
    (next (names_fields (fields f Fields.no_field) xs Δ) (last (names_fields (fields r Fields.no_field) (open_fields (fields f Fields.no_field) xs) Δ)))
fields_join t f r xs Δ w = made (ap (λ x. names_fields (fields x Fields.no_field) xs Δ) w ∙ spread_fields f (fields r Fields.no_field) xs Δ)

-- Formals

names_formals_cond : (b : Bool) (x y : Formals) (Δ : Stages.Open) → names_formals (cond b x y) Δ ≡ cond b (names_formals x Δ) (names_formals y Δ)
names_formals_cond b x y Δ = along (λ e. names_formals e Δ) b x y

open_formals_cond : (b : Bool) (x y : Formals) (Δ : Stages.Open) → open_formals (cond b x y) Δ ≡ cond b (open_formals x Δ) (open_formals y Δ)
open_formals_cond b x y Δ = along (λ e. open_formals e Δ) b x y

pub opened_formals : (t : Tree) (more : Formals) (Δ : Stages.Open) → open_formals (formals t more) Δ ≡ open_formals more (open_formals (formals t Formals.no_formal) Δ)
opened_formals (leaf t) more Δ = refl
opened_formals (under t e) more Δ =
    open_formals_cond (is t.kind Open) (formals e more) _ Δ
    ∙ ap (λ z. cond (is t.kind Open) z (open_formals more (added t.text Δ))) (opened_formals e more Δ)
    ∙ sym (ap (open_formals more) (open_formals_cond (is t.kind Open) (formals e Formals.no_formal) _ Δ)
    ∙ along (open_formals more) (is t.kind Open) (open_formals (formals e Formals.no_formal) Δ) (added t.text Δ))
opened_formals (join t f r) more Δ =
    opened_formals f (formals r more) Δ
    ∙ opened_formals r more (open_formals (formals f Formals.no_formal) Δ)
    ∙ ap (open_formals more) (sym (opened_formals f (formals r Formals.no_formal) Δ))

two_ways : (b : Bool) (A B C D : List Break) (f : Stages.Open → List Break) (X Y : Stages.Open) → C ≡ A ++ f X → D ≡ B ++ f Y → cond b C D ≡ cond b A B ++ f (cond b X Y)
two_ways true A B C D f X Y h k = h
two_ways false A B C D f X Y h k = k

spread_formals : (t : Tree) (more : Formals) (Δ : Stages.Open) →
    names_formals (formals t more) Δ ≡ names_formals (formals t Formals.no_formal) Δ ++ names_formals more (open_formals (formals t Formals.no_formal) Δ)
spread_formals (leaf t) more Δ = refl
spread_formals (under t e) more Δ =
    simp (names_formals_cond, open_formals_cond)
    (two_ways (is t.kind Open) (names_formals (formals e Formals.no_formal) Δ)
    (names_type (type_tree (cond (by_reference e) (part_of e) e)) Δ ++ (twice (innermost Δ) t.place t.text ++ []))
    (names_formals (formals e more) Δ)
    (names_type (type_tree (cond (by_reference e) (part_of e) e)) Δ ++ (twice (innermost Δ) t.place t.text ++ names_formals more (added t.text Δ)))
    (names_formals more) (open_formals (formals e Formals.no_formal) Δ) (added t.text Δ) (spread_formals e more Δ) (simp (append_assoc, append-nil)))
spread_formals (join t f r) more Δ =
    let A = names_formals (formals f Formals.no_formal) Δ in
    let B = names_formals (formals r Formals.no_formal) (open_formals (formals f Formals.no_formal) Δ) in
    spread_formals f (formals r more) Δ
    ∙ ap (λ z. A ++ z) (spread_formals r more (open_formals (formals f Formals.no_formal) Δ))
    ∙ ap (λ z. A ++ (B ++ names_formals more z)) (sym (opened_formals f (formals r Formals.no_formal) Δ))
    ∙ sym (append_assoc A B (names_formals more (open_formals (formals f (formals r Formals.no_formal)) Δ)))
    ∙ ap (λ z. z ++ names_formals more (open_formals (formals f (formals r Formals.no_formal)) Δ)) (sym (spread_formals f (formals r Formals.no_formal) Δ))

pub formals_leaf : {u : Tree} (t : Token) (Δ : Stages.Open) → u ≡ leaf t → Made (names_formals (formals u Formals.no_formal) Δ) done
formals_leaf t Δ w = made (ap (λ x. names_formals (formals x Formals.no_formal) Δ) w)

pub formals_under : {u : Tree} (t : Token) (e : Tree) (Δ : Stages.Open) → u ≡ under t e →
    Made (names_formals (formals u Formals.no_formal) Δ)
    (pick (is t.kind Open) (last (names_formals (formals e Formals.no_formal) Δ))
    (next (names_type (type_tree (cond (by_reference e) (part_of e) e)) Δ) (last (twice (innermost Δ) t.place t.text))))
formals_under t e Δ w = made (ap (λ x. names_formals (formals x Formals.no_formal) Δ) w ∙ simp (names_formals_cond, append-nil))

pub formals_join : {u : Tree} (t : Token) (f r : Tree) (Δ : Stages.Open) → u ≡ join t f r →
    Made (names_formals (formals u Formals.no_formal) Δ)
    (next (names_formals (formals f Formals.no_formal) Δ) (last (names_formals (formals r Formals.no_formal) (open_formals (formals f Formals.no_formal) Δ))))
formals_join t f r Δ w = made (ap (λ x. names_formals (formals x Formals.no_formal) Δ) w ∙ spread_formals f (formals r Formals.no_formal) Δ)

-- the scopes behind formals, by the test of the node
pub opened_inside : {u : Tree} (t : Token) (e : Tree) (Δ : Stages.Open) → u ≡ under t e → true ≡ is t.kind Open →
    open_formals (formals u Formals.no_formal) Δ ≡ open_formals (formals e Formals.no_formal) Δ
opened_inside t e Δ w h =
    ap (λ x. open_formals (formals x Formals.no_formal) Δ) w
    ∙ open_formals_cond (is t.kind Open) (formals e Formals.no_formal) _ Δ
    ∙ ap (λ b. cond b (open_formals (formals e Formals.no_formal) Δ) (added t.text Δ)) (sym h)

pub opened_one : {u : Tree} (t : Token) (e : Tree) (Δ : Stages.Open) → u ≡ under t e → false ≡ is t.kind Open →
    open_formals (formals u Formals.no_formal) Δ ≡ added t.text Δ
opened_one t e Δ w h =
    ap (λ x. open_formals (formals x Formals.no_formal) Δ) w
    ∙ open_formals_cond (is t.kind Open) (formals e Formals.no_formal) _ Δ
    ∙ ap (λ b. cond b (open_formals (formals e Formals.no_formal) Δ) (added t.text Δ)) (sym h)

-- Declarations

abbrev under_tree : Token → Tree → DeclarationTrees → Bool → Bool → Bool → DeclarationTrees
under_tree t e more b c d =
    cond b (declarations e more) (cond c (DeclarationTrees.type_name (type_tree (part_of e)) (token_of e).place (token_of e).text more)
    (cond d (DeclarationTrees.variable (type_tree e) t.place t.text more) more))

abbrev join_tree : Tree → Tree → DeclarationTrees → Bool → Bool → Bool → DeclarationTrees
join_tree l r more b c d =
    cond b (declarations l more) (cond c (declarations l (declarations r more))
    (cond d (DeclarationTrees.procedure (token_of l).place (token_of l).text (formals (part_of l) Formals.no_formal) (block r) more) more))

under_opens : (t : Token) (e : Tree) (more : DeclarationTrees) (Δ : Stages.Open) (b c d : Bool) →
    open_declarations (declarations e more) Δ ≡ open_declarations more (open_declarations (declarations e DeclarationTrees.no_declaration) Δ) →
    open_declarations (under_tree t e more b c d) Δ ≡ open_declarations more (open_declarations (under_tree t e DeclarationTrees.no_declaration b c d) Δ)
under_opens t e more Δ true c d h = h
under_opens t e more Δ false true d h = refl
under_opens t e more Δ false false true h = refl
under_opens t e more Δ false false false h = refl

join_opens : (l r : Tree) (more : DeclarationTrees) (Δ : Stages.Open) (b c d : Bool) →
    open_declarations (declarations l more) Δ ≡ open_declarations more (open_declarations (declarations l DeclarationTrees.no_declaration) Δ) →
    open_declarations (declarations l (declarations r more)) Δ
    ≡ open_declarations more (open_declarations (declarations l (declarations r DeclarationTrees.no_declaration)) Δ) →
    open_declarations (join_tree l r more b c d) Δ ≡ open_declarations more (open_declarations (join_tree l r DeclarationTrees.no_declaration b c d) Δ)
join_opens l r more Δ true c d h k = h
join_opens l r more Δ false true d h k = k
join_opens l r more Δ false false true h k = refl
join_opens l r more Δ false false false h k = refl

pub opened_declarations : (t : Tree) (more : DeclarationTrees) (Δ : Stages.Open) →
    open_declarations (declarations t more) Δ ≡ open_declarations more (open_declarations (declarations t DeclarationTrees.no_declaration) Δ)
opened_declarations (leaf t) more Δ = refl
opened_declarations (under t e) more Δ =
    under_opens t e more Δ (is t.kind DoubleAmpersand) (is t.kind TypeWord) (is t.kind Name) (opened_declarations e more Δ)
opened_declarations (join t l r) more Δ =
    join_opens l r more Δ (is t.kind DoubleAmpersand) (is t.kind Semicolon) (is t.kind ProcWord) (opened_declarations l more Δ)
    (opened_declarations l (declarations r more) Δ
    ∙ opened_declarations r more (open_declarations (declarations l DeclarationTrees.no_declaration) Δ)
    ∙ ap (open_declarations more) (sym (opened_declarations l (declarations r DeclarationTrees.no_declaration) Δ)))

under_spreads : (t : Token) (e : Tree) (more : DeclarationTrees) (Δ : Stages.Open) (b c d : Bool) →
    names_declarations (declarations e more) Δ
    ≡ names_declarations (declarations e DeclarationTrees.no_declaration) Δ ++ names_declarations more (open_declarations (declarations e DeclarationTrees.no_declaration) Δ) →
    names_declarations (under_tree t e more b c d) Δ
    ≡ names_declarations (under_tree t e DeclarationTrees.no_declaration b c d) Δ ++ names_declarations more (open_declarations (under_tree t e DeclarationTrees.no_declaration b c d) Δ)
under_spreads t e more Δ true c d h = h
under_spreads t e more Δ false true d h = simp (append_assoc, append-nil)
under_spreads t e more Δ false false true h = simp (append_assoc, append-nil)
under_spreads t e more Δ false false false h = refl

join_spreads : (l r : Tree) (more : DeclarationTrees) (Δ : Stages.Open) (b c d : Bool) →
    names_declarations (declarations l more) Δ
    ≡ names_declarations (declarations l DeclarationTrees.no_declaration) Δ ++ names_declarations more (open_declarations (declarations l DeclarationTrees.no_declaration) Δ) →
    names_declarations (declarations l (declarations r more)) Δ
    ≡ names_declarations (declarations l (declarations r DeclarationTrees.no_declaration)) Δ
    ++ names_declarations more (open_declarations (declarations l (declarations r DeclarationTrees.no_declaration)) Δ) →
    names_declarations (join_tree l r more b c d) Δ
    ≡ names_declarations (join_tree l r DeclarationTrees.no_declaration b c d) Δ ++ names_declarations more (open_declarations (join_tree l r DeclarationTrees.no_declaration b c d) Δ)
join_spreads l r more Δ true c d h k = h
join_spreads l r more Δ false true d h k = k
join_spreads l r more Δ false false true h k = simp (append_assoc, append-nil)
join_spreads l r more Δ false false false h k = refl

spread_declarations : (t : Tree) (more : DeclarationTrees) (Δ : Stages.Open) →
    names_declarations (declarations t more) Δ
    ≡ names_declarations (declarations t DeclarationTrees.no_declaration) Δ ++ names_declarations more (open_declarations (declarations t DeclarationTrees.no_declaration) Δ)
spread_declarations (leaf t) more Δ = refl
spread_declarations (under t e) more Δ =
    under_spreads t e more Δ (is t.kind DoubleAmpersand) (is t.kind TypeWord) (is t.kind Name) (spread_declarations e more Δ)
spread_declarations (join t l r) more Δ =
    let A = names_declarations (declarations l DeclarationTrees.no_declaration) Δ in
    let B = names_declarations (declarations r DeclarationTrees.no_declaration) (open_declarations (declarations l DeclarationTrees.no_declaration) Δ) in
    join_spreads l r more Δ (is t.kind DoubleAmpersand) (is t.kind Semicolon) (is t.kind ProcWord) (spread_declarations l more Δ)
    (spread_declarations l (declarations r more) Δ
    ∙ ap (λ z. A ++ z) (spread_declarations r more (open_declarations (declarations l DeclarationTrees.no_declaration) Δ))
    ∙ ap (λ z. A ++ (B ++ names_declarations more z)) (sym (opened_declarations l (declarations r DeclarationTrees.no_declaration) Δ))
    ∙ sym (append_assoc A B (names_declarations more (open_declarations (declarations l (declarations r DeclarationTrees.no_declaration)) Δ)))
    ∙ ap (λ z. z ++ names_declarations more (open_declarations (declarations l (declarations r DeclarationTrees.no_declaration)) Δ)) (sym (spread_declarations l (declarations r DeclarationTrees.no_declaration) Δ)))

names_declarations_cond : (b : Bool) (x y : DeclarationTrees) (Δ : Stages.Open) → names_declarations (cond b x y) Δ ≡ cond b (names_declarations x Δ) (names_declarations y Δ)
names_declarations_cond b x y Δ = along (λ e. names_declarations e Δ) b x y

pub declarations_leaf : {u : Tree} (t : Token) (Δ : Stages.Open) → u ≡ leaf t → Made (names_declarations (declarations u DeclarationTrees.no_declaration) Δ) done
declarations_leaf t Δ w = made (ap (λ x. names_declarations (declarations x DeclarationTrees.no_declaration) Δ) w)

pub declarations_under : {u : Tree} (t : Token) (e : Tree) (Δ : Stages.Open) → u ≡ under t e →
    Made (names_declarations (declarations u DeclarationTrees.no_declaration) Δ)
    (pick (is t.kind DoubleAmpersand) (last (names_declarations (declarations e DeclarationTrees.no_declaration) Δ))
    (pick (is t.kind TypeWord) (next (names_type (type_tree (part_of e)) Δ) (last (twice (innermost Δ) (token_of e).place (token_of e).text)))
    (pick (is t.kind Name) (next (names_type (type_tree e) Δ) (last (twice (innermost Δ) t.place t.text))) done)))
declarations_under t e Δ w =
    made (ap (λ x. names_declarations (declarations x DeclarationTrees.no_declaration) Δ) w ∙ simp (names_declarations_cond, append-nil))

pub declarations_join : {u : Tree} (t : Token) (l r : Tree) (Δ : Stages.Open) → u ≡ join t l r →
    Made (names_declarations (declarations u DeclarationTrees.no_declaration) Δ)
    (pick (is t.kind DoubleAmpersand) (last (names_declarations (declarations l DeclarationTrees.no_declaration) Δ))
    (pick (is t.kind Semicolon)
    (next (names_declarations (declarations l DeclarationTrees.no_declaration) Δ)
    (last (names_declarations (declarations r DeclarationTrees.no_declaration) (open_declarations (declarations l DeclarationTrees.no_declaration) Δ))))
    (pick (is t.kind ProcWord) (last (names_procedure l r Δ)) done)))
declarations_join t l r Δ w =
    made (ap (λ x. names_declarations (declarations x DeclarationTrees.no_declaration) Δ) w
    ∙ simp (names_declarations_cond, append-nil, spread_declarations l (declarations r DeclarationTrees.no_declaration) Δ))

module _ {u : Tree} (t : Token) (e : Tree) (Δ : Stages.Open) (w : u ≡ under t e) where
  pub declarations_type : t.kind ≡ TypeWord →
      Made (names_declarations (declarations u DeclarationTrees.no_declaration) Δ)
      (next (names_type (type_tree (part_of e)) Δ) (last (twice (innermost Δ) (token_of e).place (token_of e).text)))
  declarations_type k = taken (left (declarations_under t e Δ w) (ap (λ k. is k DoubleAmpersand) k)) (is_kind k)

  pub declarations_variable : t.kind ≡ Name →
      Made (names_declarations (declarations u DeclarationTrees.no_declaration) Δ) (next (names_type (type_tree e) Δ) (last (twice (innermost Δ) t.place t.text)))
  declarations_variable k = taken (left (left (declarations_under t e Δ w) (ap (λ k. is k DoubleAmpersand) k)) (ap (λ k. is k TypeWord) k)) (is_kind k)

module _ {u : Tree} (t : Token) (a b : Tree) (Δ : Stages.Open) (w : u ≡ join t a b) where
  pub declarations_two : t.kind ≡ Semicolon →
      Made (names_declarations (declarations u DeclarationTrees.no_declaration) Δ)
      (next (names_declarations (declarations a DeclarationTrees.no_declaration) Δ)
      (last (names_declarations (declarations b DeclarationTrees.no_declaration) (open_declarations (declarations a DeclarationTrees.no_declaration) Δ))))
  declarations_two k = taken (left (declarations_join t a b Δ w) (ap (λ k. is k DoubleAmpersand) k)) (is_kind k)

  pub declarations_procedure : t.kind ≡ ProcWord → Made (names_declarations (declarations u DeclarationTrees.no_declaration) Δ) (last (names_procedure a b Δ))
  declarations_procedure k = taken (left (left (declarations_join t a b Δ w) (ap (λ k. is k DoubleAmpersand) k)) (ap (λ k. is k Semicolon) k)) (is_kind k)

-- Instructions and blocks

names_statement_cond : (b : Bool) (x y : Statement) (Δ : Stages.Open) → names_statement (cond b x y) Δ ≡ cond b (names_statement x Δ) (names_statement y Δ)
names_statement_cond b x y Δ = along (λ e. names_statement e Δ) b x y

names_statements_cond : (b : Bool) (x y : Statements) (Δ : Stages.Open) → names_statements (cond b x y) Δ ≡ cond b (names_statements x Δ) (names_statements y Δ)
names_statements_cond b x y Δ = along (λ e. names_statements e Δ) b x y

spread_statements : (t : Tree) (more : Statements) (Δ : Stages.Open) →
    names_statements (statements t more) Δ ≡ names_statements (statements t Statements.no_statement) Δ ++ names_statements more Δ
spread_statements (leaf t) more Δ = simp append-nil
spread_statements (under t e) more Δ = simp (names_statements_cond, behind, append-nil)
spread_statements (join t a b) more Δ =
    let first = spread_statements a in
    let second = spread_statements b in
    simp (names_statements_cond, behind, append_assoc, append-nil, first (statements b more) Δ, second more Δ, first (statements b Statements.no_statement) Δ)

pub statements_leaf : {u : Tree} (t : Token) (Δ : Stages.Open) → u ≡ leaf t → Made (names_statements (statements u Statements.no_statement) Δ) done
statements_leaf t Δ w = made (ap (λ x. names_statements (statements x Statements.no_statement) Δ) w ∙ simp (names_statement_cond, same))

block_here : {u v : Tree} (Δ : Stages.Open) → u ≡ v → names_block (block v) Δ ≡ names_block (block u) Δ
block_here Δ w = ap (λ x. names_block (block x) Δ) (sym w)

under_is : (t : Token) (e : Tree) (Δ : Stages.Open) →
    names_statements (statements (under t e) Statements.no_statement) Δ ≡
    cond (is t.kind DoubleAmpersand) [] (cond (cond (is t.kind At) true (cond (is t.kind ReadWord) true (is t.kind WriteWord)))
    (names (expression e) Δ) (names_block (block (under t e)) Δ))
under_is t e Δ = simp (names_statements_cond, names_statement_cond, append-nil, three)

pub statements_under : {u : Tree} (t : Token) (e : Tree) (Δ : Stages.Open) → u ≡ under t e →
    Made (names_statements (statements u Statements.no_statement) Δ)
    (pick (is t.kind DoubleAmpersand) done
    (pick (cond (is t.kind At) true (cond (is t.kind ReadWord) true (is t.kind WriteWord))) (last (names (expression e) Δ)) (last (names_block (block u) Δ))))
statements_under t e Δ w =
    made (ap (λ x. names_statements (statements x Statements.no_statement) Δ) w
    ∙ under_is t e Δ
    ∙ ap (λ x. cond (is t.kind DoubleAmpersand) [] (cond (cond (is t.kind At) true (cond (is t.kind ReadWord) true (is t.kind WriteWord))) (names (expression e) Δ) x)) (block_here Δ w))

if_is : (r : Tree) (p : ℕ) (e : Expression) (Δ : Stages.Open) → names_statement (branches r p e) Δ ≡ names e Δ ++ names_branches r Δ
if_is (leaf t) p e Δ = refl
if_is (under t c) p e Δ = refl
if_is (join t a b) p e Δ = refl

pub statements_join : {u : Tree} (t : Token) (a b : Tree) (Δ : Stages.Open) → u ≡ join t a b →
    Made (names_statements (statements u Statements.no_statement) Δ)
    (pick (is t.kind DoubleAmpersand) (last (names_statements (statements b Statements.no_statement) Δ))
    (pick (is t.kind Semicolon)
    (next (names_statements (statements a Statements.no_statement) Δ) (last (names_statements (statements b Statements.no_statement) Δ)))
    (pick (is t.kind IfWord) (next (names (expression a) Δ) (last (names_branches b Δ)))
    (pick (is t.kind WhileWord) (next (names (expression a) Δ) (last (names_block (block b) Δ)))
    (next (undeclared Δ (token_of a).place (token_of a).text) (last (names_all (arguments b) Δ)))))))
statements_join t a b Δ w =
    made (ap (λ x. names_statements (statements x Statements.no_statement) Δ) w
    ∙ simp (names_statements_cond, names_statement_cond, append-nil, spread_statements a (statements b Statements.no_statement) Δ, if_is b t.place (expression a) Δ))

module _ {u : Tree} (t : Token) (a b : Tree) (Δ : Stages.Open) (w : u ≡ join t a b) where
  pub statements_two : t.kind ≡ Semicolon →
      Made (names_statements (statements u Statements.no_statement) Δ)
      (next (names_statements (statements a Statements.no_statement) Δ) (last (names_statements (statements b Statements.no_statement) Δ)))
  statements_two k = taken (left (statements_join t a b Δ w) (ap (λ k. is k DoubleAmpersand) k)) (is_kind k)

  pub statements_if : t.kind ≡ IfWord →
      Made (names_statements (statements u Statements.no_statement) Δ) (next (names (expression a) Δ) (last (names_branches b Δ)))
  statements_if k = taken (left (left (statements_join t a b Δ w) (ap (λ k. is k DoubleAmpersand) k)) (ap (λ k. is k Semicolon) k)) (is_kind k)

  pub statements_while : t.kind ≡ WhileWord →
      Made (names_statements (statements u Statements.no_statement) Δ) (next (names (expression a) Δ) (last (names_block (block b) Δ)))
  statements_while k =
      taken (left (left (left (statements_join t a b Δ w) (ap (λ k. is k DoubleAmpersand) k)) (ap (λ k. is k Semicolon) k)) (ap (λ k. is k IfWord) k)) (is_kind k)

  pub statements_call : (t.kind ≡ DoubleAmpersand → ⊥) → (t.kind ≡ Semicolon → ⊥) → (t.kind ≡ IfWord → ⊥) → (t.kind ≡ WhileWord → ⊥) →
      Made (names_statements (statements u Statements.no_statement) Δ)
      (next (undeclared Δ (token_of a).place (token_of a).text) (last (names_all (arguments b) Δ)))
  statements_call f g h i = left (left (left (left (statements_join t a b Δ w) (is_other f)) (is_other g)) (is_other h)) (is_other i)

module _ {u : Tree} (t : Token) (e : Tree) (Δ : Stages.Open) (w : u ≡ under t e) where
  pub statements_word : (t.kind ≡ At) ⊎ ((t.kind ≡ ReadWord) ⊎ (t.kind ≡ WriteWord)) →
      Made (names_statements (statements u Statements.no_statement) Δ) (last (names (expression e) Δ))
  statements_word k = taken (left (statements_under t e Δ w) (no_mark k)) (one_word k)

  pub statements_block : (t.kind ≡ DoubleAmpersand → ⊥) → (t.kind ≡ At → ⊥) → (t.kind ≡ ReadWord → ⊥) → (t.kind ≡ WriteWord → ⊥) →
      Made (names_statements (statements u Statements.no_statement) Δ) (last (names_block (block u) Δ))
  statements_block f g h i = left (left (statements_under t e Δ w) (is_other f)) (rw (is_other g, is_other h, is_other i))

pub branches_leaf : {u : Tree} (t : Token) (Δ : Stages.Open) → u ≡ leaf t → Made (names_branches u Δ) (last (names_block (block u) Δ))
branches_leaf t Δ w = made (ap (λ x. names_branches x Δ) w ∙ block_here Δ w)

pub branches_under : {u : Tree} (t : Token) (e : Tree) (Δ : Stages.Open) → u ≡ under t e → Made (names_branches u Δ) (last (names_block (block u) Δ))
branches_under t e Δ w = made (ap (λ x. names_branches x Δ) w ∙ block_here Δ w)

pub branches_join : {u : Tree} (t : Token) (a b : Tree) (Δ : Stages.Open) → u ≡ join t a b →
    Made (names_branches u Δ) (next (names_block (block a) Δ) (last (names_block (block b) Δ)))
branches_join t a b Δ w = made (ap (λ x. names_branches x Δ) w)

-- what is not two blocks
pub branches_rest : (source : List ℕ) (x : Shape) (u : Tree) (Δ : Stages.Open) → ((k : Placed Lexeme) (a b : Subtree) → x ≡ TwoParted k a b → ⊥) → Shaped source x u →
    Made (names_branches u Δ) (last (names_block (block u) Δ))
branches_rest source x u Δ n h =
    unjoined source x u h (λ v. Made (names_branches v Δ) (last (names_block (block v) Δ))) n (λ t. branches_leaf t Δ refl) (λ t e. branches_under t e Δ refl)

pub block_leaf : {u : Tree} (t : Token) (Δ : Stages.Open) → u ≡ leaf t → Made (names_block (block u) Δ) done
block_leaf t Δ w = made (ap (λ x. names_block (block x) Δ) w)

pub block_under : {u : Tree} (t : Token) (e : Tree) (Δ : Stages.Open) → u ≡ under t e →
    Made (names_block (block u) Δ)
    (next (names_declarations (declarations e DeclarationTrees.no_declaration) ([] ∷ Δ))
    (last (names_statements (statements e Statements.no_statement) (open_declarations (declarations e DeclarationTrees.no_declaration) ([] ∷ Δ)))))
block_under t e Δ w = made (ap (λ x. names_block (block x) Δ) w)

pub block_join : {u : Tree} (t : Token) (a b : Tree) (Δ : Stages.Open) → u ≡ join t a b → Made (names_block (block u) Δ) done
block_join t a b Δ w = made (ap (λ x. names_block (block x) Δ) w)

-- the scopes behind declarations, by the tests of the node
module _ {u : Tree} (t : Token) (e : Tree) (Δ : Stages.Open) (w : u ≡ under t e) where
  at_under : (b c d : Bool) → b ≡ is t.kind DoubleAmpersand → c ≡ is t.kind TypeWord → d ≡ is t.kind Name →
      open_declarations (declarations u DeclarationTrees.no_declaration) Δ ≡ open_declarations (under_tree t e DeclarationTrees.no_declaration b c d) Δ
  at_under b c d h k g =
      ap (λ x. open_declarations (declarations x DeclarationTrees.no_declaration) Δ) w
      ∙ ap (λ x. open_declarations (under_tree t e DeclarationTrees.no_declaration x (is t.kind TypeWord) (is t.kind Name)) Δ) (sym h)
      ∙ ap (λ x. open_declarations (under_tree t e DeclarationTrees.no_declaration b x (is t.kind Name)) Δ) (sym k)
      ∙ ap (λ x. open_declarations (under_tree t e DeclarationTrees.no_declaration b c x) Δ) (sym g)

  pub opened_amp : t.kind ≡ DoubleAmpersand →
      open_declarations (declarations u DeclarationTrees.no_declaration) Δ ≡ open_declarations (declarations e DeclarationTrees.no_declaration) Δ
  opened_amp k = at_under true (is t.kind TypeWord) (is t.kind Name) (sym (is_kind k)) refl refl

  pub opened_type : t.kind ≡ TypeWord →
      open_declarations (declarations u DeclarationTrees.no_declaration) Δ ≡ added (token_of e).text Δ
  opened_type k = at_under false true (is t.kind Name) (sym (ap (λ k. is k DoubleAmpersand) k)) (sym (is_kind k)) refl

  pub opened_name : t.kind ≡ Name →
      open_declarations (declarations u DeclarationTrees.no_declaration) Δ ≡ added t.text Δ
  opened_name k = at_under false false true (sym (ap (λ k. is k DoubleAmpersand) k)) (sym (ap (λ k. is k TypeWord) k)) (sym (is_kind k))

module _ {u : Tree} (t : Token) (l r : Tree) (Δ : Stages.Open) (w : u ≡ join t l r) where
  at_join : (b c d : Bool) → b ≡ is t.kind DoubleAmpersand → c ≡ is t.kind Semicolon → d ≡ is t.kind ProcWord →
      open_declarations (declarations u DeclarationTrees.no_declaration) Δ ≡ open_declarations (join_tree l r DeclarationTrees.no_declaration b c d) Δ
  at_join b c d h k g =
      ap (λ x. open_declarations (declarations x DeclarationTrees.no_declaration) Δ) w
      ∙ ap (λ x. open_declarations (join_tree l r DeclarationTrees.no_declaration x (is t.kind Semicolon) (is t.kind ProcWord)) Δ) (sym h)
      ∙ ap (λ x. open_declarations (join_tree l r DeclarationTrees.no_declaration b x (is t.kind ProcWord)) Δ) (sym k)
      ∙ ap (λ x. open_declarations (join_tree l r DeclarationTrees.no_declaration b c x) Δ) (sym g)

  pub opened_amp_join : t.kind ≡ DoubleAmpersand →
      open_declarations (declarations u DeclarationTrees.no_declaration) Δ ≡ open_declarations (declarations l DeclarationTrees.no_declaration) Δ
  opened_amp_join k = at_join true (is t.kind Semicolon) (is t.kind ProcWord) (sym (is_kind k)) refl refl

  pub opened_both : t.kind ≡ Semicolon →
      open_declarations (declarations u DeclarationTrees.no_declaration) Δ
      ≡ open_declarations (declarations r DeclarationTrees.no_declaration) (open_declarations (declarations l DeclarationTrees.no_declaration) Δ)
  opened_both k =
      at_join false true (is t.kind ProcWord) (sym (ap (λ k. is k DoubleAmpersand) k)) (sym (is_kind k)) refl ∙ opened_declarations l (declarations r DeclarationTrees.no_declaration) Δ

  pub opened_proc : t.kind ≡ ProcWord →
      open_declarations (declarations u DeclarationTrees.no_declaration) Δ ≡ added (token_of l).text Δ
  opened_proc k = at_join false false true (sym (ap (λ k. is k DoubleAmpersand) k)) (sym (ap (λ k. is k Semicolon) k)) (sym (is_kind k))
