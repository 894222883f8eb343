-- The code of an accepted rule is short.
use Rattle.std.proofs.Common.{◌≡◌, ℕ, zero, suc, ◌+◌, ◌*◌, ◌≤◌, Bool, List, [], ◌∷◌, ◌++◌, subst, arith}
use Rattle.tiny.specs.Tree.{Name, Expression, Statement, Statements, DeclarationTrees, BlockTree}
use Rattle.tiny.specs.Tree as Tree
use Rattle.meaning.specs.Rule.{Value, Argument, Formal}
use Rattle.meaning.specs.Rule as Rule
use Rattle.meaning.specs.Types.{Ty, int, bool, array, struct, Members, no_member, member, size, fits, scalar, Meaning, variable, reference, type_name, procedure, Scope, same_name, meaning_of, number_of, Typed, type_of, Form, place, value, copies, Formed, read_of, named_as, allowed, signature, operand, element_of, selected, field_of, form_of}
use Rattle.meaning.specs.Types as Types
use Rattle.meaning.specs.Statements.{Acted, Blocked, Listed, Declares, Given, test, dropped, onto, by_scalar, argument, aggregate, given_one, join, given, forms_of, calling, called, meant, declare, local, unseen, proc, then, with_actions, scope_of, inside, signature_of, procedure_scope, action_of, actions_of, declarations_of, block_of}
use Rattle.meaning.specs.Statements as Statements
use Rattle.meaning.specs.Sizes.{own_size}
use Rattle.meaning.specs.Code.{place_length, value_length, own_length, arguments_length, action_length, actions_length, block_length, action_procs, actions_procs, declared_procs, block_procs}
use Rattle.meaning.specs.Short.{nodes, nodes_all, statement_nodes, statements_nodes, declarations_nodes, block_nodes, CodeIsShort}
use Rattle.meaning.proofs.Nil.{either}
use Rattle.meaning.proofs.Parts.{IfFormed, IfBlocked, after_form, after_expression, after_block, at_place}
use Rattle.meaning.proofs.Passed.{passed}
use Rattle.meaning.proofs.Accepted.{accepted_sound}
use Rattle.meaning.proofs.Lawful.{program_long}

-- Expressions: at most three instructions a node, a designator's content included.

abbrev ShortForm : Form → ℕ → Type 0
ShortForm (place p) n = place_length p + 1 ≤ 3 * n
ShortForm (value v) n = value_length v ≤ 3 * n
ShortForm (copies p q m) n = place_length p + (place_length q + 1) ≤ 3 * n

abbrev ShortFormed : ℕ → Formed → Type 0
ShortFormed n = IfFormed (λ f t. ShortForm f n)

read_short : (f : Form) (n : ℕ) → 1 ≤ n → ShortForm f n → value_length (read_of f) ≤ 3 * n
read_short (place p) n l h = h
read_short (value v) n l h = h
read_short (copies p q m) n l h = omega arith

one_node : (e : Expression) → 1 ≤ nodes e
one_node (Tree.number at z) = omega arith
one_node (Tree.truth at b) = omega arith
one_node (Tree.name at x) = omega arith
one_node (Tree.assign at d e) = omega arith
one_node (Tree.binary at o d e) = omega arith
one_node (Tree.unary at o e) = omega arith
one_node (Tree.index at d e) = omega arith
one_node (Tree.select at d x) = omega arith

name_short : (i : ℕ) (m : Meaning) → ShortFormed 1 (named_as i m)
name_short i (variable t) = omega arith
name_short i (reference t) = omega arith
name_short i (type_name t) = tt
name_short i (procedure fs ts) = tt
name_short i Meaning.unsound = tt

element_short : (n m : ℕ) (t : Ty) (f : Form) (v : Value) (b : Bool) → ShortForm f n → value_length v ≤ 3 * m → ShortFormed (1 + n + m) (element_of t f v b)
element_short n m int f v b h k = tt
element_short n m bool f v b h k = tt
element_short n m (array t s) f v b h k =
    either (ShortFormed (1 + n + m)) b _ _ (λ _. at_place (λ f. ShortForm f n) (ShortFormed (1 + n + m)) f _ tt h (λ p i. omega arith)) tt
element_short n m (struct ms) f v b h k = tt

selected_short : (n : ℕ) (ms : Members) (x : Name) (f : Form) (k : ℕ) → ShortForm f n → ShortFormed (1 + n) (selected ms x f k)
selected_short n no_member x f k h = tt
selected_short n (member y t ms) x f k h =
    either (ShortFormed (1 + n)) (same_name x y) _ _ (λ _. at_place (λ f. ShortForm f n) (ShortFormed (1 + n)) f _ tt h (λ p i. omega arith)) (selected_short n ms x f (k + size t) h)

field_short : (n : ℕ) (t : Ty) (x : Name) (f : Form) → ShortForm f n → ShortFormed (1 + n) (field_of t x f)
field_short n int x f h = tt
field_short n bool x f h = tt
field_short n (array t m) x f h = tt
field_short n (struct ms) x f h = selected_short n ms x f 0 h

form_short : (e : Expression) (Γ : Scope) → ShortFormed (nodes e) (form_of e Γ)
form_short (Tree.number at z) Γ = omega arith
form_short (Tree.truth at b) Γ = omega arith
form_short (Tree.name at x) Γ = name_short (number_of x Γ) (meaning_of x Γ)
form_short (Tree.assign at d e) Γ =
    let Q : Formed → Type 0 = ShortFormed (1 + nodes d + nodes e) in
    after_form (λ f t. ShortForm f (nodes d)) Q (form_of d Γ) _ tt (form_short d Γ) (λ f t h. after_form (λ f t. ShortForm f (nodes e)) Q (form_of e Γ) _ tt (form_short e Γ) (λ g u i.
    either Q (fits t u) _ _ (λ _. at_place (λ f. ShortForm f (nodes d)) Q f _ tt h (λ p j.
    either Q (scalar t) _ _ (λ _. let k = read_short g (nodes e) (one_node e) i in omega arith) (at_place (λ f. ShortForm f (nodes e)) Q g _ tt i (λ q k. omega arith)))) tt))
form_short (Tree.binary at o d e) Γ =
    let Q : Formed → Type 0 = ShortFormed (1 + nodes d + nodes e) in
    after_form (λ f t. ShortForm f (nodes d)) Q (form_of d Γ) _ tt (form_short d Γ) (λ f t h. after_form (λ f t. ShortForm f (nodes e)) Q (form_of e Γ) _ tt (form_short e Γ) (λ g u i.
    either Q (allowed (signature o) t u) _ _ (λ _. let j = read_short f (nodes d) (one_node d) h in let k = read_short g (nodes e) (one_node e) i in omega arith) tt))
form_short (Tree.unary at o e) Γ =
    let Q : Formed → Type 0 = ShortFormed (1 + nodes e) in
    after_form (λ f t. ShortForm f (nodes e)) Q (form_of e Γ) _ tt (form_short e Γ) (λ f t h. either Q (fits (operand o) t) _ _ (λ _. let k = read_short f (nodes e) (one_node e) h in omega arith) tt)
form_short (Tree.index at d e) Γ =
    let Q : Formed → Type 0 = ShortFormed (1 + nodes d + nodes e) in
    after_form (λ f t. ShortForm f (nodes d)) Q (form_of d Γ) _ tt (form_short d Γ) (λ f t h. after_form (λ f t. ShortForm f (nodes e)) Q (form_of e Γ) _ tt (form_short e Γ) (λ g u i.
    element_short (nodes d) (nodes e) t f (read_of g) (fits int u) h (read_short g (nodes e) (one_node e) i)))
form_short (Tree.select at d x) Γ =
    after_form (λ f t. ShortForm f (nodes d)) (ShortFormed (1 + nodes d)) (form_of d Γ) _ tt (form_short d Γ) (λ f t h. field_short (nodes d) t x f h)

-- Calls: at most six instructions a node of the arguments.

abbrev ShortGiven : ℕ → Given → Type 0
ShortGiven n (Statements.Given.sound xs) = arguments_length xs ≤ 6 * n
ShortGiven n (Statements.Given.broken m) = Unit {0}
ShortGiven n Statements.Given.unsound = Unit {0}

argument_short : (n : ℕ) (f : Formal) (g : Form) (a : Argument) → 1 ≤ n → ShortForm g n → arguments_length (a ∷ []) ≤ 6 * n → ShortGiven n (argument f g a)
argument_short n (Rule.by_value s) g a l h k = k
argument_short n (Rule.by_reference s) (place p) a l h k = omega arith
argument_short n (Rule.by_reference s) (value v) a l h k = tt
argument_short n (Rule.by_reference s) (copies p q m) a l h k = tt

aggregate_short : (n : ℕ) (f : Formal) (g : Form) (t : Ty) → 1 ≤ n → ShortForm g n → ShortGiven n (aggregate f g t)
aggregate_short n f (place p) t l h = argument_short n f (place p) _ l h (omega arith)
aggregate_short n f (value v) t l h = tt
aggregate_short n f (copies p q m) t l h = tt

one_short : (n : ℕ) (f : Formal) (t : Ty) (g : Form) (u : Ty) → 1 ≤ n → ShortForm g n → ShortGiven n (given_one f t g u)
one_short n f t g u l h =
    either (ShortGiven n) (fits t u) _ _ (λ _. either (ShortGiven n) (scalar t) _ _ (λ _. argument_short n f g _ l h (let k = read_short g n l h in omega arith)) (aggregate_short n f g t l h)) tt

arguments_joined : (xs ys : List Argument) → arguments_length (xs ++ ys) ≡ arguments_length xs + arguments_length ys
arguments_joined [] ys = omega arith
arguments_joined (x ∷ xs) ys = let k = arguments_joined xs ys in omega arith

join_short : (n m : ℕ) (x y : Given) → ShortGiven n x → ShortGiven m y → ShortGiven (n + m) (join x y)
join_short n m (Statements.Given.sound xs) (Statements.Given.sound ys) h k = omega (arith, arguments_joined xs ys)
join_short n m (Statements.Given.sound xs) (Statements.Given.broken i) h k = tt
join_short n m (Statements.Given.sound xs) Statements.Given.unsound h k = tt
join_short n m (Statements.Given.broken i) (Statements.Given.sound ys) h k = tt
join_short n m (Statements.Given.broken i) (Statements.Given.broken j) h k = either (ShortGiven (n + m)) _ (Statements.Given.broken j) (Statements.Given.broken i) (λ _. tt) tt
join_short n m (Statements.Given.broken i) Statements.Given.unsound h k = tt
join_short n m Statements.Given.unsound y h k = tt

given_short : (Γ : Scope) (fs : List Formal) (ts : List Ty) (es : List Expression) → ShortGiven (nodes_all es) (given fs ts (forms_of es Γ))
given_short Γ [] ts [] = omega arith
given_short Γ [] ts (e ∷ es) = more (form_of e Γ) (given_short Γ [] ts es)
  where
    more : (x : Formed) → ShortGiven (nodes_all es) (given [] ts (forms_of es Γ)) → ShortGiven (nodes e + nodes_all es) (given [] ts (x ∷ forms_of es Γ))
    more (Types.Formed.sound g u) h = join_short (nodes e) (nodes_all es) (Statements.Given.broken 13) (given [] ts (forms_of es Γ)) tt h
    more (Types.Formed.broken n) h = tt
    more Types.Formed.unsound h = tt
given_short Γ (f ∷ fs) [] es = tt
given_short Γ (f ∷ fs) (t ∷ ts) [] = tt
given_short Γ (f ∷ fs) (t ∷ ts) (e ∷ es) = more (form_of e Γ) (form_short e Γ) (given_short Γ fs ts es)
  where
    more : (x : Formed) → ShortFormed (nodes e) x → ShortGiven (nodes_all es) (given fs ts (forms_of es Γ)) → ShortGiven (nodes e + nodes_all es) (given (f ∷ fs) (t ∷ ts) (x ∷ forms_of es Γ))
    more (Types.Formed.sound g u) i h = join_short (nodes e) (nodes_all es) (given_one f t g u) (given fs ts (forms_of es Γ)) (one_short (nodes e) f t g u (one_node e) i) h
    more (Types.Formed.broken n) i h = tt
    more Types.Formed.unsound i h = tt

-- Statements, with the procedures inside: at most six instructions a node.

abbrev ShortActed : ℕ → Acted → Type 0
ShortActed n (Statements.Acted.sound a) = action_length a + action_procs a ≤ 6 * n
ShortActed n (Statements.Acted.broken m) = Unit {0}
ShortActed n Statements.Acted.unsound = Unit {0}

abbrev ShortListed : ℕ → Listed → Type 0
ShortListed n (Statements.Listed.sound xs) = actions_length xs + actions_procs xs ≤ 6 * n
ShortListed n Statements.Listed.unsound = Unit {0}

abbrev ShortDeclares : ℕ → Declares → Type 0
ShortDeclares n (Statements.Declares.sound ds) = declared_procs ds ≤ 6 * n
ShortDeclares n Statements.Declares.unsound = Unit {0}

abbrev ShortBlocked : ℕ → Blocked → Type 0
ShortBlocked n = IfBlocked (λ b. block_length b + block_procs b ≤ 6 * n)

act_test : (Q : Acted → Type 0) (e : Expression) (Γ : Scope) (k : Value → Acted) → Q Statements.Acted.unsound → Q (Statements.Acted.broken 11) →
    ((v : Value) → value_length v ≤ 3 * nodes e → Q (k v)) → Q (test (form_of e Γ) k)
act_test Q e Γ k u w g =
    after_expression (λ f t. ShortForm f (nodes e)) Q (form_of e Γ) _ u (form_short e Γ) (λ f t h. either Q (fits bool t) _ _ (λ _. g (read_of f) (read_short f (nodes e) (one_node e) h)) w)

dropped_short : (n : ℕ) (f : Form) → ShortForm f n → action_length (dropped f) + action_procs (dropped f) ≤ 6 * (1 + n)
dropped_short n (place p) h = omega arith
dropped_short n (value v) h = omega arith
dropped_short n (copies p q m) h = omega arith

read_row : (n : ℕ) (f : Form) (t : Ty) → ShortForm f n → ShortActed (1 + n) (by_scalar t (onto f (λ p. Statements.Acted.sound (Rule.read_int p))) (onto f (λ p. Statements.Acted.sound (Rule.read_bool p))))
read_row n (place p) int h = omega arith
read_row n (place p) bool h = omega arith
read_row n (value v) int h = tt
read_row n (value v) bool h = tt
read_row n (copies p q m) int h = tt
read_row n (copies p q m) bool h = tt
read_row n f (array t m) h = tt
read_row n f (struct ms) h = tt

write_row : (n : ℕ) (f : Form) (t : Ty) → 1 ≤ n → ShortForm f n → ShortActed (1 + n) (by_scalar t (Statements.Acted.sound (Rule.write_int (read_of f))) (Statements.Acted.sound (Rule.write_bool (read_of f))))
write_row n f int l h = let k = read_short f n l h in omega arith
write_row n f bool l h = let k = read_short f n l h in omega arith
write_row n f (array t m) l h = tt
write_row n f (struct ms) l h = tt

calling_short : (n i : ℕ) (g : Given) → ShortGiven n g → ShortActed (1 + n) (calling i g)
calling_short n i (Statements.Given.sound xs) h = omega arith
calling_short n i (Statements.Given.broken m) h = tt
calling_short n i Statements.Given.unsound h = tt

called_short : (i : ℕ) (m : Meaning) (es : List Expression) (Γ : Scope) → ShortActed (1 + nodes_all es) (called i m (forms_of es Γ))
called_short i (variable t) es Γ = tt
called_short i (reference t) es Γ = tt
called_short i (type_name t) es Γ = tt
called_short i (procedure fs ts) es Γ = calling_short (nodes_all es) i (given fs ts (forms_of es Γ)) (given_short Γ fs ts es)
called_short i Meaning.unsound es Γ = tt

then_short : (n m : ℕ) (a : Acted) (xs : Listed) → ShortActed n a → ShortListed m xs → ShortListed (n + m) (then a xs)
then_short n m (Statements.Acted.sound a) (Statements.Listed.sound xs) h k = omega arith
then_short n m (Statements.Acted.sound a) Statements.Listed.unsound h k = tt
then_short n m (Statements.Acted.broken i) xs h k = tt
then_short n m Statements.Acted.unsound xs h k = tt

local_short : (n : ℕ) (t : Typed) (ds : Declares) → ShortDeclares n ds → ShortDeclares n (local t ds)
local_short n (Types.Typed.sound t) (Statements.Declares.sound ds) h = h
local_short n (Types.Typed.sound t) Statements.Declares.unsound h = tt
local_short n (Types.Typed.broken m) ds h = tt
local_short n Types.Typed.unsound ds h = tt

unseen_short : (n : ℕ) (t : Typed) (ds : Declares) → ShortDeclares n ds → ShortDeclares n (unseen t ds)
unseen_short n (Types.Typed.sound t) ds h = h
unseen_short n (Types.Typed.broken m) ds h = tt
unseen_short n Types.Typed.unsound ds h = tt

proc_short : (n m : ℕ) (s : Meaning) (b : Blocked) (ds : Declares) → ShortBlocked n b → ShortDeclares m ds → ShortDeclares (1 + n + m) (proc s b ds)
proc_short n m (procedure fs ts) (Statements.Blocked.sound b) (Statements.Declares.sound ds) h k = omega arith
proc_short n m (procedure fs ts) (Statements.Blocked.sound b) Statements.Declares.unsound h k = tt
proc_short n m (procedure fs ts) Statements.Blocked.unsound ds h k = tt
proc_short n m (variable t) b ds h k = tt
proc_short n m (reference t) b ds h k = tt
proc_short n m (type_name t) b ds h k = tt
proc_short n m Meaning.unsound b ds h k = tt

own_short : (n : ℕ) → own_length n ≤ 1
own_short zero = omega arith
own_short (suc n) = omega arith

whole_short : (n m : ℕ) (ds : Declares) (xs : Listed) → ShortDeclares n ds → ShortListed m xs → ShortBlocked (1 + n + m) (with_actions ds xs)
whole_short n m (Statements.Declares.sound ds) (Statements.Listed.sound xs) h k = let o = own_short (own_size ds) in omega arith
whole_short n m (Statements.Declares.sound ds) Statements.Listed.unsound h k = tt
whole_short n m Statements.Declares.unsound xs h k = tt

mutual
  action_short : (s : Statement) (Γ : Scope) → ShortActed (statement_nodes s) (action_of s Γ)
  action_short (Tree.eval at e) Γ = after_expression (λ f t. ShortForm f (nodes e)) (ShortActed (1 + nodes e)) (form_of e Γ) _ tt (form_short e Γ) (λ f t h. dropped_short (nodes e) f h)
  action_short (Tree.if_then at e b) Γ =
      let Q : Acted → Type 0 = ShortActed (1 + nodes e + block_nodes b) in
      after_block (λ x. block_length x + block_procs x ≤ 6 * block_nodes b) Q (block_of b Γ) _ tt (block_short b Γ) (λ c h. act_test Q e Γ (λ v. Statements.Acted.sound (Rule.choose v c)) tt tt (λ v k. omega arith))
  action_short (Tree.if_else at e b c) Γ =
      let Q : Acted → Type 0 = ShortActed (1 + nodes e + block_nodes b + block_nodes c) in
      after_block (λ x. block_length x + block_procs x ≤ 6 * block_nodes b) Q (block_of b Γ) _ tt (block_short b Γ) (λ b' h. after_block (λ x. block_length x + block_procs x ≤ 6 * block_nodes c) Q (block_of c Γ) _ tt (block_short c Γ) (λ c' i.
      act_test Q e Γ (λ v. Statements.Acted.sound (Rule.choose_else v b' c')) tt tt (λ v k. omega arith)))
  action_short (Tree.while at e b) Γ =
      let Q : Acted → Type 0 = ShortActed (1 + nodes e + block_nodes b) in
      after_block (λ x. block_length x + block_procs x ≤ 6 * block_nodes b) Q (block_of b Γ) _ tt (block_short b Γ) (λ c h. act_test Q e Γ (λ v. Statements.Acted.sound (Rule.repeat v c)) tt tt (λ v k. omega arith))
  action_short (Tree.read at e) Γ = after_expression (λ f t. ShortForm f (nodes e)) (ShortActed (1 + nodes e)) (form_of e Γ) _ tt (form_short e Γ) (λ f t h. read_row (nodes e) f t h)
  action_short (Tree.write at e) Γ = after_expression (λ f t. ShortForm f (nodes e)) (ShortActed (1 + nodes e)) (form_of e Γ) _ tt (form_short e Γ) (λ f t h. write_row (nodes e) f t (one_node e) h)
  action_short (Tree.nl at) Γ = omega arith
  action_short (Tree.call at here x es) Γ = called_short (number_of x Γ) (meaning_of x Γ) es Γ
  action_short (Tree.compound b) Γ = after_block (λ x. block_length x + block_procs x ≤ 6 * block_nodes b) (ShortActed (block_nodes b)) (block_of b Γ) _ tt (block_short b Γ) (λ c h. h)

  actions_short : (ss : Statements) (Γ : Scope) → ShortListed (statements_nodes ss) (actions_of ss Γ)
  actions_short Tree.no_statement Γ = omega arith
  actions_short (Tree.statement s ss) Γ = then_short (statement_nodes s) (statements_nodes ss) (action_of s Γ) (actions_of ss Γ) (action_short s Γ) (actions_short ss Γ)

  declarations_short : (ds : DeclarationTrees) (Γ : Scope) → ShortDeclares (declarations_nodes ds) (declarations_of ds Γ)
  declarations_short Tree.no_declaration Γ = omega arith
  declarations_short (Tree.variable t at x ds) Γ = local_short (declarations_nodes ds) (type_of t Γ) _ (declarations_short ds (declare x (meant (type_of t Γ) variable) Γ))
  declarations_short (Tree.type_name t at x ds) Γ = unseen_short (declarations_nodes ds) (type_of t Γ) _ (declarations_short ds (declare x (meant (type_of t Γ) type_name) Γ))
  declarations_short (Tree.procedure at x fs b ds) Γ =
      proc_short (block_nodes b) (declarations_nodes ds) (signature_of x fs Γ) (block_of b (inside x fs Γ)) _ (block_short b (inside x fs Γ)) (declarations_short ds (procedure_scope x fs Γ))

  block_short : (b : BlockTree) (Γ : Scope) → ShortBlocked (block_nodes b) (block_of b Γ)
  block_short (Tree.block at ds ss) Γ = whole_short (declarations_nodes ds) (statements_nodes ss) (declarations_of ds Γ) (actions_of ss (scope_of ds Γ)) (declarations_short ds Γ) (actions_short ss (scope_of ds Γ))

pub code_short : CodeIsShort
code_short t b e =
    let h = subst (ShortBlocked (block_nodes t)) (passed t b e).made (block_short t []) in
    let l = program_long b (accepted_sound t b e).fits in
    omega arith
