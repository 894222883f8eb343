-- What the checks find sound is well typed.
use Rattle.std.proofs.Common.{◌≡◌, ℕ, Bool, true, false, cond, T, ◌⊎◌, List, [], ◌∷◌, ◌++◌, refl, subst, inl, inr}
use Rattle.tiny.specs.Tree.{Name, TypeTree, Expression, Formals, Statement, Statements, DeclarationTrees, BlockTree}
use Rattle.tiny.specs.Tree as Tree
use Rattle.meaning.specs.Rule.{Value, Argument, Formal}
use Rattle.meaning.specs.Rule as Rule
use Rattle.meaning.specs.Types.{Ty, int, bool, array, struct, fits, scalar, Meaning, variable, reference, type_name, procedure, Scope, meaning_of, number_of, Typed, type_of, Form, place, value, copies, Formed, read_of, form_of}
use Rattle.meaning.specs.Types as Types
use Rattle.meaning.specs.Statements.{Acted, Blocked, Listed, Given, test, onto, by_scalar, argument, aggregate, given_one, join, given, forms_of, calling, called, meant, declare, passed, still, with_formal, signature_from, formals_from, plain, local, unseen, proc, then, with_actions, scope_of, inside, signature_of, procedure_scope, action_of, actions_of, declarations_of, block_of}
use Rattle.meaning.specs.Statements as Statements
use Rattle.meaning.specs.Typing.{IsType, Designator, HasType, Passes, no_argument, an_argument, AreFormals, no_formals, a_formal, IsFine, eval_fine, if_fine, if_else_fine, while_fine, read_fine, write_fine, nl_fine, call_fine, compound_fine, AreFine, no_statements, a_statement, Declares, no_declarations, a_type, a_procedure, FineBlock, block_fine, AcceptedIsTyped}
use Rattle.meaning.specs.Typing as Typing
use Rattle.meaning.proofs.Nil.{either}
use Rattle.meaning.proofs.Parts.{IfBlocked, after_expression, after_block}
use Rattle.meaning.proofs.Passed.{passed as passes}
use Rattle.meaning.proofs.Slots.{Paired, Proper, AllProper, proper_meaning}
use Rattle.meaning.proofs.Signatures.{proper_procedure, proper_inside, proper_local, proper_type, proper_scope}
use Rattle.meaning.proofs.TypableForms.{TypedAs, type_typed, IsPlace, Well, FormedAs, fits_bool, form_typed}

-- Calls.

abbrev AllFormed : Scope → List Expression → List Formed → Type 0
AllFormed Γ [] [] = Unit {0}
AllFormed Γ [] (x ∷ xs) = ⊥
AllFormed Γ (e ∷ es) [] = ⊥
AllFormed Γ (e ∷ es) (x ∷ xs) = FormedAs Γ e x × AllFormed Γ es xs

forms_typed : (es : List Expression) (Γ : Scope) → AllFormed Γ es (forms_of es Γ)
forms_typed [] Γ = tt
forms_typed (e ∷ es) Γ = (form_typed e Γ, forms_typed es Γ)

abbrev GivenAs : Scope → List Formal → List Ty → List Expression → Given → Type 0
GivenAs Γ fs ts es (Statements.Given.sound xs) = Passes Γ fs ts es
GivenAs Γ fs ts es (Statements.Given.broken n) = Unit {0}
GivenAs Γ fs ts es Statements.Given.unsound = Unit {0}

abbrev OneAs : Formal → Ty → Expression → Given → Type 0
OneAs f t e (Statements.Given.sound xs) = Typing.Given f t e
OneAs f t e (Statements.Given.broken n) = Unit {0}
OneAs f t e Statements.Given.unsound = Unit {0}

argument_given : (f : Formal) (t : Ty) (e : Expression) (g : Form) (a : Argument) → (IsPlace g → Designator e) → T (scalar t) ⊎ Designator e → OneAs f t e (argument f g a)
argument_given (Rule.by_value s) t e g a p h = h
argument_given (Rule.by_reference s) t e (place q) a p h = p tt
argument_given (Rule.by_reference s) t e (value v) a p h = tt
argument_given (Rule.by_reference s) t e (copies q r n) a p h = tt

aggregate_given : (f : Formal) (t : Ty) (e : Expression) (g : Form) → (IsPlace g → Designator e) → OneAs f t e (aggregate f g t)
aggregate_given f t e (place q) p = argument_given f t e (place q) _ p (inr (p tt))
aggregate_given f t e (value v) p = tt
aggregate_given f t e (copies q r n) p = tt

one_given : (f : Formal) (t : Ty) (e : Expression) (g : Form) (u : Ty) → (IsPlace g → Designator e) → OneAs f t e (given_one f t g u)
one_given f t e g u p =
    either (OneAs f t e) (fits t u) _ _ (λ ok. either (OneAs f t e) (scalar t) _ _ (λ s. argument_given f t e g _ p (inl s)) (aggregate_given f t e g p)) tt

-- an argument that is sound has a type that fits
abbrev SoundOnly : Type 0 → Given → Type 0
SoundOnly P (Statements.Given.sound xs) = P
SoundOnly P (Statements.Given.broken n) = Unit {0}
SoundOnly P Statements.Given.unsound = Unit {0}

argument_any : (P : Type 0) (f : Formal) (g : Form) (a : Argument) → P → SoundOnly P (argument f g a)
argument_any P (Rule.by_value s) g a h = h
argument_any P (Rule.by_reference s) (place q) a h = h
argument_any P (Rule.by_reference s) (value v) a h = tt
argument_any P (Rule.by_reference s) (copies q r n) a h = tt

aggregate_any : (P : Type 0) (f : Formal) (g : Form) (t : Ty) → P → SoundOnly P (aggregate f g t)
aggregate_any P f (place q) t h = argument_any P f (place q) _ h
aggregate_any P f (value v) t h = tt
aggregate_any P f (copies q r n) t h = tt

one_fits : (f : Formal) (t : Ty) (g : Form) (u : Ty) → SoundOnly (T (fits t u)) (given_one f t g u)
one_fits f t g u = go (fits t u)
  where
    go : (b : Bool) → SoundOnly (T b) (cond b (cond (scalar t) (argument f g (Rule.value (read_of g))) (aggregate f g t)) (Statements.Given.broken 11))
    go true = either (SoundOnly (T true)) (scalar t) _ _ (λ _. argument_any (T true) f g _ tt) (aggregate_any (T true) f g t tt)
    go false = tt

join_given : (Γ : Scope) (f : Formal) (t u : Ty) (e : Expression) (fs : List Formal) (ts : List Ty) (es : List Expression) (x y : Given) → HasType Γ e u →
    OneAs f t e x → SoundOnly (T (fits t u)) x → GivenAs Γ fs ts es y → GivenAs Γ (f ∷ fs) (t ∷ ts) (e ∷ es) (join x y)
join_given Γ f t u e fs ts es (Statements.Given.sound xs) (Statements.Given.sound ys) h o k r = an_argument h k o r
join_given Γ f t u e fs ts es (Statements.Given.sound xs) (Statements.Given.broken n) h o k r = tt
join_given Γ f t u e fs ts es (Statements.Given.sound xs) Statements.Given.unsound h o k r = tt
join_given Γ f t u e fs ts es (Statements.Given.broken m) (Statements.Given.sound ys) h o k r = tt
join_given Γ f t u e fs ts es (Statements.Given.broken m) (Statements.Given.broken n) h o k r =
    either (GivenAs Γ (f ∷ fs) (t ∷ ts) (e ∷ es)) _ (Statements.Given.broken n) (Statements.Given.broken m) (λ _. tt) tt
join_given Γ f t u e fs ts es (Statements.Given.broken m) Statements.Given.unsound h o k r = tt
join_given Γ f t u e fs ts es Statements.Given.unsound y h o k r = tt

-- more arguments than formals
join_more : (Γ : Scope) (fs : List Formal) (ts : List Ty) (es : List Expression) (y : Given) → GivenAs Γ fs ts es (join (Statements.Given.broken 13) y)
join_more Γ fs ts es (Statements.Given.sound ys) = tt
join_more Γ fs ts es (Statements.Given.broken n) = either (GivenAs Γ fs ts es) _ (Statements.Given.broken n) (Statements.Given.broken 13) (λ _. tt) tt
join_more Γ fs ts es Statements.Given.unsound = tt

given_typed : (Γ : Scope) (fs : List Formal) (ts : List Ty) (es : List Expression) (gs : List Formed) → Paired fs ts → AllFormed Γ es gs → GivenAs Γ fs ts es (given fs ts gs)
given_typed Γ [] [] [] [] q h = no_argument
given_typed Γ [] (t ∷ ts) es gs q h = absurd q
given_typed Γ [] [] [] (g ∷ gs) q h = absurd h
given_typed Γ [] [] (e ∷ es) [] q h = absurd h
given_typed Γ [] [] (e ∷ es) (Types.Formed.sound g u ∷ gs) q h = join_more Γ [] [] (e ∷ es) (given [] [] gs)
given_typed Γ [] [] (e ∷ es) (Types.Formed.broken n ∷ gs) q h = tt
given_typed Γ [] [] (e ∷ es) (Types.Formed.unsound ∷ gs) q h = tt
given_typed Γ (f ∷ fs) [] es gs q h = absurd q
given_typed Γ (f ∷ fs) (t ∷ ts) es [] q h = tt
given_typed Γ (f ∷ fs) (t ∷ ts) [] (g ∷ gs) q h = absurd h
given_typed Γ (f ∷ fs) (t ∷ ts) (e ∷ es) (Types.Formed.sound g u ∷ gs) q h =
    join_given Γ f t u e fs ts es (given_one f t g u) (given fs ts gs) h.0.0 (one_given f t e g u h.0.1) (one_fits f t g u) (given_typed Γ fs ts es gs q.1 h.1)
given_typed Γ (f ∷ fs) (t ∷ ts) (e ∷ es) (Types.Formed.broken n ∷ gs) q h = tt
given_typed Γ (f ∷ fs) (t ∷ ts) (e ∷ es) (Types.Formed.unsound ∷ gs) q h = tt

-- Statements.

abbrev ActedAs : Scope → Statement → Acted → Type 0
ActedAs Γ s (Statements.Acted.sound a) = IsFine Γ s
ActedAs Γ s (Statements.Acted.broken n) = Unit {0}
ActedAs Γ s Statements.Acted.unsound = Unit {0}

abbrev BlockedAs : Scope → BlockTree → Blocked → Type 0
BlockedAs Γ b = IfBlocked (λ _. FineBlock Γ b)

abbrev ListedAs : Scope → Statements → Listed → Type 0
ListedAs Γ ss (Statements.Listed.sound xs) = AreFine Γ ss
ListedAs Γ ss Statements.Listed.unsound = Unit {0}

abbrev DeclaresAs : Scope → DeclarationTrees → Scope → Statements.Declares → Type 0
DeclaresAs Γ ds Θ (Statements.Declares.sound xs) = Declares Γ ds Θ
DeclaresAs Γ ds Θ Statements.Declares.unsound = Unit {0}

act_test : (Q : Acted → Type 0) (Γ : Scope) (e : Expression) (x : Formed) (k : Value → Acted) → Q Statements.Acted.unsound → Q (Statements.Acted.broken 11) → FormedAs Γ e x →
    ((v : Value) → HasType Γ e bool → Q (k v)) → Q (test x k)
act_test Q Γ e x k u w h g =
    after_expression (Well Γ e) Q x _ u h (λ f t (i, p). either Q (fits bool t) _ _ (λ ok. g (read_of f) (subst (λ (y : Ty). HasType Γ e y) (fits_bool t ok) i)) w)

read_typed : (Γ : Scope) (at : ℕ) (e : Expression) (f : Form) (t : Ty) → HasType Γ e t → (IsPlace f → Designator e) →
    ActedAs Γ (Tree.read at e) (by_scalar t (onto f (λ p. Statements.Acted.sound (Rule.read_int p))) (onto f (λ p. Statements.Acted.sound (Rule.read_bool p))))
read_typed Γ at e (place p) int h w = read_fine h tt (w tt)
read_typed Γ at e (place p) bool h w = read_fine h tt (w tt)
read_typed Γ at e (value v) int h w = tt
read_typed Γ at e (value v) bool h w = tt
read_typed Γ at e (copies p q n) int h w = tt
read_typed Γ at e (copies p q n) bool h w = tt
read_typed Γ at e f (array t n) h w = tt
read_typed Γ at e f (struct ms) h w = tt

write_typed : (Γ : Scope) (at : ℕ) (e : Expression) (f : Form) (t : Ty) → HasType Γ e t →
    ActedAs Γ (Tree.write at e) (by_scalar t (Statements.Acted.sound (Rule.write_int (read_of f))) (Statements.Acted.sound (Rule.write_bool (read_of f))))
write_typed Γ at e f int h = write_fine h tt
write_typed Γ at e f bool h = write_fine h tt
write_typed Γ at e f (array t n) h = tt
write_typed Γ at e f (struct ms) h = tt

calling_typed : (Γ : Scope) (at here : ℕ) (x : Name) (es : List Expression) (fs : List Formal) (ts : List Ty) (i : ℕ) (g : Given) → meaning_of x Γ ≡ procedure fs ts → GivenAs Γ fs ts es g →
    ActedAs Γ (Tree.call at here x es) (calling i g)
calling_typed Γ at here x es fs ts i (Statements.Given.sound xs) e h = call_fine e h
calling_typed Γ at here x es fs ts i (Statements.Given.broken n) e h = tt
calling_typed Γ at here x es fs ts i Statements.Given.unsound e h = tt

called_typed : (Γ : Scope) (at here : ℕ) (x : Name) (es : List Expression) (i : ℕ) (m : Meaning) → meaning_of x Γ ≡ m → Proper m → ActedAs Γ (Tree.call at here x es) (called i m (forms_of es Γ))
called_typed Γ at here x es i (variable t) e p = tt
called_typed Γ at here x es i (reference t) e p = tt
called_typed Γ at here x es i (type_name t) e p = tt
called_typed Γ at here x es i (procedure fs ts) e p = calling_typed Γ at here x es fs ts i (given fs ts (forms_of es Γ)) e (given_typed Γ fs ts es (forms_of es Γ) p (forms_typed es Γ))
called_typed Γ at here x es i Meaning.unsound e p = tt

-- Declarations.

abbrev FormalsAs : Scope → Name → Formals → Scope → Scope → Meaning → Type 0
FormalsAs Γ f fs Δ Θ (variable t) = Unit {0}
FormalsAs Γ f fs Δ Θ (reference t) = Unit {0}
FormalsAs Γ f fs Δ Θ (type_name t) = Unit {0}
FormalsAs Γ f fs Δ Θ (procedure ls ts) = AreFormals Γ f fs Δ Θ ls ts
FormalsAs Γ f fs Δ Θ Meaning.unsound = Unit {0}

formal_typed : (Γ : Scope) (f : Name) (e : TypeTree) (r : Bool) (at : ℕ) (x : Name) (fs : Formals) (Δ Θ : Scope) (u : Ty) (m : Meaning) → IsType (Δ ++ declare f plain Γ) e u → FormalsAs Γ f fs (declare x (passed r u) Δ) Θ m →
    FormalsAs Γ f (Tree.formal e r at x fs) Δ Θ (with_formal r (Types.Typed.sound u) m)
formal_typed Γ f e r at x fs Δ Θ u (variable t) h k = tt
formal_typed Γ f e r at x fs Δ Θ u (reference t) h k = tt
formal_typed Γ f e r at x fs Δ Θ u (type_name t) h k = tt
formal_typed Γ f e r at x fs Δ Θ u (procedure ls ts) h k = a_formal h k
formal_typed Γ f e r at x fs Δ Θ u Meaning.unsound h k = tt

formals_typed : (fs : Formals) (f : Name) (Δ Γ : Scope) → FormalsAs Γ f fs Δ (formals_from fs f plain Δ Γ) (signature_from fs f plain Δ Γ)
formals_typed Tree.no_formal f Δ Γ = no_formals
formals_typed (Tree.formal e r at x fs) f Δ Γ = go (type_of e (Δ ++ declare f plain Γ)) (type_typed e (Δ ++ declare f plain Γ)) (λ Δ'. formals_typed fs f Δ' Γ)
  where
    go : (t : Typed) → TypedAs (Δ ++ declare f plain Γ) e t → ((Δ' : Scope) → FormalsAs Γ f fs Δ' (formals_from fs f plain Δ' Γ) (signature_from fs f plain Δ' Γ)) →
        FormalsAs Γ f (Tree.formal e r at x fs) Δ (formals_from fs f (still plain t) (declare x (meant t (passed r)) Δ) Γ) (with_formal r t (signature_from fs f (still plain t) (declare x (meant t (passed r)) Δ) Γ))
    go (Types.Typed.sound u) h k = formal_typed Γ f e r at x fs Δ _ u (signature_from fs f plain (declare x (passed r u) Δ) Γ) h (k (declare x (passed r u) Δ))
    go (Types.Typed.broken n) h k = tt
    go Types.Typed.unsound h k = tt

local_typed : (Γ : Scope) (e : TypeTree) (at : ℕ) (x : Name) (ds : DeclarationTrees) (Θ : Scope) (t : Typed) (xs : Statements.Declares) → TypedAs Γ e t → DeclaresAs (declare x (meant t variable) Γ) ds Θ xs →
    DeclaresAs Γ (Tree.variable e at x ds) Θ (local t xs)
local_typed Γ e at x ds Θ (Types.Typed.sound u) (Statements.Declares.sound xs) h k = Typing.Declares.a_variable h k
local_typed Γ e at x ds Θ (Types.Typed.sound u) Statements.Declares.unsound h k = tt
local_typed Γ e at x ds Θ (Types.Typed.broken n) xs h k = tt
local_typed Γ e at x ds Θ Types.Typed.unsound xs h k = tt

unseen_typed : (Γ : Scope) (e : TypeTree) (at : ℕ) (x : Name) (ds : DeclarationTrees) (Θ : Scope) (t : Typed) (xs : Statements.Declares) → TypedAs Γ e t → DeclaresAs (declare x (meant t type_name) Γ) ds Θ xs →
    DeclaresAs Γ (Tree.type_name e at x ds) Θ (unseen t xs)
unseen_typed Γ e at x ds Θ (Types.Typed.sound u) (Statements.Declares.sound xs) h k = a_type h k
unseen_typed Γ e at x ds Θ (Types.Typed.sound u) Statements.Declares.unsound h k = tt
unseen_typed Γ e at x ds Θ (Types.Typed.broken n) xs h k = tt
unseen_typed Γ e at x ds Θ Types.Typed.unsound xs h k = tt

proc_typed : (Γ : Scope) (at : ℕ) (x : Name) (fs : Formals) (b : BlockTree) (ds : DeclarationTrees) (Δ Θ : Scope) (m : Meaning) (c : Blocked) (xs : Statements.Declares) → FormalsAs Γ x fs [] Δ m → BlockedAs (Δ ++ declare x m Γ) b c →
    DeclaresAs (declare x m Γ) ds Θ xs → DeclaresAs Γ (Tree.procedure at x fs b ds) Θ (proc m c xs)
proc_typed Γ at x fs b ds Δ Θ (procedure ls ts) (Statements.Blocked.sound c) (Statements.Declares.sound xs) h i k = a_procedure h i k
proc_typed Γ at x fs b ds Δ Θ (procedure ls ts) (Statements.Blocked.sound c) Statements.Declares.unsound h i k = tt
proc_typed Γ at x fs b ds Δ Θ (procedure ls ts) Statements.Blocked.unsound xs h i k = tt
proc_typed Γ at x fs b ds Δ Θ (variable t) c xs h i k = tt
proc_typed Γ at x fs b ds Δ Θ (reference t) c xs h i k = tt
proc_typed Γ at x fs b ds Δ Θ (type_name t) c xs h i k = tt
proc_typed Γ at x fs b ds Δ Θ Meaning.unsound c xs h i k = tt

then_typed : (Γ : Scope) (s : Statement) (ss : Statements) (a : Acted) (xs : Listed) → ActedAs Γ s a → ListedAs Γ ss xs → ListedAs Γ (Tree.statement s ss) (then a xs)
then_typed Γ s ss (Statements.Acted.sound a) (Statements.Listed.sound xs) h k = a_statement h k
then_typed Γ s ss (Statements.Acted.sound a) Statements.Listed.unsound h k = tt
then_typed Γ s ss (Statements.Acted.broken n) xs h k = tt
then_typed Γ s ss Statements.Acted.unsound xs h k = tt

whole_typed : (Γ Θ : Scope) (at : ℕ) (ds : DeclarationTrees) (ss : Statements) (xs : Statements.Declares) (ys : Listed) → DeclaresAs Γ ds Θ xs → ListedAs Θ ss ys → BlockedAs Γ (Tree.block at ds ss) (with_actions xs ys)
whole_typed Γ Θ at ds ss (Statements.Declares.sound xs) (Statements.Listed.sound ys) h k = block_fine h k
whole_typed Γ Θ at ds ss (Statements.Declares.sound xs) Statements.Listed.unsound h k = tt
whole_typed Γ Θ at ds ss Statements.Declares.unsound ys h k = tt

mutual
  action_typed : (s : Statement) (Γ : Scope) → AllProper Γ → ActedAs Γ s (action_of s Γ)
  action_typed (Tree.eval at e) Γ g = after_expression (Well Γ e) (ActedAs Γ (Tree.eval at e)) (form_of e Γ) _ tt (form_typed e Γ) (λ f t (h, p). eval_fine h)
  action_typed (Tree.if_then at e b) Γ g =
      let Q : Acted → Type 0 = ActedAs Γ (Tree.if_then at e b) in
      after_block (λ _. FineBlock Γ b) Q (block_of b Γ) _ tt (block_typed b Γ g) (λ c i. act_test Q Γ e (form_of e Γ) (λ v. Statements.Acted.sound (Rule.choose v c)) tt tt (form_typed e Γ) (λ v h. if_fine h i))
  action_typed (Tree.if_else at e b c) Γ g =
      let Q : Acted → Type 0 = ActedAs Γ (Tree.if_else at e b c) in
      after_block (λ _. FineBlock Γ b) Q (block_of b Γ) _ tt (block_typed b Γ g) (λ b' i. after_block (λ _. FineBlock Γ c) Q (block_of c Γ) _ tt (block_typed c Γ g) (λ c' j.
      act_test Q Γ e (form_of e Γ) (λ v. Statements.Acted.sound (Rule.choose_else v b' c')) tt tt (form_typed e Γ) (λ v h. if_else_fine h i j)))
  action_typed (Tree.while at e b) Γ g =
      let Q : Acted → Type 0 = ActedAs Γ (Tree.while at e b) in
      after_block (λ _. FineBlock Γ b) Q (block_of b Γ) _ tt (block_typed b Γ g) (λ c i. act_test Q Γ e (form_of e Γ) (λ v. Statements.Acted.sound (Rule.repeat v c)) tt tt (form_typed e Γ) (λ v h. while_fine h i))
  action_typed (Tree.read at e) Γ g = after_expression (Well Γ e) (ActedAs Γ (Tree.read at e)) (form_of e Γ) _ tt (form_typed e Γ) (λ f t (h, p). read_typed Γ at e f t h p)
  action_typed (Tree.write at e) Γ g = after_expression (Well Γ e) (ActedAs Γ (Tree.write at e)) (form_of e Γ) _ tt (form_typed e Γ) (λ f t (h, p). write_typed Γ at e f t h)
  action_typed (Tree.nl at) Γ g = nl_fine
  action_typed (Tree.call at here x es) Γ g = called_typed Γ at here x es (number_of x Γ) (meaning_of x Γ) refl (proper_meaning x Γ g)
  action_typed (Tree.compound b) Γ g = after_block (λ _. FineBlock Γ b) (ActedAs Γ (Tree.compound b)) (block_of b Γ) _ tt (block_typed b Γ g) (λ c i. compound_fine i)

  actions_typed : (ss : Statements) (Γ : Scope) → AllProper Γ → ListedAs Γ ss (actions_of ss Γ)
  actions_typed Tree.no_statement Γ g = no_statements
  actions_typed (Tree.statement s ss) Γ g = then_typed Γ s ss (action_of s Γ) (actions_of ss Γ) (action_typed s Γ g) (actions_typed ss Γ g)

  declarations_typed : (ds : DeclarationTrees) (Γ : Scope) → AllProper Γ → DeclaresAs Γ ds (scope_of ds Γ) (declarations_of ds Γ)
  declarations_typed Tree.no_declaration Γ g = no_declarations
  declarations_typed (Tree.variable e at x ds) Γ g =
      local_typed Γ e at x ds _ (type_of e Γ) _ (type_typed e Γ) (declarations_typed ds (declare x (meant (type_of e Γ) variable) Γ) (proper_local x (type_of e Γ) Γ g))
  declarations_typed (Tree.type_name e at x ds) Γ g =
      unseen_typed Γ e at x ds _ (type_of e Γ) _ (type_typed e Γ) (declarations_typed ds (declare x (meant (type_of e Γ) type_name) Γ) (proper_type x (type_of e Γ) Γ g))
  declarations_typed (Tree.procedure at x fs b ds) Γ g =
      proc_typed Γ at x fs b ds (formals_from fs x plain [] Γ) _ (signature_of x fs Γ) (block_of b (inside x fs Γ)) _ (formals_typed fs x [] Γ) (block_typed b (inside x fs Γ) (proper_inside x fs Γ g))
      (declarations_typed ds (procedure_scope x fs Γ) (proper_procedure x fs Γ g))

  block_typed : (b : BlockTree) (Γ : Scope) → AllProper Γ → BlockedAs Γ b (block_of b Γ)
  block_typed (Tree.block at ds ss) Γ g =
      whole_typed Γ (scope_of ds Γ) at ds ss (declarations_of ds Γ) (actions_of ss (scope_of ds Γ)) (declarations_typed ds Γ g) (actions_typed ss (scope_of ds Γ) (proper_scope ds Γ g))

pub accepted_typed : AcceptedIsTyped
accepted_typed t b e = subst (BlockedAs [] t) (passes t b e).made (block_typed t [] tt)
