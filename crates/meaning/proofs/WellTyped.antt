-- What is well typed the checks find sound, and the kinds find no break in it.
use Rattle.std.proofs.Common.{◌≡◌, ℕ, ◌+◌, Bool, true, false, cond, T, ◌⊎◌, List, [], ◌∷◌, ◌++◌, pos, refl, ap, ◌∙◌, inl, inr}
use Rattle.tiny.specs.Tree.{Name, TypeTree, Fields, Expression, Formals, Statement, Statements, DeclarationTrees, BlockTree}
use Rattle.tiny.specs.Tree as Tree
use Rattle.meaning.specs.Rule.{Value, Argument, Formal, Action, Actions, Declarations, Block}
use Rattle.meaning.specs.Rule as Rule
use Rattle.meaning.specs.Types.{Ty, int, bool, array, struct, Members, member, size, fits, scalar, Meaning, variable, type_name, procedure, Scope, meaning_of, number_of, Typed, when_type, as_type, sized, with_member, as_struct, type_of, members_of, Form, place, value, copies, Formed, when_form, on_place, read_of, named_as, allowed, signature, result, operand, assigned, element_of, selected, field_of, form_of}
use Rattle.meaning.specs.Types as Types
use Rattle.meaning.specs.Statements.{Acted, Blocked, Given, when_expression, when_block, test, dropped, onto, by_scalar, argument, aggregate, given_one, join, given, forms_of, calling, called, meant, declare, passed, still, with_formal, signature_from, formals_from, plain, local, unseen, proc, then, with_actions, scope_of, inside, procedure_scope, action_of, actions_of, declarations_of, block_of}
use Rattle.meaning.specs.Statements as Statements
use Rattle.meaning.specs.Stages.{Break, own_type, own_form, own_action, kinds_type, kinds_fields, kinds, kinds_all, callee, kinds_formals, kinds_statement, kinds_statements, kinds_declarations, kinds_block}
use Rattle.meaning.specs.Typing.{IsType, int_is, bool_is, name_is, array_is, struct_is, AreFields, no_fields, a_field, Designator, Has, first_field, later_field, HasType, a_number, a_truth, an_assignment, an_operation, a_prefix, an_element, a_selection, Passes, no_argument, an_argument, AreFormals, no_formals, a_formal, IsFine, eval_fine, if_fine, if_else_fine, while_fine, read_fine, write_fine, nl_fine, call_fine, compound_fine, AreFine, no_statements, a_statement, Declares, no_declarations, a_type, a_procedure, FineBlock, block_fine, TypedIsAccepted}
use Rattle.meaning.specs.Typing as Typing
use Rattle.meaning.proofs.Tracks.{cond_yes}
use Rattle.meaning.proofs.TypableForms.{IsPlace}
use Rattle.meaning.proofs.Accepted.{unbroken}

none : (xs ys : List Break) → xs ≡ [] → ys ≡ [] → xs ++ ys ≡ []
none xs ys p q = ap (λ (z : List Break). z ++ ys) p ∙ q

-- Types.

mutual
  type_found : {Γ : Scope} {e : TypeTree} {t : Ty} → IsType Γ e t → (type_of e Γ ≡ Types.Typed.sound t) × (kinds_type e Γ ≡ [])
  type_found int_is = (refl, refl)
  type_found bool_is = (refl, refl)
  type_found (name_is {at = at} e) = (ap as_type e, ap (λ (m : Meaning). own_type (as_type m) at) e)
  type_found {Γ} (array_is {at = at} {n = n} {e = e} h) =
      let i = type_found h in
      (ap (λ (z : Typed). when_type z (sized (pos n))) i.0, none (kinds_type e Γ) _ i.1 (ap (λ (z : Typed). own_type (when_type z (sized (pos n))) at) i.0))
  type_found (struct_is h) = let i = fields_found h in (ap as_struct i.0, i.1)

  fields_found : {Γ : Scope} {fs : Fields} {ms : Members} → AreFields Γ fs ms → (members_of fs Γ ≡ Types.Membered.sound ms) × (kinds_fields fs Γ ≡ [])
  fields_found no_fields = (refl, refl)
  fields_found {Γ} (a_field {x = x} {e = e} {t = t} {fs = fs} h k) =
      let i = type_found h in
      let j = fields_found k in
      (ap (λ (z : Typed). with_member x z (members_of fs Γ)) i.0 ∙ ap (with_member x (Types.Typed.sound t)) j.0, none (kinds_type e Γ) (kinds_fields fs Γ) i.1 j.1)

-- Expressions.

record Found (Γ : Scope) (e : Expression) (t : Ty) : Type 0 where
  form : Form
  is : form_of e Γ ≡ Types.Formed.sound form t
  designates : Designator e → IsPlace form
  free : kinds e Γ ≡ []

assigned_found : (f g : Form) (t u : Ty) → T (fits t u) → IsPlace f → T (scalar t) ⊎ IsPlace g → (h : Form) × (assigned f t g u ≡ Types.Formed.sound h t) × (IsPlace h → ⊥)
assigned_found (place p) g t u ok w s = ((go s).0, cond_yes (fits t u) _ _ ok ∙ (go s).1, (go s).2)
  where
    go : T (scalar t) ⊎ IsPlace g → (h : Form) × (cond (scalar t) (Types.Formed.sound (value (Rule.store p (read_of g))) t) (on_place g (λ q. Types.Formed.sound (copies p q (size t)) t)) ≡ Types.Formed.sound h t) × (IsPlace h → ⊥)
    go (inl s) = (value (Rule.store p (read_of g)), cond_yes (scalar t) _ _ s, λ z. z)
    go (inr v) = pick (scalar t) g v
      where
        pick : (b : Bool) (g : Form) → IsPlace g → (h : Form) × (cond b (Types.Formed.sound (value (Rule.store p (read_of g))) t) (on_place g (λ q. Types.Formed.sound (copies p q (size t)) t)) ≡ Types.Formed.sound h t) × (IsPlace h → ⊥)
        pick true g v = (value (Rule.store p (read_of g)), refl, λ z. z)
        pick false (place q) v = (copies p q (size t), refl, λ z. z)
        pick false (value x) v = absurd v
        pick false (copies q r n) v = absurd v
assigned_found (value v) g t u ok w s = absurd w
assigned_found (copies p q n) g t u ok w s = absurd w

element_found : (f : Form) (v : Value) (t : Ty) (n : ℕ) → IsPlace f → (h : Form) × (element_of (array t n) f v true ≡ Types.Formed.sound h t) × IsPlace h
element_found (place p) v t n w = (place (Rule.element p v n (size t)), refl, tt)
element_found (value x) v t n w = absurd w
element_found (copies p q m) v t n w = absurd w

selected_found : {ms : Members} {x : Name} {t : Ty} (f : Form) (k : ℕ) → IsPlace f → Has ms x t → (h : Form) × (selected ms x f k ≡ Types.Formed.sound h t) × IsPlace h
selected_found {ms = Types.no_member} (place p) k w h = elim h [ ]
selected_found {ms = member y u ms} {x = x} {t = t} (place p) k w (first_field e) =
    (place (Rule.field p k), ap (λ (b : Bool). cond b (Types.Formed.sound (place (Rule.field p k)) u) (selected ms x (place p) (k + size u))) e, tt)
selected_found {ms = member y v ms} {x = x} {t = t} (place p) k w (later_field e h) =
    let i = selected_found {ms = ms} {x = x} {t = t} (place p) (k + size v) w h in
    (i.0, ap (λ (b : Bool). cond b (Types.Formed.sound (place (Rule.field p k)) v) (selected ms x (place p) (k + size v))) e ∙ i.1, i.2)
selected_found (value v) k w h = absurd w
selected_found (copies p q n) k w h = absurd w

form_found : {Γ : Scope} {e : Expression} {t : Ty} → HasType Γ e t → Found Γ e t
form_found (a_number {z = z}) = record { form = value (Rule.literal z); is = refl; designates = λ d. elim d [ ]; free = refl }
form_found (a_truth {b = b}) = record { form = value (Rule.literal (cond b (pos 1) (pos 0))); is = refl; designates = λ d. elim d [ ]; free = refl }
form_found {Γ} (Typing.HasType.a_variable {at = at} {x = x} e) = record {
  form = place (Rule.variable (number_of x Γ));
  is = ap (named_as (number_of x Γ)) e;
  designates = λ d. tt;
  free = ap (λ (m : Meaning). own_form (named_as (number_of x Γ) m) at) e;
}
form_found {Γ} (Typing.HasType.a_reference {at = at} {x = x} e) = record {
  form = place (Rule.reference (number_of x Γ));
  is = ap (named_as (number_of x Γ)) e;
  designates = λ d. tt;
  free = ap (λ (m : Meaning). own_form (named_as (number_of x Γ) m) at) e;
}
form_found {Γ} (an_assignment {at = at} {d = d} {e = e} {t = t} {u = u} h k ok w s) =
    let i = form_found h in
    let j = form_found k in
    let a = assigned_found i.form j.form t u ok (i.designates w) (right j.form s j.designates) in
    let is : form_of (Tree.assign at d e) Γ ≡ Types.Formed.sound a.0 t =
    ap (λ (z : Formed). when_form z (λ f t. when_form (form_of e Γ) (λ g u. assigned f t g u))) i.is ∙ ap (λ (z : Formed). when_form z (λ g u. assigned i.form t g u)) j.is ∙ a.1 in
    record { form = a.0; is = is; designates = λ x. elim x [ ]; free = none (kinds d Γ) _ i.free (none (own_form (form_of (Tree.assign at d e) Γ) at) (kinds e Γ) (ap (λ (z : Formed). own_form z at) is) j.free) }
  where
    right : (f : Form) → T (scalar t) ⊎ Designator e → (Designator e → IsPlace f) → T (scalar t) ⊎ IsPlace f
    right f (inl x) g = inl x
    right f (inr x) g = inr (g x)
form_found {Γ} (an_operation {at = at} {o = o} {d = d} {e = e} {t = t} {u = u} h k ok) =
    let i = form_found h in
    let j = form_found k in
    let v : Value = Rule.binary o (read_of i.form) (read_of j.form) in
    let is : form_of (Tree.binary at o d e) Γ ≡ Types.Formed.sound (value v) (result (signature o)) =
    ap (λ (z : Formed). when_form z (λ f t. when_form (form_of e Γ) (λ g u. cond (allowed (signature o) t u) (Types.Formed.sound (value (Rule.binary o (read_of f) (read_of g))) (result (signature o))) (Types.Formed.broken 11)))) i.is
    ∙ ap (λ (z : Formed). when_form z (λ g u. cond (allowed (signature o) t u) (Types.Formed.sound (value (Rule.binary o (read_of i.form) (read_of g))) (result (signature o))) (Types.Formed.broken 11))) j.is
    ∙ cond_yes (allowed (signature o) t u) _ _ ok in
    record { form = value v; is = is; designates = λ x. elim x [ ]; free = none (kinds d Γ) _ i.free (none (own_form (form_of (Tree.binary at o d e) Γ) at) (kinds e Γ) (ap (λ (z : Formed). own_form z at) is) j.free) }
form_found {Γ} (a_prefix {at = at} {o = o} {e = e} {t = t} h ok) =
    let i = form_found h in
    let is : form_of (Tree.unary at o e) Γ ≡ Types.Formed.sound (value (Rule.unary o (read_of i.form))) t =
    ap (λ (z : Formed). when_form z (λ f t. cond (fits (operand o) t) (Types.Formed.sound (value (Rule.unary o (read_of f))) t) (Types.Formed.broken 11))) i.is ∙ cond_yes (fits (operand o) t) _ _ ok in
    record { form = value (Rule.unary o (read_of i.form)); is = is; designates = λ x. elim x [ ]; free = none (own_form (form_of (Tree.unary at o e) Γ) at) (kinds e Γ) (ap (λ (z : Formed). own_form z at) is) i.free }
form_found {Γ} (an_element {at = at} {n = n} {d = d} {e = e} {t = t} h k w) =
    let i = form_found h in
    let j = form_found k in
    let a = element_found i.form (read_of j.form) t n (i.designates w) in
    let is : form_of (Tree.index at d e) Γ ≡ Types.Formed.sound a.0 t =
    ap (λ (z : Formed). when_form z (λ f t. when_form (form_of e Γ) (λ g u. element_of t f (read_of g) (fits int u)))) i.is
    ∙ ap (λ (z : Formed). when_form z (λ g u. element_of (array t n) i.form (read_of g) (fits int u))) j.is ∙ a.1 in
    record { form = a.0; is = is; designates = λ x. a.2; free = none (kinds d Γ) _ i.free (none (own_form (form_of (Tree.index at d e) Γ) at) (kinds e Γ) (ap (λ (z : Formed). own_form z at) is) j.free) }
form_found {Γ} (a_selection {at = at} {d = d} {x = x} {ms = ms} {t = t} h k w) =
    let i = form_found h in
    let a = selected_found i.form 0 (i.designates w) k in
    let is : form_of (Tree.select at d x) Γ ≡ Types.Formed.sound a.0 t = ap (λ (z : Formed). when_form z (λ f t. field_of t x f)) i.is ∙ a.1 in
    record { form = a.0; is = is; designates = λ y. a.2; free = none (kinds d Γ) _ i.free (ap (λ (z : Formed). own_form z at) is) }

-- Calls.

abbrev GivenForm : Formal → Ty → Form → Type 0
GivenForm (Rule.by_value s) t g = T (scalar t) ⊎ IsPlace g
GivenForm (Rule.by_reference s) t g = IsPlace g

given_form : (f : Formal) (t : Ty) (e : Expression) (g : Form) → (Designator e → IsPlace g) → Typing.Given f t e → GivenForm f t g
given_form (Rule.by_value s) t e g d (inl x) = inl x
given_form (Rule.by_value s) t e g d (inr x) = inr (d x)
given_form (Rule.by_reference s) t e g d x = d x

argument_found : (f : Formal) (t : Ty) (g : Form) (a : Argument) → GivenForm f t g → (xs : List Argument) × (argument f g a ≡ Statements.Given.sound xs)
argument_found (Rule.by_value s) t g a h = (a ∷ [], refl)
argument_found (Rule.by_reference s) t (place p) a h = (Rule.address p ∷ [], refl)
argument_found (Rule.by_reference s) t (value v) a h = absurd h
argument_found (Rule.by_reference s) t (copies p q n) a h = absurd h

-- an array or a struct is given as a designator
whole_place : (f : Formal) (t : Ty) (g : Form) → (T (scalar t) → ⊥) → GivenForm f t g → IsPlace g
whole_place (Rule.by_value s) t g n (inl x) = absurd (n x)
whole_place (Rule.by_value s) t g n (inr x) = x
whole_place (Rule.by_reference s) t g n x = x

aggregate_found : (f : Formal) (t : Ty) (g : Form) → IsPlace g → GivenForm f t g → (xs : List Argument) × (aggregate f g t ≡ Statements.Given.sound xs)
aggregate_found f t (place p) w h = argument_found f t (place p) (Rule.copied p (size t)) h
aggregate_found f t (value v) w h = absurd w
aggregate_found f t (copies p q n) w h = absurd w

one_found : (f : Formal) (t : Ty) (g : Form) (u : Ty) → T (fits t u) → GivenForm f t g → (xs : List Argument) × (given_one f t g u ≡ Statements.Given.sound xs)
one_found f t g u ok h = let i = go (scalar t) (λ x. x) in (i.0, cond_yes (fits t u) _ _ ok ∙ i.1)
  where
    go : (b : Bool) → (T (scalar t) → T b) → (xs : List Argument) × (cond b (argument f g (Rule.value (read_of g))) (aggregate f g t) ≡ Statements.Given.sound xs)
    go true s = argument_found f t g (Rule.value (read_of g)) h
    go false s = aggregate_found f t g (whole_place f t g s h) h

passes_found : {Γ : Scope} {fs : List Formal} {ts : List Ty} {es : List Expression} → Passes Γ fs ts es → (xs : List Argument) × (given fs ts (forms_of es Γ) ≡ Statements.Given.sound xs) × (kinds_all es Γ ≡ [])
passes_found no_argument = ([], refl, refl)
passes_found {Γ} (an_argument {f = f} {t = t} {u = u} {e = e} {fs = fs} {ts = ts} {es = es} h ok g k) =
    let i = form_found h in
    let a = one_found f t i.form u ok (given_form f t e i.form i.designates g) in
    let r = passes_found k in
    (a.0 ++ r.0, ap (λ (z : Formed). given (f ∷ fs) (t ∷ ts) (z ∷ forms_of es Γ)) i.is ∙ ap (λ (z : Given). join z (given fs ts (forms_of es Γ))) a.1 ∙ ap (join (Statements.Given.sound a.0)) r.1, none (kinds e Γ) (kinds_all es Γ) i.free r.2)

-- Statements.

read_found : (f : Form) (t : Ty) → T (scalar t) → IsPlace f →
    (a : Action) × (by_scalar t (onto f (λ p. Statements.Acted.sound (Rule.read_int p))) (onto f (λ p. Statements.Acted.sound (Rule.read_bool p))) ≡ Statements.Acted.sound a)
read_found (place p) int s w = (Rule.read_int p, refl)
read_found (place p) bool s w = (Rule.read_bool p, refl)
read_found f (array t n) s w = absurd s
read_found f (struct ms) s w = absurd s
read_found (value v) int s w = absurd w
read_found (value v) bool s w = absurd w
read_found (copies p q n) int s w = absurd w
read_found (copies p q n) bool s w = absurd w

write_found : (f : Form) (t : Ty) → T (scalar t) → (a : Action) × (by_scalar t (Statements.Acted.sound (Rule.write_int (read_of f))) (Statements.Acted.sound (Rule.write_bool (read_of f))) ≡ Statements.Acted.sound a)
write_found f int s = (Rule.write_int (read_of f), refl)
write_found f bool s = (Rule.write_bool (read_of f), refl)
write_found f (array t n) s = absurd s
write_found f (struct ms) s = absurd s

formals_found : {Γ : Scope} {f : Name} {fs : Formals} {Δ Θ : Scope} {ls : List Formal} {ts : List Ty} → AreFormals Γ f fs Δ Θ ls ts →
    (signature_from fs f plain Δ Γ ≡ procedure ls ts) × (formals_from fs f plain Δ Γ ≡ Θ) × (kinds_formals fs f plain Δ Γ ≡ [])
formals_found no_formals = (refl, refl, refl)
formals_found {Γ} {f} {Δ = Δ} (a_formal {r = r} {x = x} {e = e} {t = t} {fs = fs} h k) =
    let i = type_found h in
    let j = formals_found k in (
      ap (λ (z : Typed). with_formal r z (signature_from fs f (still plain z) (declare x (meant z (passed r)) Δ) Γ)) i.0 ∙ ap (with_formal r (Types.Typed.sound t)) j.0,
      ap (λ (z : Typed). formals_from fs f (still plain z) (declare x (meant z (passed r)) Δ) Γ) i.0 ∙ j.1,
      none (kinds_type e (Δ ++ declare f plain Γ)) _ i.1 (ap (λ (z : Typed). kinds_formals fs f (still plain z) (declare x (meant z (passed r)) Δ) Γ) i.0 ∙ j.2),
    )

mutual
  action_found : {Γ : Scope} {s : Statement} → IsFine Γ s → (a : Action) × (action_of s Γ ≡ Statements.Acted.sound a) × (kinds_statement s Γ ≡ [])
  action_found (eval_fine h) =
      let i = form_found h in
      (dropped i.form, ap (λ (z : Formed). when_expression z (λ f t. Statements.Acted.sound (dropped f))) i.is, i.free)
  action_found {Γ} (if_fine {at = at} {e = e} {b = b} h k) =
      let i = form_found h in
      let j = block_found k in
      let is : action_of (Tree.if_then at e b) Γ ≡ Statements.Acted.sound (Rule.choose (read_of i.form) j.0) =
      ap (λ (z : Blocked). when_block z (λ c. test (form_of e Γ) (λ v. Statements.Acted.sound (Rule.choose v c)))) j.1 ∙ ap (λ (z : Formed). test z (λ v. Statements.Acted.sound (Rule.choose v j.0))) i.is in
      (Rule.choose (read_of i.form) j.0, is, none (own_action (action_of (Tree.if_then at e b) Γ) at) _ (ap (λ (z : Acted). own_action z at) is) (none (kinds e Γ) (kinds_block b Γ) i.free j.2))
  action_found {Γ} (if_else_fine {at = at} {e = e} {b = b} {c = c} h k l) =
      let i = form_found h in
      let j = block_found k in
      let m = block_found l in
      let is : action_of (Tree.if_else at e b c) Γ ≡ Statements.Acted.sound (Rule.choose_else (read_of i.form) j.0 m.0) =
      ap (λ (z : Blocked). when_block z (λ b'. when_block (block_of c Γ) (λ c'. test (form_of e Γ) (λ v. Statements.Acted.sound (Rule.choose_else v b' c'))))) j.1
      ∙ ap (λ (z : Blocked). when_block z (λ c'. test (form_of e Γ) (λ v. Statements.Acted.sound (Rule.choose_else v j.0 c')))) m.1
      ∙ ap (λ (z : Formed). test z (λ v. Statements.Acted.sound (Rule.choose_else v j.0 m.0))) i.is in (
        Rule.choose_else (read_of i.form) j.0 m.0,
        is,
        none (own_action (action_of (Tree.if_else at e b c) Γ) at) _ (ap (λ (z : Acted). own_action z at) is) (none (kinds e Γ) _ i.free (none (kinds_block b Γ) (kinds_block c Γ) j.2 m.2)),
      )
  action_found {Γ} (while_fine {at = at} {e = e} {b = b} h k) =
      let i = form_found h in
      let j = block_found k in
      let is : action_of (Tree.while at e b) Γ ≡ Statements.Acted.sound (Rule.repeat (read_of i.form) j.0) =
      ap (λ (z : Blocked). when_block z (λ c. test (form_of e Γ) (λ v. Statements.Acted.sound (Rule.repeat v c)))) j.1 ∙ ap (λ (z : Formed). test z (λ v. Statements.Acted.sound (Rule.repeat v j.0))) i.is in
      (Rule.repeat (read_of i.form) j.0, is, none (own_action (action_of (Tree.while at e b) Γ) at) _ (ap (λ (z : Acted). own_action z at) is) (none (kinds e Γ) (kinds_block b Γ) i.free j.2))
  action_found {Γ} (read_fine {at = at} {e = e} {t = t} h s d) =
      let i = form_found h in
      let a = read_found i.form t s (i.designates d) in
      let is : action_of (Tree.read at e) Γ ≡ Statements.Acted.sound a.0 =
      ap (λ (z : Formed). when_expression z (λ f t. by_scalar t (onto f (λ p. Statements.Acted.sound (Rule.read_int p))) (onto f (λ p. Statements.Acted.sound (Rule.read_bool p))))) i.is ∙ a.1 in
      (a.0, is, none (own_action (action_of (Tree.read at e) Γ) at) (kinds e Γ) (ap (λ (z : Acted). own_action z at) is) i.free)
  action_found {Γ} (write_fine {at = at} {e = e} {t = t} h s) =
      let i = form_found h in
      let a = write_found i.form t s in
      let is : action_of (Tree.write at e) Γ ≡ Statements.Acted.sound a.0 =
      ap (λ (z : Formed). when_expression z (λ f t. by_scalar t (Statements.Acted.sound (Rule.write_int (read_of f))) (Statements.Acted.sound (Rule.write_bool (read_of f))))) i.is ∙ a.1 in
      (a.0, is, none (own_action (action_of (Tree.write at e) Γ) at) (kinds e Γ) (ap (λ (z : Acted). own_action z at) is) i.free)
  action_found nl_fine = (Rule.newline, refl, refl)
  action_found {Γ} (call_fine {at = at} {place = at'} {x = x} {es = es} {fs = fs} {ts = ts} e k) =
      let r = passes_found k in
      let is : action_of (Tree.call at at' x es) Γ ≡ Statements.Acted.sound (Rule.call (number_of x Γ) r.0) =
      ap (λ (m : Meaning). called (number_of x Γ) m (forms_of es Γ)) e ∙ ap (calling (number_of x Γ)) r.1 in
      (Rule.call (number_of x Γ) r.0, is, none (own_action (action_of (Tree.call at at' x es) Γ) at) _ (ap (λ (z : Acted). own_action z at) is) (none (callee (meaning_of x Γ) at') (kinds_all es Γ) (ap (λ (m : Meaning). callee m at') e) r.2))
  action_found (compound_fine k) =
      let j = block_found k in
      (Rule.inner j.0, ap (λ (z : Blocked). when_block z (λ c. Statements.Acted.sound (Rule.inner c))) j.1, j.2)

  actions_found : {Γ : Scope} {ss : Statements} → AreFine Γ ss → (xs : Actions) × (actions_of ss Γ ≡ Statements.Listed.sound xs) × (kinds_statements ss Γ ≡ [])
  actions_found no_statements = (Rule.nothing, refl, refl)
  actions_found {Γ} (a_statement {s = s} {ss = ss} h k) =
      let i = action_found h in
      let j = actions_found k in
      (Rule.◌then◌ i.0 j.0, ap (λ (z : Acted). then z (actions_of ss Γ)) i.1 ∙ ap (then (Statements.Acted.sound i.0)) j.1, none (kinds_statement s Γ) (kinds_statements ss Γ) i.2 j.2)

  declares_found : {Γ : Scope} {ds : DeclarationTrees} {Θ : Scope} → Declares Γ ds Θ →
      (xs : Declarations) × (declarations_of ds Γ ≡ Statements.Declares.sound xs) × (scope_of ds Γ ≡ Θ) × (kinds_declarations ds Γ ≡ [])
  declares_found no_declarations = (Rule.none, refl, refl, refl)
  declares_found {Γ} (Typing.Declares.a_variable {x = x} {e = e} {t = t} {ds = ds} h k) =
      let i = type_found h in
      let j = declares_found k in (
        Rule.local (size t) j.0,
        ap (λ (z : Typed). local z (declarations_of ds (declare x (meant z variable) Γ))) i.0 ∙ ap (local (Types.Typed.sound t)) j.1,
        ap (λ (z : Typed). scope_of ds (declare x (meant z variable) Γ)) i.0 ∙ j.2,
        none (kinds_type e Γ) _ i.1 (ap (λ (z : Typed). kinds_declarations ds (declare x (meant z variable) Γ)) i.0 ∙ j.3),
      )
  declares_found {Γ} (a_type {x = x} {e = e} {t = t} {ds = ds} h k) =
      let i = type_found h in
      let j = declares_found k in (
        j.0,
        ap (λ (z : Typed). unseen z (declarations_of ds (declare x (meant z type_name) Γ))) i.0 ∙ j.1,
        ap (λ (z : Typed). scope_of ds (declare x (meant z type_name) Γ)) i.0 ∙ j.2,
        none (kinds_type e Γ) _ i.1 (ap (λ (z : Typed). kinds_declarations ds (declare x (meant z type_name) Γ)) i.0 ∙ j.3),
      )
  declares_found {Γ} (a_procedure {Δ = Δ} {x = x} {fs = fs} {b = b} {ds = ds} {ls = ls} {ts = ts} h k l) =
      let i = formals_found h in
      let j = block_found k in
      let m = declares_found l in
      let within : inside x fs Γ ≡ Δ ++ declare x (procedure ls ts) Γ = ap (λ (z : Scope). z ++ procedure_scope x fs Γ) i.1 ∙ ap (λ (z : Meaning). Δ ++ declare x z Γ) i.0 in
      let behind : procedure_scope x fs Γ ≡ declare x (procedure ls ts) Γ = ap (λ (z : Meaning). declare x z Γ) i.0 in (
        Rule.proc ls j.0 m.0,
        ap (λ (z : Meaning). proc z (block_of b (inside x fs Γ)) (declarations_of ds (procedure_scope x fs Γ))) i.0
            ∙ ap (λ (z : Blocked). proc (procedure ls ts) z (declarations_of ds (procedure_scope x fs Γ))) (ap (block_of b) within ∙ j.1)
            ∙ ap (proc (procedure ls ts) (Statements.Blocked.sound j.0)) (ap (declarations_of ds) behind ∙ m.1),
        ap (scope_of ds) behind ∙ m.2,
        none (kinds_formals fs x plain [] Γ) _ i.2 (none (kinds_block b (inside x fs Γ)) _ (ap (kinds_block b) within ∙ j.2) (ap (kinds_declarations ds) behind ∙ m.3)),
      )

  block_found : {Γ : Scope} {b : BlockTree} → FineBlock Γ b → (c : Block) × (block_of b Γ ≡ Statements.Blocked.sound c) × (kinds_block b Γ ≡ [])
  block_found {Γ} (block_fine {ds = ds} {ss = ss} h k) =
      let i = declares_found h in
      let j = actions_found k in (
        Rule.block i.0 j.0,
        ap (λ (z : Statements.Declares). with_actions z (actions_of ss (scope_of ds Γ))) i.1 ∙ ap (with_actions (Statements.Declares.sound i.0)) (ap (actions_of ss) i.2 ∙ j.1),
        none (kinds_declarations ds Γ) _ i.3 (ap (kinds_statements ss) i.2 ∙ j.2),
      )

pub typed_accepted : TypedIsAccepted
typed_accepted t deep names fine large = unbroken t deep names (block_found fine).2 large
