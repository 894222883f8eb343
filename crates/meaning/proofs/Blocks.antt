-- Statements, declarations and blocks fit the slots of their scope, at most 8 procedures deep, and need at most 128 operands.
use Rattle.std.proofs.Common.{◌≡◌, ℕ, suc, ◌≤◌, cond, ltb, List, [], ◌∷◌, sym, refl, ◌∙◌, subst, arith}
use Rattle.tiny.specs.Tree.{Statement, Statements, DeclarationTrees, BlockTree}
use Rattle.tiny.specs.Tree as Tree
use Rattle.meaning.specs.Rule.{Place, Value, Block}
use Rattle.meaning.specs.Rule as Rule
use Rattle.meaning.specs.Types.{Ty, int, bool, array, struct, size, fits, Meaning, variable, reference, type_name, procedure, Typed, Scope, Form, place, value, copies, Formed, read_of, form_of, type_of, meaning_of, number_of}
use Rattle.meaning.specs.Types as Types
use Rattle.meaning.specs.Statements.{Acted, Blocked, Listed, Declares, Given, when_expression, when_block, test, dropped, onto, by_scalar, called, calling, given, forms_of, meant, declare, local, unseen, proc, then, with_actions, action_of, actions_of, declarations_of, block_of, scope_of, signature_of, formals_from, plain, inside, procedure_scope}
use Rattle.meaning.specs.Statements as Statements
use Rattle.meaning.specs.Stages.{break, deeper, deep, deep_type, deep_formals, deep_statement, deep_statements, deep_declarations, deep_block}
use Rattle.meaning.specs.Sound.{Slot, takes, slot, slots, FitsPlace, FitsValue, FitsCall, FitsAction, FitsActions, FitsDeclarations, FitsBlock, place_need, value_need, action_need, actions_need, declarations_need, block_need}
use Rattle.meaning.proofs.Nil.{Nil, nil_left, nil_right, untested, not_deeper, either}
use Rattle.meaning.proofs.Slots.{slotted, slots_over, slots_of, Stands, found, Proper, AllProper, proper_meaning}
use Rattle.meaning.proofs.Forms.{Held, HeldFormed, read_held, form_held, fits_size}
use Rattle.meaning.proofs.Arguments.{HeldGiven, AllHeld, forms_held, given_held}
use Rattle.meaning.proofs.Signatures.{Signed, signed, inside_slots, proper_inside, proper_procedure, proper_local, proper_type, proper_scope}

abbrev pub HeldActed : Acted → List Slot → ℕ → Type 0
HeldActed (Statements.Acted.sound a) σ l = FitsAction a σ l × (action_need a ≤ 128)
HeldActed (Statements.Acted.broken n) σ l = Unit {0}
HeldActed Statements.Acted.unsound σ l = Unit {0}

abbrev pub HeldListed : Listed → List Slot → ℕ → Type 0
HeldListed (Statements.Listed.sound xs) σ l = FitsActions xs σ l × (actions_need xs ≤ 128)
HeldListed Statements.Listed.unsound σ l = Unit {0}

abbrev pub HeldBlocked : Blocked → List Slot → ℕ → Type 0
HeldBlocked (Statements.Blocked.sound b) σ l = FitsBlock b σ l × (block_need b ≤ 128)
HeldBlocked Statements.Blocked.unsound σ l = Unit {0}

-- σ stands before the declarations, σ' behind them
abbrev pub HeldDeclares : Declares → List Slot → List Slot → ℕ → Type 0
HeldDeclares (Statements.Declares.sound ds) σ σ' l = FitsDeclarations ds σ l × (declarations_need ds ≤ 128) × (slots ds σ ≡ σ')
HeldDeclares Statements.Declares.unsound σ σ' l = Unit {0}

on_form : (x : Formed) (k : Form → Ty → Acted) (σ : List Slot) (d l : ℕ) → HeldFormed x σ d →
    ((f : Form) (t : Ty) → Held f t σ d → HeldActed (k f t) σ l) → HeldActed (when_expression x k) σ l
on_form (Types.Formed.sound f t) k σ d l h g = g f t h
on_form (Types.Formed.broken n) k σ d l h g = tt
on_form Types.Formed.unsound k σ d l h g = tt

on_block : (x : Blocked) (k : Block → Acted) (σ : List Slot) (l : ℕ) → HeldBlocked x σ l →
    ((b : Block) → FitsBlock b σ l → block_need b ≤ 128 → HeldActed (k b) σ l) → HeldActed (when_block x k) σ l
on_block (Statements.Blocked.sound b) k σ l h g = g b h.0 h.1
on_block Statements.Blocked.unsound k σ l h g = tt

on_test : (x : Formed) (k : Value → Acted) (σ : List Slot) (d l : ℕ) → HeldFormed x σ d →
    ((v : Value) → FitsValue v σ → value_need v ≤ 97 → HeldActed (k v) σ l) → HeldActed (test x k) σ l
on_test x k σ d l h g =
    on_form x _ σ d l h (λ f t i. either (λ a. HeldActed a σ l) (fits bool t) _ _ (λ b.
    let r = read_held f t σ d i (sym (fits_size bool t b)) in g (read_of f) r.0 (omega arith)) tt)

dropped_held : (f : Form) (t : Ty) (σ : List Slot) (d l : ℕ) → Held f t σ d → HeldActed (Statements.Acted.sound (dropped f)) σ l
dropped_held (place p) t σ d l h = ((size t, h.0), omega arith)
dropped_held (value v) t σ d l h = (h.0, omega arith)
dropped_held (copies p q n) t σ d l h = ((h.0, h.1), omega arith)

onto_held : (f : Form) (k : Place → Acted) (t : Ty) (σ : List Slot) (d l : ℕ) → Held f t σ d → size t ≡ 1 →
    ((p : Place) → FitsPlace p σ 1 → place_need p ≤ 97 → HeldActed (k p) σ l) → HeldActed (onto f k) σ l
onto_held (place p) k t σ d l h e g = g p (subst (λ (n : ℕ). FitsPlace p σ n) e h.0) (omega arith)
onto_held (value v) k t σ d l h e g = tt
onto_held (copies p q n) k t σ d l h e g = tt

by_scalar_held : (t : Ty) (a b : Acted) (σ : List Slot) (l : ℕ) → (size t ≡ 1 → HeldActed a σ l) → (size t ≡ 1 → HeldActed b σ l) → HeldActed (by_scalar t a b) σ l
by_scalar_held int a b σ l h k = h refl
by_scalar_held bool a b σ l h k = k refl
by_scalar_held (array t n) a b σ l h k = tt
by_scalar_held (struct ms) a b σ l h k = tt

calling_held : (i l : ℕ) (fs : List Rule.Formal) (x : Given) (σ : List Slot) → slot σ i ≡ takes fs → HeldGiven fs x σ → HeldActed (calling i x) σ l
calling_held i l fs (Statements.Given.sound xs) σ e h = (subst (λ s. FitsCall s xs σ) (sym e) h.0, omega arith)
calling_held i l fs (Statements.Given.broken n) σ e h = tt
calling_held i l fs Statements.Given.unsound σ e h = tt

called_held : (m : Meaning) (i d l : ℕ) (gs : List Formed) (σ : List Slot) → Stands m (slot σ i) → Proper m → AllHeld gs σ d → HeldActed (called i m gs) σ l
called_held (variable t) i d l gs σ e p h = tt
called_held (reference t) i d l gs σ e p h = tt
called_held (type_name t) i d l gs σ e p h = tt
called_held (procedure fs ts) i d l gs σ e p h = calling_held i l fs (given fs ts gs) σ e (given_held fs ts gs σ d p h)
called_held Meaning.unsound i d l gs σ e p h = tt

then_held : (a : Acted) (xs : Listed) (σ : List Slot) (l : ℕ) → HeldActed a σ l → HeldListed xs σ l → HeldListed (then a xs) σ l
then_held (Statements.Acted.sound a) (Statements.Listed.sound xs) σ l h k = ((h.0, k.0), omega arith)
then_held (Statements.Acted.sound a) Statements.Listed.unsound σ l h k = tt
then_held (Statements.Acted.broken n) xs σ l h k = tt
then_held Statements.Acted.unsound xs σ l h k = tt

with_actions_held : (ds : Declares) (xs : Listed) (σ σ' : List Slot) (l : ℕ) → HeldDeclares ds σ σ' l → HeldListed xs σ' l → HeldBlocked (with_actions ds xs) σ l
with_actions_held (Statements.Declares.sound ds) (Statements.Listed.sound xs) σ σ' l h k =
    ((h.0, subst (λ s. FitsActions xs s l) (sym h.2) k.0), omega arith)
with_actions_held (Statements.Declares.sound ds) Statements.Listed.unsound σ σ' l h k = tt
with_actions_held Statements.Declares.unsound xs σ σ' l h k = tt

local_held : (t : Typed) (ds : Declares) (σ σ' : List Slot) (l : ℕ) → HeldDeclares ds (slotted (meant t variable) σ) σ' l → HeldDeclares (local t ds) σ σ' l
local_held (Types.Typed.sound t) (Statements.Declares.sound ds) σ σ' l h = h
local_held (Types.Typed.sound t) Statements.Declares.unsound σ σ' l h = tt
local_held (Types.Typed.broken n) ds σ σ' l h = tt
local_held Types.Typed.unsound ds σ σ' l h = tt

unseen_held : (t : Typed) (ds : Declares) (σ σ' : List Slot) (l : ℕ) → HeldDeclares ds (slotted (meant t type_name) σ) σ' l → HeldDeclares (unseen t ds) σ σ' l
unseen_held (Types.Typed.sound t) ds σ σ' l h = h
unseen_held (Types.Typed.broken n) ds σ σ' l h = tt
unseen_held Types.Typed.unsound ds σ σ' l h = tt

-- Δ: the formals
proc_held : (m : Meaning) (b : Blocked) (ds : Declares) (Δ : Scope) (σ σ' τ : List Slot) (l : ℕ) → suc l ≤ 8 → Signed m [] Δ → τ ≡ slots_over Δ (slotted m σ) →
    HeldBlocked b τ (suc l) → HeldDeclares ds (slotted m σ) σ' l → HeldDeclares (proc m b ds) σ σ' l
proc_held (procedure fs ts) (Statements.Blocked.sound b) (Statements.Declares.sound ds) Δ σ σ' τ l n s e h k =
    ((n, subst (λ r. FitsBlock b r (suc l)) (e ∙ sym (s.1 (takes fs ∷ σ))) h.0, k.0), omega arith, k.2)
proc_held (procedure fs ts) (Statements.Blocked.sound b) Statements.Declares.unsound Δ σ σ' τ l n s e h k = tt
proc_held (procedure fs ts) Statements.Blocked.unsound ds Δ σ σ' τ l n s e h k = tt
proc_held (variable t) b ds Δ σ σ' τ l n s e h k = tt
proc_held (reference t) b ds Δ σ σ' τ l n s e h k = tt
proc_held (type_name t) b ds Δ σ σ' τ l n s e h k = tt
proc_held Meaning.unsound b ds Δ σ σ' τ l n s e h k = tt

mutual
  action_held : (s : Statement) (Γ : Scope) (d l : ℕ) → AllProper Γ → Nil (deep_statement s d l) → HeldActed (action_of s Γ) (slots_of Γ) l
  action_held (Tree.eval at e) Γ d l p h =
      on_form (form_of e Γ) _ (slots_of Γ) (suc d) l (form_held e Γ (suc d) (nil_right (deeper 96 d at) _ h)) (λ f t i.
      dropped_held f t (slots_of Γ) (suc d) l i)
  action_held (Tree.if_then at e b) Γ d l p h =
      let i = nil_right (deeper 96 d at) _ h in
      on_block (block_of b Γ) _ (slots_of Γ) l (block_held b Γ (suc d) l p (nil_right (deep e (suc d)) _ i)) (λ c j n.
      on_test (form_of e Γ) (λ v. Statements.Acted.sound (Rule.choose v c)) (slots_of Γ) (suc d) l (form_held e Γ (suc d) (nil_left (deep e (suc d)) _ i)) (λ v k m.
      ((k, j), omega arith)))
  action_held (Tree.if_else at e b c) Γ d l p h =
      let i = nil_right (deeper 96 d at) _ h in
      let j = nil_right (deep e (suc d)) _ i in
      on_block (block_of b Γ) _ (slots_of Γ) l (block_held b Γ (suc d) l p (nil_left (deep_block b (suc d) l) _ j)) (λ b' q n.
      on_block (block_of c Γ) _ (slots_of Γ) l (block_held c Γ (suc d) l p (nil_right (deep_block b (suc d) l) _ j)) (λ c' r o.
      on_test (form_of e Γ) (λ v. Statements.Acted.sound (Rule.choose_else v b' c')) (slots_of Γ) (suc d) l (form_held e Γ (suc d) (nil_left (deep e (suc d)) _ i)) (λ v k m.
      ((k, q, r), omega arith))))
  action_held (Tree.while at e b) Γ d l p h =
      let i = nil_right (deeper 96 d at) _ h in
      on_block (block_of b Γ) _ (slots_of Γ) l (block_held b Γ (suc d) l p (nil_right (deep e (suc d)) _ i)) (λ c j n.
      on_test (form_of e Γ) (λ v. Statements.Acted.sound (Rule.repeat v c)) (slots_of Γ) (suc d) l (form_held e Γ (suc d) (nil_left (deep e (suc d)) _ i)) (λ v k m.
      ((k, j), omega arith)))
  action_held (Tree.read at e) Γ d l p h =
      on_form (form_of e Γ) _ (slots_of Γ) (suc d) l (form_held e Γ (suc d) (nil_right (deeper 96 d at) _ h)) (λ f t i.
      by_scalar_held t _ _ (slots_of Γ) l
      (λ e. onto_held f _ t (slots_of Γ) (suc d) l i e (λ p j n. (j, omega arith)))
      (λ e. onto_held f _ t (slots_of Γ) (suc d) l i e (λ p j n. (j, omega arith))))
  action_held (Tree.write at e) Γ d l p h =
      on_form (form_of e Γ) _ (slots_of Γ) (suc d) l (form_held e Γ (suc d) (nil_right (deeper 96 d at) _ h)) (λ f t i.
      by_scalar_held t _ _ (slots_of Γ) l
      (λ e. let r = read_held f t (slots_of Γ) (suc d) i e in (r.0, omega arith))
      (λ e. let r = read_held f t (slots_of Γ) (suc d) i e in (r.0, omega arith)))
  action_held (Tree.nl at) Γ d l p h = (tt, omega arith)
  action_held (Tree.call at here x es) Γ d l p h =
      called_held (meaning_of x Γ) (number_of x Γ) (suc d) l (forms_of es Γ) (slots_of Γ) (found x Γ) (proper_meaning x Γ p)
      (forms_held es Γ (suc d) (nil_right (deeper 96 (suc d) here) _ (nil_right (deeper 96 d at) _ h)))
  action_held (Tree.compound b) Γ d l p h = on_block (block_of b Γ) _ (slots_of Γ) l (block_held b Γ d l p h) (λ c j n. (j, n))

  actions_held : (ss : Statements) (Γ : Scope) (d l : ℕ) → AllProper Γ → Nil (deep_statements ss d l) → HeldListed (actions_of ss Γ) (slots_of Γ) l
  actions_held Tree.no_statement Γ d l p h = (tt, omega arith)
  actions_held (Tree.statement s ss) Γ d l p h =
      then_held (action_of s Γ) (actions_of ss Γ) (slots_of Γ) l (action_held s Γ d l p (nil_left _ _ h)) (actions_held ss Γ d l p (nil_right (deep_statement s d l) _ h))

  declarations_held : (ds : DeclarationTrees) (Γ : Scope) (d l : ℕ) → AllProper Γ → Nil (deep_declarations ds d l) →
      HeldDeclares (declarations_of ds Γ) (slots_of Γ) (slots_of (scope_of ds Γ)) l
  declarations_held Tree.no_declaration Γ d l p h = (tt, omega arith, refl)
  declarations_held (Tree.variable t at x ds) Γ d l p h =
      local_held (type_of t Γ) _ (slots_of Γ) _ l
      (declarations_held ds (declare x (meant (type_of t Γ) variable) Γ) d l (proper_local x (type_of t Γ) Γ p)
      (nil_right (deeper 96 d at) _ (nil_right (deep_type t (suc d)) _ h)))
  declarations_held (Tree.type_name t at x ds) Γ d l p h =
      unseen_held (type_of t Γ) _ (slots_of Γ) _ l
      (declarations_held ds (declare x (meant (type_of t Γ) type_name) Γ) d l (proper_type x (type_of t Γ) Γ p)
      (nil_right (deeper 96 d at) _ (nil_right (deep_type t (suc d)) _ h)))
  declarations_held (Tree.procedure at x fs b ds) Γ d l p h =
      let i = nil_right (deep_formals fs (suc d)) _ (nil_right (cond (ltb 96 d) (break 7 at) (deeper 8 (suc l) at)) _ h) in
      let n = (untested (ltb 96 d) _ [] (deeper 8 (suc l) at) (nil_left (cond (ltb 96 d) (break 7 at) (deeper 8 (suc l) at)) _ h)).1 in
      proc_held (signature_of x fs Γ) (block_of b (inside x fs Γ)) _ (formals_from fs x plain [] Γ) (slots_of Γ) _ (slots_of (inside x fs Γ)) l
      (not_deeper 8 (suc l) at n) (signed fs x plain [] Γ) (inside_slots x fs Γ)
      (block_held b (inside x fs Γ) (suc d) (suc l) (proper_inside x fs Γ p) (nil_left (deep_block b (suc d) (suc l)) _ i))
      (declarations_held ds (procedure_scope x fs Γ) d l (proper_procedure x fs Γ p) (nil_right (deep_block b (suc d) (suc l)) _ i))

  pub block_held : (t : BlockTree) (Γ : Scope) (d l : ℕ) → AllProper Γ → Nil (deep_block t d l) → HeldBlocked (block_of t Γ) (slots_of Γ) l
  block_held (Tree.block at ds ss) Γ d l p h =
      let i = nil_right (deeper 96 d at) _ h in
      with_actions_held (declarations_of ds Γ) (actions_of ss (scope_of ds Γ)) (slots_of Γ) (slots_of (scope_of ds Γ)) l
      (declarations_held ds Γ (suc d) l p (nil_left (deep_declarations ds (suc d) l) _ i))
      (actions_held ss (scope_of ds Γ) (suc d) l (proper_scope ds Γ p) (nil_right (deep_declarations ds (suc d) l) _ i))
