-- A tree in which the names and the kinds find no break makes a rule.
use Rattle.std.proofs.Common.{◌≡◌, ℕ, Bool, true, false, List, [], ◌∷◌, ◌++◌, refl}
use Rattle.tiny.specs.Tree.{Name, Expression, Formals, Statement, Statements, DeclarationTrees, BlockTree}
use Rattle.tiny.specs.Tree as Tree
use Rattle.meaning.specs.Rule.{Place, Value, Argument, Formal, Block}
use Rattle.meaning.specs.Rule as Rule
use Rattle.meaning.specs.Types.{Ty, int, bool, array, struct, fits, scalar, Meaning, variable, reference, type_name, procedure, Scope, meaning_of, number_of, Typed, type_of, Form, place, value, copies, Formed, read_of, form_of}
use Rattle.meaning.specs.Types as Types
use Rattle.meaning.specs.Statements.{Acted, Blocked, Listed, Declares, Given, when_expression, when_block, test, dropped, onto, by_scalar, argument, aggregate, given_one, join, given, forms_of, calling, called, meant, declare, passed, still, seen_by, with_formal, signature_from, formals_from, plain, signature_of, procedure_scope, inside, scope_of, local, unseen, proc, then, with_actions, action_of, actions_of, declarations_of, block_of}
use Rattle.meaning.specs.Statements as Statements
use Rattle.meaning.specs.Stages.{Open, added, innermost, undeclared, twice, names_type, names, names_all, names_formals, open_formals, open_declarations, names_statement, names_statements, names_declarations, names_block, own_action, kinds_type, kinds, kinds_all, callee, kinds_formals, kinds_statement, kinds_statements, kinds_declarations, kinds_block}
use Rattle.meaning.proofs.Nil.{Nil, nil, nil_left, nil_right, either}
use Rattle.meaning.proofs.CompleteForms.{Certain, Known, known_more, swapped, is_known, SoundTyped, type_complete, SoundFormed, form_complete}

-- Actions: where the parts are sound, the whole is sound or broken.

abbrev pub SoundActed : Acted → Type 0
SoundActed (Statements.Acted.sound a) = Unit {0}
SoundActed (Statements.Acted.broken n) = ⊥
SoundActed Statements.Acted.unsound = ⊥

abbrev pub SoundListed : Listed → Type 0
SoundListed (Statements.Listed.sound xs) = Unit {0}
SoundListed Statements.Listed.unsound = ⊥

abbrev pub SoundDeclares : Declares → Type 0
SoundDeclares (Statements.Declares.sound ds) = Unit {0}
SoundDeclares Statements.Declares.unsound = ⊥

abbrev pub SoundBlocked : Blocked → Type 0
SoundBlocked (Statements.Blocked.sound b) = Unit {0}
SoundBlocked Statements.Blocked.unsound = ⊥

abbrev DecidedA : Acted → Type 0
DecidedA (Statements.Acted.sound a) = Unit {0}
DecidedA (Statements.Acted.broken n) = Unit {0}
DecidedA Statements.Acted.unsound = ⊥

abbrev DecidedG : Given → Type 0
DecidedG (Statements.Given.sound xs) = Unit {0}
DecidedG (Statements.Given.broken n) = Unit {0}
DecidedG Statements.Given.unsound = ⊥

action_sound : (x : Acted) (at : ℕ) → DecidedA x → Nil (own_action x at) → SoundActed x
action_sound (Statements.Acted.sound a) at d h = tt
action_sound (Statements.Acted.broken n) at d h = elim h [ ]
action_sound Statements.Acted.unsound at d h = d

on_form : (x : Formed) (k : Form → Ty → Acted) → SoundFormed x → ((f : Form) (t : Ty) → DecidedA (k f t)) → DecidedA (when_expression x k)
on_form (Types.Formed.sound f t) k s h = h f t
on_form (Types.Formed.broken n) k s h = s
on_form Types.Formed.unsound k s h = s

on_block : (x : Blocked) (k : Block → Acted) → SoundBlocked x → ((b : Block) → DecidedA (k b)) → DecidedA (when_block x k)
on_block (Statements.Blocked.sound b) k s h = h b
on_block Statements.Blocked.unsound k s h = s

on_test : (x : Formed) (k : Value → Acted) → SoundFormed x → ((v : Value) → DecidedA (k v)) → DecidedA (test x k)
on_test x k s h = on_form x _ s (λ f t. either DecidedA (fits bool t) _ _ (λ _. h (read_of f)) tt)

eval_sound : (x : Formed) → SoundFormed x → SoundActed (when_expression x (λ f t. Statements.Acted.sound (dropped f)))
eval_sound (Types.Formed.sound f t) s = tt
eval_sound (Types.Formed.broken n) s = s
eval_sound Types.Formed.unsound s = s

inner_sound : (x : Blocked) → SoundBlocked x → SoundActed (when_block x (λ b. Statements.Acted.sound (Rule.inner b)))
inner_sound (Statements.Blocked.sound b) s = tt
inner_sound Statements.Blocked.unsound s = s

decided_onto : (f : Form) (k : Place → Acted) → ((p : Place) → DecidedA (k p)) → DecidedA (onto f k)
decided_onto (place p) k h = h p
decided_onto (value v) k h = tt
decided_onto (copies p q n) k h = tt

decided_scalar : (t : Ty) (a b : Acted) → DecidedA a → DecidedA b → DecidedA (by_scalar t a b)
decided_scalar int a b h k = h
decided_scalar bool a b h k = k
decided_scalar (array t n) a b h k = tt
decided_scalar (struct ms) a b h k = tt

-- Calls.

abbrev AllSound : List Formed → Type 0
AllSound [] = Unit {0}
AllSound (g ∷ gs) = SoundFormed g × AllSound gs

forms_complete : (es : List Expression) (Δ : Open) (Γ : Scope) → Known Δ Γ → Nil (names_all es Δ) → Nil (kinds_all es Γ) → AllSound (forms_of es Γ)
forms_complete [] Δ Γ g n k = tt
forms_complete (e ∷ es) Δ Γ g n k =
    (form_complete e Δ Γ g (nil_left _ _ n) (nil_left _ _ k), forms_complete es Δ Γ g (nil_right (names e Δ) _ n) (nil_right (kinds e Γ) _ k))

decided_argument : (f : Formal) (g : Form) (a : Argument) → DecidedG (argument f g a)
decided_argument (Rule.by_value s) g a = tt
decided_argument (Rule.by_reference s) (place p) a = tt
decided_argument (Rule.by_reference s) (value v) a = tt
decided_argument (Rule.by_reference s) (copies p q n) a = tt

decided_aggregate : (f : Formal) (g : Form) (t : Ty) → DecidedG (aggregate f g t)
decided_aggregate f (place p) t = decided_argument f (place p) _
decided_aggregate f (value v) t = tt
decided_aggregate f (copies p q n) t = tt

decided_one : (f : Formal) (t : Ty) (g : Form) (u : Ty) → DecidedG (given_one f t g u)
decided_one f t g u =
    either DecidedG (fits t u) _ _ (λ _. either DecidedG (scalar t) _ _ (λ _. decided_argument f g _) (decided_aggregate f g t)) tt

decided_join : (x y : Given) → DecidedG x → DecidedG y → DecidedG (join x y)
decided_join (Statements.Given.sound xs) (Statements.Given.sound ys) h k = tt
decided_join (Statements.Given.sound xs) (Statements.Given.broken n) h k = tt
decided_join (Statements.Given.sound xs) Statements.Given.unsound h k = k
decided_join (Statements.Given.broken m) (Statements.Given.sound ys) h k = tt
decided_join (Statements.Given.broken m) (Statements.Given.broken n) h k = either DecidedG _ (Statements.Given.broken n) (Statements.Given.broken m) (λ _. tt) tt
decided_join (Statements.Given.broken m) Statements.Given.unsound h k = k
decided_join Statements.Given.unsound y h k = h

decided_given : (fs : List Formal) (ts : List Ty) (gs : List Formed) → AllSound gs → DecidedG (given fs ts gs)
decided_given [] ts [] h = tt
decided_given [] ts (Types.Formed.sound g u ∷ gs) h = decided_join (Statements.Given.broken 13) (given [] ts gs) tt (decided_given [] ts gs h.1)
decided_given [] ts (Types.Formed.broken n ∷ gs) h = h.0
decided_given [] ts (Types.Formed.unsound ∷ gs) h = h.0
decided_given (f ∷ fs) [] gs h = tt
decided_given (f ∷ fs) (t ∷ ts) [] h = tt
decided_given (f ∷ fs) (t ∷ ts) (Types.Formed.sound g u ∷ gs) h = decided_join (given_one f t g u) (given fs ts gs) (decided_one f t g u) (decided_given fs ts gs h.1)
decided_given (f ∷ fs) (t ∷ ts) (Types.Formed.broken n ∷ gs) h = h.0
decided_given (f ∷ fs) (t ∷ ts) (Types.Formed.unsound ∷ gs) h = h.0

decided_calling : (i : ℕ) (x : Given) → DecidedG x → DecidedA (calling i x)
decided_calling i (Statements.Given.sound xs) h = tt
decided_calling i (Statements.Given.broken n) h = tt
decided_calling i Statements.Given.unsound h = h

decided_called : (i : ℕ) (m : Meaning) (gs : List Formed) (here : ℕ) → Certain m → Nil (callee m here) → AllSound gs → DecidedA (called i m gs)
decided_called i (variable t) gs here c k h = elim k [ ]
decided_called i (reference t) gs here c k h = elim k [ ]
decided_called i (type_name t) gs here c k h = elim k [ ]
decided_called i (procedure fs ts) gs here c k h = decided_calling i (given fs ts gs) (decided_given fs ts gs h)
decided_called i Meaning.unsound gs here c k h = c

-- Declarations.

certain_meant : (t : Typed) (k : Ty → Meaning) → SoundTyped t → ((u : Ty) → Certain (k u)) → Certain (meant t k)
certain_meant (Types.Typed.sound t) k s h = h t
certain_meant (Types.Typed.broken n) k s h = s
certain_meant Types.Typed.unsound k s h = s

certain_passed : (r : Bool) (t : Ty) → Certain (passed r t)
certain_passed true t = tt
certain_passed false t = tt

certain_still : (m : Meaning) (t : Typed) → SoundTyped t → Certain m → Certain (still m t)
certain_still m (Types.Typed.sound t) s c = c
certain_still m (Types.Typed.broken n) s c = absurd s
certain_still m Types.Typed.unsound s c = absurd s

abbrev Procedural : Meaning → Type 0
Procedural (variable t) = ⊥
Procedural (reference t) = ⊥
Procedural (type_name t) = ⊥
Procedural (procedure fs ts) = Unit {0}
Procedural Meaning.unsound = ⊥

procedural_certain : (m : Meaning) → Procedural m → Certain m
procedural_certain (variable t) h = tt
procedural_certain (reference t) h = tt
procedural_certain (type_name t) h = tt
procedural_certain (procedure fs ts) h = tt
procedural_certain Meaning.unsound h = h

procedural_formal : (r : Bool) (t : Typed) (m : Meaning) → SoundTyped t → Procedural m → Procedural (with_formal r t m)
procedural_formal r (Types.Typed.sound t) (procedure fs ts) s h = tt
procedural_formal r (Types.Typed.sound t) (variable u) s h = h
procedural_formal r (Types.Typed.sound t) (reference u) s h = h
procedural_formal r (Types.Typed.sound t) (type_name u) s h = h
procedural_formal r (Types.Typed.sound t) Meaning.unsound s h = h
procedural_formal r (Types.Typed.broken n) m s h = s
procedural_formal r Types.Typed.unsound m s h = s

formals_complete : (fs : Formals) (f : Name) (m : Meaning) (O : Open) (Δ Γ : Scope) → Certain m → Known O (seen_by f m Δ Γ) →
    Nil (names_formals fs O) → Nil (kinds_formals fs f m Δ Γ) →
    Procedural (signature_from fs f m Δ Γ) × ((m' : Meaning) → Certain m' → Known (open_formals fs O) (seen_by f m' (formals_from fs f m Δ Γ) Γ))
formals_complete Tree.no_formal f m O Δ Γ c g n k = (tt, λ m' c' x h. swapped f x m m' Δ Γ c' (g x h))
formals_complete (Tree.formal t r at x fs) f m O Δ Γ c g n k =
    let typed : Typed = type_of t (seen_by f m Δ Γ) in
    let s : SoundTyped typed = type_complete t O (seen_by f m Δ Γ) g (nil_left _ _ n) (nil_left _ _ k) in
    let c' : Certain (still m typed) = certain_still m typed s c in
    let g' : Known O (seen_by f (still m typed) Δ Γ) = λ y h. swapped f y m (still m typed) Δ Γ c' (g y h) in
    let rest = formals_complete fs f (still m typed) (added x O) (declare x (meant typed (passed r)) Δ) Γ c'
    (known_more x (meant typed (passed r)) O (seen_by f (still m typed) Δ Γ) (certain_meant typed (passed r) s (certain_passed r)) g')
    (nil_right (twice (innermost O) at x) _ (nil_right (names_type t O) _ n)) (nil_right (kinds_type t (seen_by f m Δ Γ)) _ k) in
    (procedural_formal r typed _ s rest.0, rest.1)

local_sound : (t : Typed) (ds : Declares) → SoundTyped t → SoundDeclares ds → SoundDeclares (local t ds)
local_sound (Types.Typed.sound t) (Statements.Declares.sound ds) s h = tt
local_sound (Types.Typed.sound t) Statements.Declares.unsound s h = h
local_sound (Types.Typed.broken n) ds s h = s
local_sound Types.Typed.unsound ds s h = s

unseen_sound : (t : Typed) (ds : Declares) → SoundTyped t → SoundDeclares ds → SoundDeclares (unseen t ds)
unseen_sound (Types.Typed.sound t) ds s h = h
unseen_sound (Types.Typed.broken n) ds s h = s
unseen_sound Types.Typed.unsound ds s h = s

proc_sound : (m : Meaning) (b : Blocked) (ds : Declares) → Procedural m → SoundBlocked b → SoundDeclares ds → SoundDeclares (proc m b ds)
proc_sound (procedure fs ts) (Statements.Blocked.sound b) (Statements.Declares.sound ds) p h k = tt
proc_sound (procedure fs ts) (Statements.Blocked.sound b) Statements.Declares.unsound p h k = k
proc_sound (procedure fs ts) Statements.Blocked.unsound ds p h k = h
proc_sound (variable t) b ds p h k = p
proc_sound (reference t) b ds p h k = p
proc_sound (type_name t) b ds p h k = p
proc_sound Meaning.unsound b ds p h k = p

then_sound : (a : Acted) (xs : Listed) → SoundActed a → SoundListed xs → SoundListed (then a xs)
then_sound (Statements.Acted.sound a) (Statements.Listed.sound xs) h k = tt
then_sound (Statements.Acted.sound a) Statements.Listed.unsound h k = k
then_sound (Statements.Acted.broken n) xs h k = h
then_sound Statements.Acted.unsound xs h k = h

with_actions_sound : (ds : Declares) (xs : Listed) → SoundDeclares ds → SoundListed xs → SoundBlocked (with_actions ds xs)
with_actions_sound (Statements.Declares.sound ds) (Statements.Listed.sound xs) h k = tt
with_actions_sound (Statements.Declares.sound ds) Statements.Listed.unsound h k = k
with_actions_sound Statements.Declares.unsound xs h k = h

mutual
  action_complete : (s : Statement) (Δ : Open) (Γ : Scope) → Known Δ Γ → Nil (names_statement s Δ) → Nil (kinds_statement s Γ) → SoundActed (action_of s Γ)
  action_complete (Tree.eval at e) Δ Γ g n k = eval_sound (form_of e Γ) (form_complete e Δ Γ g n k)
  action_complete (Tree.if_then at e b) Δ Γ g n k =
      let own = own_action (action_of (Tree.if_then at e b) Γ) at in
      let j = nil_right own (kinds e Γ ++ kinds_block b Γ) k in
      action_sound _ at
      (on_block (block_of b Γ) _ (block_complete b Δ Γ g (nil_right (names e Δ) _ n) (nil_right (kinds e Γ) _ j)) (λ c.
      on_test (form_of e Γ) (λ v. Statements.Acted.sound (Rule.choose v c)) (form_complete e Δ Γ g (nil_left _ _ n) (nil_left _ _ j)) (λ v. tt)))
      (nil_left own (kinds e Γ ++ kinds_block b Γ) k)
  action_complete (Tree.if_else at e b c) Δ Γ g n k =
      let own = own_action (action_of (Tree.if_else at e b c) Γ) at in
      let j = nil_right own (kinds e Γ ++ (kinds_block b Γ ++ kinds_block c Γ)) k in
      let i = nil_right (kinds e Γ) (kinds_block b Γ ++ kinds_block c Γ) j in
      let m = nil_right (names e Δ) (names_block b Δ ++ names_block c Δ) n in
      action_sound _ at
      (on_block (block_of b Γ) _ (block_complete b Δ Γ g (nil_left _ _ m) (nil_left _ _ i)) (λ b'.
      on_block (block_of c Γ) _ (block_complete c Δ Γ g (nil_right (names_block b Δ) _ m) (nil_right (kinds_block b Γ) _ i)) (λ c'.
      on_test (form_of e Γ) (λ v. Statements.Acted.sound (Rule.choose_else v b' c')) (form_complete e Δ Γ g (nil_left _ _ n) (nil_left _ _ j)) (λ v. tt))))
      (nil_left own (kinds e Γ ++ (kinds_block b Γ ++ kinds_block c Γ)) k)
  action_complete (Tree.while at e b) Δ Γ g n k =
      let own = own_action (action_of (Tree.while at e b) Γ) at in
      let j = nil_right own (kinds e Γ ++ kinds_block b Γ) k in
      action_sound _ at
      (on_block (block_of b Γ) _ (block_complete b Δ Γ g (nil_right (names e Δ) _ n) (nil_right (kinds e Γ) _ j)) (λ c.
      on_test (form_of e Γ) (λ v. Statements.Acted.sound (Rule.repeat v c)) (form_complete e Δ Γ g (nil_left _ _ n) (nil_left _ _ j)) (λ v. tt)))
      (nil_left own (kinds e Γ ++ kinds_block b Γ) k)
  action_complete (Tree.read at e) Δ Γ g n k =
      let own = own_action (action_of (Tree.read at e) Γ) at in
      action_sound _ at
      (on_form (form_of e Γ) _ (form_complete e Δ Γ g n (nil_right own _ k)) (λ f t.
      decided_scalar t _ _ (decided_onto f _ (λ p. tt)) (decided_onto f _ (λ p. tt))))
      (nil_left own (kinds e Γ) k)
  action_complete (Tree.write at e) Δ Γ g n k =
      let own = own_action (action_of (Tree.write at e) Γ) at in
      action_sound _ at
      (on_form (form_of e Γ) _ (form_complete e Δ Γ g n (nil_right own _ k)) (λ f t. decided_scalar t _ _ tt tt))
      (nil_left own (kinds e Γ) k)
  action_complete (Tree.nl at) Δ Γ g n k = tt
  action_complete (Tree.call at here x es) Δ Γ g n k =
      let own = own_action (action_of (Tree.call at here x es) Γ) at in
      let j = nil_right own (callee (meaning_of x Γ) here ++ kinds_all es Γ) k in
      action_sound _ at
      (decided_called (number_of x Γ) (meaning_of x Γ) (forms_of es Γ) here (g x (is_known Δ here x (nil_left _ _ n))) (nil_left _ _ j)
      (forms_complete es Δ Γ g (nil_right (undeclared Δ here x) _ n) (nil_right (callee (meaning_of x Γ) here) _ j)))
      (nil_left own (callee (meaning_of x Γ) here ++ kinds_all es Γ) k)
  action_complete (Tree.compound b) Δ Γ g n k = inner_sound (block_of b Γ) (block_complete b Δ Γ g n k)

  actions_complete : (ss : Statements) (Δ : Open) (Γ : Scope) → Known Δ Γ → Nil (names_statements ss Δ) → Nil (kinds_statements ss Γ) → SoundListed (actions_of ss Γ)
  actions_complete Tree.no_statement Δ Γ g n k = tt
  actions_complete (Tree.statement s ss) Δ Γ g n k =
      then_sound (action_of s Γ) (actions_of ss Γ) (action_complete s Δ Γ g (nil_left _ _ n) (nil_left _ _ k))
      (actions_complete ss Δ Γ g (nil_right (names_statement s Δ) _ n) (nil_right (kinds_statement s Γ) _ k))

  declarations_complete : (ds : DeclarationTrees) (Δ : Open) (Γ : Scope) → Known Δ Γ → Nil (names_declarations ds Δ) → Nil (kinds_declarations ds Γ) →
      SoundDeclares (declarations_of ds Γ) × Known (open_declarations ds Δ) (scope_of ds Γ)
  declarations_complete Tree.no_declaration Δ Γ g n k = (tt, g)
  declarations_complete (Tree.variable t at x ds) Δ Γ g n k =
      let s = type_complete t Δ Γ g (nil_left _ _ n) (nil_left _ _ k) in
      let rest = declarations_complete ds (added x Δ) (declare x (meant (type_of t Γ) variable) Γ)
      (known_more x (meant (type_of t Γ) variable) Δ Γ (certain_meant (type_of t Γ) variable s (λ u. tt)) g)
      (nil_right (twice (innermost Δ) at x) _ (nil_right (names_type t Δ) _ n)) (nil_right (kinds_type t Γ) _ k) in
      (local_sound (type_of t Γ) _ s rest.0, rest.1)
  declarations_complete (Tree.type_name t at x ds) Δ Γ g n k =
      let s = type_complete t Δ Γ g (nil_left _ _ n) (nil_left _ _ k) in
      let rest = declarations_complete ds (added x Δ) (declare x (meant (type_of t Γ) type_name) Γ)
      (known_more x (meant (type_of t Γ) type_name) Δ Γ (certain_meant (type_of t Γ) type_name s (λ u. tt)) g)
      (nil_right (twice (innermost Δ) at x) _ (nil_right (names_type t Δ) _ n)) (nil_right (kinds_type t Γ) _ k) in
      (unseen_sound (type_of t Γ) _ s rest.0, rest.1)
  declarations_complete (Tree.procedure at x fs b ds) Δ Γ g n k =
      let O = [] ∷ added x Δ in
      let n₁ = nil_right (twice (innermost Δ) at x) (names_formals fs O ++ (names_block b (open_formals fs O) ++ names_declarations ds (added x Δ))) n in
      let n₂ = nil_right (names_formals fs O) (names_block b (open_formals fs O) ++ names_declarations ds (added x Δ)) n₁ in
      let k₁ = nil_right (kinds_formals fs x plain [] Γ) (kinds_block b (inside x fs Γ) ++ kinds_declarations ds (procedure_scope x fs Γ)) k in
      let f = formals_complete fs x plain O [] Γ tt (known_more x plain Δ Γ tt g) (nil_left _ _ n₁) (nil_left _ _ k) in
      let c = procedural_certain (signature_of x fs Γ) f.0 in
      let inner = block_complete b (open_formals fs O) (inside x fs Γ) (f.1 (signature_of x fs Γ) c) (nil_left _ _ n₂) (nil_left _ _ k₁) in
      let rest = declarations_complete ds (added x Δ) (procedure_scope x fs Γ) (known_more x (signature_of x fs Γ) Δ Γ c g)
      (nil_right (names_block b (open_formals fs O)) _ n₂) (nil_right (kinds_block b (inside x fs Γ)) _ k₁) in
      (proc_sound (signature_of x fs Γ) (block_of b (inside x fs Γ)) _ f.0 inner rest.0, rest.1)

  pub block_complete : (t : BlockTree) (Δ : Open) (Γ : Scope) → Known Δ Γ → Nil (names_block t Δ) → Nil (kinds_block t Γ) → SoundBlocked (block_of t Γ)
  block_complete (Tree.block at ds ss) Δ Γ g n k =
      let d = declarations_complete ds ([] ∷ Δ) Γ g (nil_left _ _ n) (nil_left _ _ k) in
      with_actions_sound (declarations_of ds Γ) (actions_of ss (scope_of ds Γ)) d.0
      (actions_complete ss (open_declarations ds ([] ∷ Δ)) (scope_of ds Γ) d.1
      (nil_right (names_declarations ds ([] ∷ Δ)) _ n) (nil_right (kinds_declarations ds Γ) _ k))

blocked : (x : Blocked) → SoundBlocked x → (b : Block) × (x ≡ Statements.Blocked.sound b)
blocked (Statements.Blocked.sound b) h = (b, refl)
blocked Statements.Blocked.unsound h = absurd h

pub complete : (t : BlockTree) → names_block t [] ≡ [] → kinds_block t [] ≡ [] → (b : Block) × (block_of t [] ≡ Statements.Blocked.sound b)
complete t n k = blocked (block_of t []) (block_complete t [] [] (λ x h. absurd h) (nil n) (nil k))
