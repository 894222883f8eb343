-- What the stage of sizes lets pass is small.
use Rattle.std.proofs.Common.{ℕ, Bool, true, false, T, List, [], ◌++◌, ℤ, pos}
use Rattle.tiny.specs.Tree.{Name, Formals, Statement, Statements, DeclarationTrees, BlockTree}
use Rattle.tiny.specs.Tree as Tree
use Rattle.meaning.specs.Rule.{Place, Value, Block}
use Rattle.meaning.specs.Rule as Rule
use Rattle.meaning.specs.Types.{Ty, int, bool, array, struct, fits, Meaning, variable, reference, type_name, procedure, Scope, meaning_of, number_of, Typed, type_of, Form, place, value, copies, Formed, read_of, form_of}
use Rattle.meaning.specs.Types as Types
use Rattle.meaning.specs.Statements.{Acted, Blocked, Listed, Declares, Given, given, forms_of, when_expression, when_block, test, dropped, onto, by_scalar, calling, called, meant, declare, passed, still, seen_by, with_formal, signature_from, formals_from, plain, signature_of, procedure_scope, inside, scope_of, local, unseen, proc, then, with_actions, action_of, actions_of, declarations_of, block_of}
use Rattle.meaning.specs.Statements as Statements
use Rattle.meaning.specs.Stages.{large_type, large_formals, brace, large_frame, large_statement, large_statements, large_declarations, large_block, large_program}
use Rattle.meaning.specs.Evaluation.{frame_size}
use Rattle.meaning.specs.Small.{WrittenFormals, WrittenStatement, WrittenStatements, WrittenDeclarations, Written, SmallPlace, SmallValue, SmallAction, SmallActions, SmallDeclarations, SmallBlock, Small}
use Rattle.meaning.proofs.Nil.{Nil, nil_left, nil_right, either}
use Rattle.meaning.proofs.SmallForms.{SmallTy, small_size, SmallMeaning, SmallScope, small_append, small_meaning, SmallTyped, type_small, SmallForm, SmallFormed, small_read, form_small, SmallGiven, AllSmall, forms_small, given_small, not_larger}

module _ (P : ℤ → Bool) (zero_is : T (P (pos 0))) (one-is : T (P (pos 1))) where
  abbrev pub SmallActed : Acted → Type 0
  SmallActed (Statements.Acted.sound a) = SmallAction P a
  SmallActed (Statements.Acted.broken n) = Unit {0}
  SmallActed Statements.Acted.unsound = Unit {0}

  abbrev pub SmallListed : Listed → Type 0
  SmallListed (Statements.Listed.sound xs) = SmallActions P xs
  SmallListed Statements.Listed.unsound = Unit {0}

  abbrev pub SmallDeclares : Declares → Type 0
  SmallDeclares (Statements.Declares.sound ds) = SmallDeclarations P ds
  SmallDeclares Statements.Declares.unsound = Unit {0}

  abbrev pub SmallBlocked : Blocked → Type 0
  SmallBlocked (Statements.Blocked.sound b) = SmallBlock P b
  SmallBlocked Statements.Blocked.unsound = Unit {0}

  on_form : (x : Formed) (k : Form → Ty → Acted) → SmallFormed P zero_is one-is x → ((f : Form) (t : Ty) → SmallForm P zero_is one-is f → SmallActed (k f t)) → SmallActed (when_expression x k)
  on_form (Types.Formed.sound f t) k h g = g f t h.0
  on_form (Types.Formed.broken n) k h g = tt
  on_form Types.Formed.unsound k h g = tt

  on_block : (x : Blocked) (k : Block → Acted) → SmallBlocked x → ((b : Block) → SmallBlock P b → SmallActed (k b)) → SmallActed (when_block x k)
  on_block (Statements.Blocked.sound b) k h g = g b h
  on_block Statements.Blocked.unsound k h g = tt

  on_test : (x : Formed) (k : Value → Acted) → SmallFormed P zero_is one-is x → ((v : Value) → SmallValue P v → SmallActed (k v)) → SmallActed (test x k)
  on_test x k h g = on_form x _ h (λ f t i. either SmallActed (fits bool t) _ _ (λ _. g (read_of f) (small_read P zero_is one-is f i)) tt)

  small_dropped : (f : Form) → SmallForm P zero_is one-is f → SmallAction P (dropped f)
  small_dropped (place p) h = h
  small_dropped (value v) h = h
  small_dropped (copies p q n) h = h

  small_onto : (f : Form) (k : Place → Acted) → SmallForm P zero_is one-is f → ((p : Place) → SmallPlace P p → SmallActed (k p)) → SmallActed (onto f k)
  small_onto (place p) k h g = g p h
  small_onto (value v) k h g = tt
  small_onto (copies p q n) k h g = tt

  small_by_scalar : (t : Ty) (a b : Acted) → SmallActed a → SmallActed b → SmallActed (by_scalar t a b)
  small_by_scalar int a b h k = h
  small_by_scalar bool a b h k = k
  small_by_scalar (array t n) a b h k = tt
  small_by_scalar (struct ms) a b h k = tt

  small_calling : (i : ℕ) (x : Given) → SmallGiven P zero_is one-is x → SmallActed (calling i x)
  small_calling i (Statements.Given.sound xs) h = h
  small_calling i (Statements.Given.broken n) h = tt
  small_calling i Statements.Given.unsound h = tt

  small_called : (i : ℕ) (m : Meaning) (gs : List Formed) → SmallMeaning P zero_is one-is m → AllSmall P zero_is one-is gs → SmallActed (called i m gs)
  small_called i (variable t) gs s h = tt
  small_called i (reference t) gs s h = tt
  small_called i (type_name t) gs s h = tt
  small_called i (procedure fs ts) gs s h = small_calling i (given fs ts gs) (given_small P zero_is one-is fs ts gs s.1 h)
  small_called i Meaning.unsound gs s h = tt

  small_then : (a : Acted) (xs : Listed) → SmallActed a → SmallListed xs → SmallListed (then a xs)
  small_then (Statements.Acted.sound a) (Statements.Listed.sound xs) h k = (h, k)
  small_then (Statements.Acted.sound a) Statements.Listed.unsound h k = tt
  small_then (Statements.Acted.broken n) xs h k = tt
  small_then Statements.Acted.unsound xs h k = tt

  small_with_actions : (ds : Declares) (xs : Listed) → SmallDeclares ds → SmallListed xs → SmallBlocked (with_actions ds xs)
  small_with_actions (Statements.Declares.sound ds) (Statements.Listed.sound xs) h k = (h, k)
  small_with_actions (Statements.Declares.sound ds) Statements.Listed.unsound h k = tt
  small_with_actions Statements.Declares.unsound xs h k = tt

  -- Declarations.

  small_meant : (t : Typed) (k : Ty → Meaning) → SmallTyped P zero_is one-is t → ((u : Ty) → SmallTy P zero_is one-is u → SmallMeaning P zero_is one-is (k u)) → SmallMeaning P zero_is one-is (meant t k)
  small_meant (Types.Typed.sound t) k h g = g t h
  small_meant (Types.Typed.broken n) k h g = tt
  small_meant Types.Typed.unsound k h g = tt

  small_passed : (r : Bool) (t : Ty) → SmallTy P zero_is one-is t → SmallMeaning P zero_is one-is (passed r t)
  small_passed true t h = h
  small_passed false t h = h

  small_still : (m : Meaning) (t : Typed) → SmallMeaning P zero_is one-is m → SmallMeaning P zero_is one-is (still m t)
  small_still m (Types.Typed.sound t) h = h
  small_still m (Types.Typed.broken n) h = tt
  small_still m Types.Typed.unsound h = tt

  small_with_formal : (r : Bool) (t : Typed) (m : Meaning) → SmallTyped P zero_is one-is t → SmallMeaning P zero_is one-is m → SmallMeaning P zero_is one-is (with_formal r t m)
  small_with_formal true (Types.Typed.sound t) (procedure fs ts) h k = ((small_size P zero_is one-is t h, k.0), (h, k.1))
  small_with_formal false (Types.Typed.sound t) (procedure fs ts) h k = ((small_size P zero_is one-is t h, k.0), (h, k.1))
  small_with_formal r (Types.Typed.sound t) (variable u) h k = tt
  small_with_formal r (Types.Typed.sound t) (reference u) h k = tt
  small_with_formal r (Types.Typed.sound t) (type_name u) h k = tt
  small_with_formal r (Types.Typed.sound t) Meaning.unsound h k = tt
  small_with_formal r (Types.Typed.broken n) m h k = tt
  small_with_formal r Types.Typed.unsound m h k = tt

  small_formals : (fs : Formals) (f : Name) (m : Meaning) (Δ Γ : Scope) → WrittenFormals P fs → SmallMeaning P zero_is one-is m → SmallScope P zero_is one-is Δ → SmallScope P zero_is one-is Γ →
      Nil (large_formals fs f m Δ Γ) → SmallMeaning P zero_is one-is (signature_from fs f m Δ Γ) × SmallScope P zero_is one-is (formals_from fs f m Δ Γ)
  small_formals Tree.no_formal f m Δ Γ w s d g h = ((tt, tt), d)
  small_formals (Tree.formal t r at x fs) f m Δ Γ w s d g h =
      let seen : Scope = seen_by f m Δ Γ in
      let typed : Typed = type_of t seen in
      let i : SmallTyped P zero_is one-is typed = type_small P zero_is one-is t seen w.0 (small_append P zero_is one-is Δ (declare f m Γ) d (s, g)) (nil_left _ _ h) in
      let rest = small_formals fs f (still m typed) (declare x (meant typed (passed r)) Δ) Γ w.1 (small_still m typed s)
      (small_meant typed (passed r) i (small_passed r), d) g (nil_right (large_type t seen) _ h) in
      (small_with_formal r typed _ i rest.0, rest.1)

  small_local : (t : Typed) (ds : Declares) → SmallTyped P zero_is one-is t → SmallDeclares ds → SmallDeclares (local t ds)
  small_local (Types.Typed.sound t) (Statements.Declares.sound ds) h k = (small_size P zero_is one-is t h, k)
  small_local (Types.Typed.sound t) Statements.Declares.unsound h k = tt
  small_local (Types.Typed.broken n) ds h k = tt
  small_local Types.Typed.unsound ds h k = tt

  small_unseen : (t : Typed) (ds : Declares) → SmallDeclares ds → SmallDeclares (unseen t ds)
  small_unseen (Types.Typed.sound t) ds k = k
  small_unseen (Types.Typed.broken n) ds k = tt
  small_unseen Types.Typed.unsound ds k = tt

  small_proc : (m : Meaning) (b : Blocked) (ds : Declares) (at : ℕ) → SmallMeaning P zero_is one-is m → SmallBlocked b → Nil (large_frame m b at) → SmallDeclares ds → SmallDeclares (proc m b ds)
  small_proc (procedure fs ts) (Statements.Blocked.sound b) (Statements.Declares.sound ds) at s h n k = (s.0, not_larger (frame_size fs b) at n, h, k)
  small_proc (procedure fs ts) (Statements.Blocked.sound b) Statements.Declares.unsound at s h n k = tt
  small_proc (procedure fs ts) Statements.Blocked.unsound ds at s h n k = tt
  small_proc (variable t) b ds at s h n k = tt
  small_proc (reference t) b ds at s h n k = tt
  small_proc (type_name t) b ds at s h n k = tt
  small_proc Meaning.unsound b ds at s h n k = tt

  mutual
    action_small : (s : Statement) (Γ : Scope) → WrittenStatement P s → SmallScope P zero_is one-is Γ → Nil (large_statement s Γ) → SmallActed (action_of s Γ)
    action_small (Tree.eval at e) Γ w g h = on_form (form_of e Γ) _ (form_small P zero_is one-is e Γ w g) (λ f t i. small_dropped f i)
    action_small (Tree.if_then at e b) Γ w g h =
        on_block (block_of b Γ) _ (block_small b Γ w.1 g h) (λ c i.
        on_test (form_of e Γ) (λ v. Statements.Acted.sound (Rule.choose v c)) (form_small P zero_is one-is e Γ w.0 g) (λ v j. (j, i)))
    action_small (Tree.if_else at e b c) Γ w g h =
        on_block (block_of b Γ) _ (block_small b Γ w.1 g (nil_left _ _ h)) (λ b' i.
        on_block (block_of c Γ) _ (block_small c Γ w.2 g (nil_right (large_block b Γ) _ h)) (λ c' k.
        on_test (form_of e Γ) (λ v. Statements.Acted.sound (Rule.choose_else v b' c')) (form_small P zero_is one-is e Γ w.0 g) (λ v j. (j, i, k))))
    action_small (Tree.while at e b) Γ w g h =
        on_block (block_of b Γ) _ (block_small b Γ w.1 g h) (λ c i.
        on_test (form_of e Γ) (λ v. Statements.Acted.sound (Rule.repeat v c)) (form_small P zero_is one-is e Γ w.0 g) (λ v j. (j, i)))
    action_small (Tree.read at e) Γ w g h =
        on_form (form_of e Γ) _ (form_small P zero_is one-is e Γ w g) (λ f t i. small_by_scalar t _ _ (small_onto f _ i (λ p j. j)) (small_onto f _ i (λ p j. j)))
    action_small (Tree.write at e) Γ w g h =
        on_form (form_of e Γ) _ (form_small P zero_is one-is e Γ w g) (λ f t i. small_by_scalar t _ _ (small_read P zero_is one-is f i) (small_read P zero_is one-is f i))
    action_small (Tree.nl at) Γ w g h = tt
    action_small (Tree.call at here x es) Γ w g h =
        small_called (number_of x Γ) (meaning_of x Γ) (forms_of es Γ) (small_meaning P zero_is one-is x Γ g) (forms_small P zero_is one-is es Γ w g)
    action_small (Tree.compound b) Γ w g h = on_block (block_of b Γ) _ (block_small b Γ w g h) (λ c i. i)

    actions_small : (ss : Statements) (Γ : Scope) → WrittenStatements P ss → SmallScope P zero_is one-is Γ → Nil (large_statements ss Γ) → SmallListed (actions_of ss Γ)
    actions_small Tree.no_statement Γ w g h = tt
    actions_small (Tree.statement s ss) Γ w g h =
        small_then (action_of s Γ) (actions_of ss Γ) (action_small s Γ w.0 g (nil_left _ _ h)) (actions_small ss Γ w.1 g (nil_right (large_statement s Γ) _ h))

    declarations_small : (ds : DeclarationTrees) (Γ : Scope) → WrittenDeclarations P ds → SmallScope P zero_is one-is Γ → Nil (large_declarations ds Γ) →
        SmallDeclares (declarations_of ds Γ) × SmallScope P zero_is one-is (scope_of ds Γ)
    declarations_small Tree.no_declaration Γ w g h = (tt, g)
    declarations_small (Tree.variable t at x ds) Γ w g h =
        let i = type_small P zero_is one-is t Γ w.0 g (nil_left _ _ h) in
        let rest = declarations_small ds (declare x (meant (type_of t Γ) variable) Γ) w.1 (small_meant (type_of t Γ) variable i (λ u j. j), g)
        (nil_right (large_type t Γ) _ h) in
        (small_local (type_of t Γ) _ i rest.0, rest.1)
    declarations_small (Tree.type_name t at x ds) Γ w g h =
        let i = type_small P zero_is one-is t Γ w.0 g (nil_left _ _ h) in
        let rest = declarations_small ds (declare x (meant (type_of t Γ) type_name) Γ) w.1 (small_meant (type_of t Γ) type_name i (λ u j. j), g)
        (nil_right (large_type t Γ) _ h) in
        (small_unseen (type_of t Γ) _ rest.0, rest.1)
    declarations_small (Tree.procedure at x fs b ds) Γ w g h =
        let frame = large_frame (signature_of x fs Γ) (block_of b (inside x fs Γ)) (brace b) in
        let h₁ = nil_right (large_formals fs x plain [] Γ) (large_block b (inside x fs Γ) ++ (frame ++ large_declarations ds (procedure_scope x fs Γ))) h in
        let h₂ = nil_right (large_block b (inside x fs Γ)) (frame ++ large_declarations ds (procedure_scope x fs Γ)) h₁ in
        let f = small_formals fs x plain [] Γ w.0 (tt, tt) tt g (nil_left _ _ h) in
        let i = block_small b (inside x fs Γ) w.1 (small_append P zero_is one-is (formals_from fs x plain [] Γ) (procedure_scope x fs Γ) f.1 (f.0, g)) (nil_left _ _ h₁) in
        let rest = declarations_small ds (procedure_scope x fs Γ) w.2 (f.0, g) (nil_right frame _ h₂) in
        (small_proc (signature_of x fs Γ) (block_of b (inside x fs Γ)) _ (brace b) f.0 i (nil_left frame (large_declarations ds (procedure_scope x fs Γ)) h₂) rest.0, rest.1)

    pub block_small : (t : BlockTree) (Γ : Scope) → Written P t → SmallScope P zero_is one-is Γ → Nil (large_block t Γ) → SmallBlocked (block_of t Γ)
    block_small (Tree.block at ds ss) Γ w g h =
        let d = declarations_small ds Γ w.0 g (nil_left _ _ h) in
        small_with_actions (declarations_of ds Γ) (actions_of ss (scope_of ds Γ)) d.0
        (actions_small ss (scope_of ds Γ) w.1 d.1 (nil_right (large_declarations ds Γ) _ h))

  abbrev pub SmallProgram : Blocked → Type 0
  SmallProgram (Statements.Blocked.sound b) = Small P b
  SmallProgram Statements.Blocked.unsound = Unit {0}

  whole_small : (x : Blocked) (at : ℕ) → SmallBlocked x → Nil (large_frame (procedure [] []) x at) → SmallProgram x
  whole_small (Statements.Blocked.sound b) at h n = (h, not_larger (frame_size [] b) at n)
  whole_small Statements.Blocked.unsound at h n = tt

  pub program_small : (t : BlockTree) → Written P t → Nil (large_program t) → SmallProgram (block_of t [])
  program_small t w h = whole_small (block_of t []) (brace t) (block_small t [] w tt (nil_left _ _ h)) (nil_right (large_block t []) _ h)
