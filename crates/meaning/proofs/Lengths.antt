-- How long code is.
use Rattle.std.proofs.Common.{◌≡◌, ℕ, zero, suc, ◌+◌, List, [], ◌∷◌, ◌++◌, length, refl, ◌∙◌, subst, arith, length-append}
use Rattle.machine.specs.declared.instruction.Instruction.{Instruction}
use Rattle.machine.specs.declared.instruction.Instruction.TheVariants.{St, Copy, Enter}
use Rattle.meaning.specs.Rule.{Place, Value, Argument, Formal, Action, Actions, Declarations, Block}
use Rattle.meaning.specs.Rule as Rule
use Rattle.meaning.specs.Evaluation.{formal_size, formals_size, own_size, frame_size}
use Rattle.meaning.specs.Code.{Entry, Scope, entry_of, place, value, argument, arguments, called, zeroing, declared, formals, action, actions, block, procs_action, procs_actions, procs_declared, procs_block, place_length, value_length, own_length, argument_length, arguments_length, action_length, actions_length, block_length, action_procs, actions_procs, declared_procs, block_procs}
use Rattle.meaning.specs.Code as Code
use Rattle.meaning.specs.Sound.{Slot, holds, refers, takes, missing, slot, slots, formal_slot, formal_slots, FitsArguments, FitsCall, FitsAction, FitsActions, FitsDeclarations, FitsBlock}

pub joined : (c d : List Instruction) (k j : ℕ) → length c ≡ k → length d ≡ j → length (c ++ d) ≡ k + j
joined c d k j p q = length-append c d ∙ both (length c) (length d) p q
  where
    both : (x y : ℕ) → x ≡ k → y ≡ j → x + y ≡ k + j
    both x y p q = omega arith

pub headed : (m j : ℕ) → m ≡ j → suc m ≡ 1 + j
headed m j e = omega arith

mutual
  pub place_long : (p : Place) (Γ : Scope) → length (place p Γ) ≡ place_length p
  place_long (Rule.variable i) Γ = refl
  place_long (Rule.reference i) Γ = refl
  place_long (Rule.field p k) Γ = joined (place p Γ) _ (place_length p) 1 (place_long p Γ) refl
  place_long (Rule.element p v n s) Γ = joined (place p Γ) _ (place_length p) (value_length v + 1) (place_long p Γ) (joined (value v Γ) _ (value_length v) 1 (value_long v Γ) refl)

  pub value_long : (v : Value) (Γ : Scope) → length (value v Γ) ≡ value_length v
  value_long (Rule.literal z) Γ = refl
  value_long (Rule.content p) Γ = joined (place p Γ) _ (place_length p) 1 (place_long p Γ) refl
  value_long (Rule.unary o v) Γ = joined (value v Γ) _ (value_length v) 1 (value_long v Γ) refl
  value_long (Rule.binary o u v) Γ = joined (value u Γ) _ (value_length u) (value_length v + 1) (value_long u Γ) (joined (value v Γ) _ (value_length v) 1 (value_long v Γ) refl)
  value_long (Rule.store p v) Γ = joined (place p Γ) _ (place_length p) (value_length v + 1) (place_long p Γ) (joined (value v Γ) _ (value_length v) 1 (value_long v Γ) refl)

-- a scope of the code beside the slots of the checks
abbrev pub ShapeEntry : Entry → Slot → Type 0
ShapeEntry (Code.at l k) (holds s) = Unit {0}
ShapeEntry (Code.at l k) (refers s) = Unit {0}
ShapeEntry (Code.at l k) (takes fs) = ⊥
ShapeEntry (Code.at l k) missing = ⊥
ShapeEntry (Code.procedure fs sz lv t) (holds s) = ⊥
ShapeEntry (Code.procedure fs sz lv t) (refers s) = ⊥
ShapeEntry (Code.procedure fs sz lv t) (takes fs') = fs' ≡ fs
ShapeEntry (Code.procedure fs sz lv t) missing = ⊥

abbrev pub Shape : Scope → List Slot → Type 0
Shape [] [] = Unit {0}
Shape [] (x ∷ σ) = ⊥
Shape (e ∷ Γ) [] = ⊥
Shape (e ∷ Γ) (x ∷ σ) = ShapeEntry e x × Shape Γ σ

pub shape_declared : (ds : Declarations) (l k t : ℕ) (Γ : Scope) (σ : List Slot) → Shape Γ σ → Shape (declared ds l k t Γ) (slots ds σ)
shape_declared Rule.none l k t Γ σ h = h
shape_declared (Rule.local s ds) l k t Γ σ h = shape_declared ds l (k + s) t (Code.at l k ∷ Γ) (holds s ∷ σ) (tt, h)
shape_declared (Rule.proc fs b ds) l k t Γ σ h =
    shape_declared ds l k (t + (block_length b + 1 + block_procs b)) (Code.procedure fs (frame_size fs b) (suc l) t ∷ Γ) (takes fs ∷ σ) (refl, h)

shape_formal : (f : Formal) (l k : ℕ) → ShapeEntry (Code.at l k) (formal_slot f)
shape_formal (Rule.by_value s) l k = tt
shape_formal (Rule.by_reference s) l k = tt

pub shape_formals : (fs : List Formal) (l k : ℕ) (Γ : Scope) (σ : List Slot) → Shape Γ σ → Shape (formals fs l k Γ) (formal_slots fs σ)
shape_formals [] l k Γ σ h = h
shape_formals (f ∷ fs) l k Γ σ h = shape_formals fs l (k + formal_size f) (Code.at l k ∷ Γ) (formal_slot f ∷ σ) (shape_formal f l k, h)

pub argument_long : (x : Argument) (Γ : Scope) → suc (suc (length (argument x Γ))) ≡ argument_length x
argument_long (Rule.value v) Γ = let e = joined (value v Γ) (St ∷ []) (value_length v) 1 (value_long v Γ) refl in omega (arith, e)
argument_long (Rule.address p) Γ = let e = joined (place p Γ) (St ∷ []) (place_length p) 1 (place_long p Γ) refl in omega (arith, e)
argument_long (Rule.copied p n) Γ = let e = joined (place p Γ) (Copy n ∷ []) (place_length p) 1 (place_long p Γ) refl in omega (arith, e)

pub arguments_long : (fs : List Formal) (xs : List Argument) (k : ℕ) (Γ : Scope) (σ : List Slot) → FitsArguments fs xs σ → length (arguments fs xs k Γ) ≡ arguments_length xs
arguments_long [] [] k Γ σ h = refl
arguments_long [] (x ∷ xs) k Γ σ h = absurd h
arguments_long (f ∷ fs) [] k Γ σ h = absurd h
arguments_long (f ∷ fs) (x ∷ xs) k Γ σ h =
    let e = length-append (argument x Γ) (arguments fs xs (k + formal_size f) Γ) in
    let r = arguments_long fs xs (k + formal_size f) Γ σ h.1 in
    omega (arith, e, r, argument_long x Γ)

called_long : (fs fs' : List Formal) (n l t : ℕ) (xs : List Argument) (Γ : Scope) (σ : List Slot) → fs' ≡ fs → FitsArguments fs' xs σ → length (called (Code.procedure fs n l t) xs Γ) ≡ 1 + (arguments_length xs + 1)
called_long fs fs' n l t xs Γ σ e h =
    headed _ (arguments_length xs + 1)
    (joined (arguments fs xs 2 Γ) (Enter l t ∷ []) (arguments_length xs) 1 (arguments_long fs xs 2 Γ σ (subst (λ (y : List Formal). FitsArguments y xs σ) e h)) refl)

call_long : (Γ' : Scope) (σ' : List Slot) (i : ℕ) (xs : List Argument) (Γ : Scope) (σ : List Slot) → Shape Γ' σ' → FitsCall (slot σ' i) xs σ → length (called (entry_of Γ' i) xs Γ) ≡ 1 + (arguments_length xs + 1)
call_long [] [] i xs Γ σ h f = absurd f
call_long [] (x ∷ σ') i xs Γ σ h f = absurd h
call_long (e ∷ Γ') [] i xs Γ σ h f = absurd h
call_long (Code.at l k ∷ Γ') (holds s ∷ σ') zero xs Γ σ h f = absurd f
call_long (Code.at l k ∷ Γ') (refers s ∷ σ') zero xs Γ σ h f = absurd f
call_long (Code.at l k ∷ Γ') (takes fs ∷ σ') zero xs Γ σ h f = absurd h.0
call_long (Code.at l k ∷ Γ') (missing ∷ σ') zero xs Γ σ h f = absurd f
call_long (Code.procedure fs n l t ∷ Γ') (holds s ∷ σ') zero xs Γ σ h f = absurd f
call_long (Code.procedure fs n l t ∷ Γ') (refers s ∷ σ') zero xs Γ σ h f = absurd f
call_long (Code.procedure fs n l t ∷ Γ') (takes fs' ∷ σ') zero xs Γ σ h f = called_long fs fs' n l t xs Γ σ h.0 f
call_long (Code.procedure fs n l t ∷ Γ') (missing ∷ σ') zero xs Γ σ h f = absurd f
call_long (e ∷ Γ') (x ∷ σ') (suc i) xs Γ σ h f = call_long Γ' σ' i xs Γ σ h.1 f

pub zeroing_long : (l k s : ℕ) → length (zeroing l k s) ≡ own_length s
zeroing_long l k zero = refl
zeroing_long l k (suc s) = refl

mutual
  pub action_long : (a : Action) (Γ : Scope) (σ : List Slot) (l k pc t : ℕ) → Shape Γ σ → FitsAction a σ l → length (action a Γ l k pc t) ≡ action_length a
  action_long (Rule.drop_place p) Γ σ l k pc t h f = joined (place p Γ) _ (place_length p) 1 (place_long p Γ) refl
  action_long (Rule.drop_value v) Γ σ l k pc t h f = joined (value v Γ) _ (value_length v) 1 (value_long v Γ) refl
  action_long (Rule.copy p q n) Γ σ l k pc t h f = joined (place p Γ) _ (place_length p) (place_length q + 1) (place_long p Γ) (joined (place q Γ) _ (place_length q) 1 (place_long q Γ) refl)
  action_long (Rule.choose v b) Γ σ l k pc t h f =
      joined (value v Γ) _ (value_length v) (1 + block_length b) (value_long v Γ) (headed _ (block_length b) (block_long b Γ σ l k (pc + (value_length v + 1)) t h f.1))
  action_long (Rule.choose_else v b c) Γ σ l k pc t h f =
      joined (value v Γ) _ (value_length v) (1 + (block_length b + (1 + block_length c))) (value_long v Γ)
      (headed _ (block_length b + (1 + block_length c)) (joined (block b Γ l k (pc + (value_length v + 1)) t) _ (block_length b) (1 + block_length c) (block_long b Γ σ l k (pc + (value_length v + 1)) t h f.1)
      (headed _ (block_length c) (block_long c Γ σ l k (pc + (value_length v + (1 + (block_length b + 1)))) (t + block_procs b) h f.2))))
  action_long (Rule.repeat v b) Γ σ l k pc t h f =
      joined (value v Γ) _ (value_length v) (1 + (block_length b + 1)) (value_long v Γ)
      (headed _ (block_length b + 1) (joined (block b Γ l k (pc + (value_length v + 1)) t) _ (block_length b) 1 (block_long b Γ σ l k (pc + (value_length v + 1)) t h f.1) refl))
  action_long (Rule.read_int p) Γ σ l k pc t h f = joined (place p Γ) _ (place_length p) 1 (place_long p Γ) refl
  action_long (Rule.read_bool p) Γ σ l k pc t h f = joined (place p Γ) _ (place_length p) 1 (place_long p Γ) refl
  action_long (Rule.write_int v) Γ σ l k pc t h f = joined (value v Γ) _ (value_length v) 1 (value_long v Γ) refl
  action_long (Rule.write_bool v) Γ σ l k pc t h f = joined (value v Γ) _ (value_length v) 1 (value_long v Γ) refl
  action_long Rule.newline Γ σ l k pc t h f = refl
  action_long (Rule.call i xs) Γ σ l k pc t h f = call_long Γ σ i xs Γ σ h f
  action_long (Rule.inner b) Γ σ l k pc t h f = block_long b Γ σ l k pc t h f

  pub actions_long : (xs : Actions) (Γ : Scope) (σ : List Slot) (l k pc t : ℕ) → Shape Γ σ → FitsActions xs σ l → length (actions xs Γ l k pc t) ≡ actions_length xs
  actions_long Rule.nothing Γ σ l k pc t h f = refl
  actions_long (Rule.◌then◌ a xs) Γ σ l k pc t h f =
      joined (action a Γ l k pc t) _ (action_length a) (actions_length xs) (action_long a Γ σ l k pc t h f.0) (actions_long xs Γ σ l k (pc + action_length a) (t + action_procs a) h f.1)

  pub block_long : (b : Block) (Γ : Scope) (σ : List Slot) (l k pc t : ℕ) → Shape Γ σ → FitsBlock b σ l → length (block b Γ l k pc t) ≡ block_length b
  block_long (Rule.block ds xs) Γ σ l k pc t h f =
      joined (zeroing l k (own_size ds)) _ (own_length (own_size ds)) (actions_length xs) (zeroing_long l k (own_size ds))
      (actions_long xs (declared ds l k t Γ) (slots ds σ) l (k + own_size ds) (pc + own_length (own_size ds)) (t + declared_procs ds) (shape_declared ds l k t Γ σ h) f.1)

mutual
  pub procs_action_long : (a : Action) (Γ : Scope) (σ : List Slot) (l k t : ℕ) → Shape Γ σ → FitsAction a σ l → length (procs_action a Γ l k t) ≡ action_procs a
  procs_action_long (Rule.drop_place p) Γ σ l k t h f = refl
  procs_action_long (Rule.drop_value v) Γ σ l k t h f = refl
  procs_action_long (Rule.copy p q n) Γ σ l k t h f = refl
  procs_action_long (Rule.choose v b) Γ σ l k t h f = procs_block_long b Γ σ l k t h f.1
  procs_action_long (Rule.choose_else v b c) Γ σ l k t h f =
      joined (procs_block b Γ l k t) _ (block_procs b) (block_procs c) (procs_block_long b Γ σ l k t h f.1) (procs_block_long c Γ σ l k (t + block_procs b) h f.2)
  procs_action_long (Rule.repeat v b) Γ σ l k t h f = procs_block_long b Γ σ l k t h f.1
  procs_action_long (Rule.read_int p) Γ σ l k t h f = refl
  procs_action_long (Rule.read_bool p) Γ σ l k t h f = refl
  procs_action_long (Rule.write_int v) Γ σ l k t h f = refl
  procs_action_long (Rule.write_bool v) Γ σ l k t h f = refl
  procs_action_long Rule.newline Γ σ l k t h f = refl
  procs_action_long (Rule.call i xs) Γ σ l k t h f = refl
  procs_action_long (Rule.inner b) Γ σ l k t h f = procs_block_long b Γ σ l k t h f

  pub procs_actions_long : (xs : Actions) (Γ : Scope) (σ : List Slot) (l k t : ℕ) → Shape Γ σ → FitsActions xs σ l → length (procs_actions xs Γ l k t) ≡ actions_procs xs
  procs_actions_long Rule.nothing Γ σ l k t h f = refl
  procs_actions_long (Rule.◌then◌ a xs) Γ σ l k t h f =
      joined (procs_action a Γ l k t) _ (action_procs a) (actions_procs xs) (procs_action_long a Γ σ l k t h f.0) (procs_actions_long xs Γ σ l k (t + action_procs a) h f.1)

  pub procs_declared_long : (ds : Declarations) (Γ : Scope) (σ : List Slot) (l k t : ℕ) → Shape Γ σ → FitsDeclarations ds σ l → length (procs_declared ds Γ l k t) ≡ declared_procs ds
  procs_declared_long Rule.none Γ σ l k t h f = refl
  procs_declared_long (Rule.local s ds) Γ σ l k t h f = procs_declared_long ds (Code.at l k ∷ Γ) (holds s ∷ σ) l (k + s) t (tt, h) f
  procs_declared_long (Rule.proc fs b ds) Γ σ l k t h f =
      let here : Scope = Code.procedure fs (frame_size fs b) (suc l) t ∷ Γ in
      let within : Scope = formals fs (suc l) 2 here in
      let shape = shape_formals fs (suc l) 2 here (takes fs ∷ σ) (refl, h) in
      let rest = procs_declared_long ds here (takes fs ∷ σ) l k (t + (block_length b + 1 + block_procs b)) (refl, h) f.2 in
      let own = block_long b within (formal_slots fs (takes fs ∷ σ)) (suc l) (2 + formals_size fs) t (t + (block_length b + 1)) shape f.1 in
      let inner = procs_block_long b within (formal_slots fs (takes fs ∷ σ)) (suc l) (2 + formals_size fs) (t + (block_length b + 1)) shape f.1 in
      let tail = joined (procs_block b within (suc l) (2 + formals_size fs) (t + (block_length b + 1))) (procs_declared ds here l k (t + (block_length b + 1 + block_procs b))) (block_procs b) (declared_procs ds) inner rest in
      joined (block b within (suc l) (2 + formals_size fs) t (t + (block_length b + 1))) _ (block_length b) (1 + (block_procs b + declared_procs ds)) own (headed _ (block_procs b + declared_procs ds) tail)
      ∙ sum (block_length b) (block_procs b) (declared_procs ds)
    where
      sum : (x y z : ℕ) → x + (1 + (y + z)) ≡ x + 1 + y + z
      sum x y z = omega arith

  pub procs_block_long : (b : Block) (Γ : Scope) (σ : List Slot) (l k t : ℕ) → Shape Γ σ → FitsBlock b σ l → length (procs_block b Γ l k t) ≡ block_procs b
  procs_block_long (Rule.block ds xs) Γ σ l k t h f =
      joined (procs_declared ds Γ l k t) _ (declared_procs ds) (actions_procs xs) (procs_declared_long ds Γ σ l k t h f.0)
      (procs_actions_long xs (declared ds l k t Γ) (slots ds σ) l (k + own_size ds) (t + declared_procs ds) (shape_declared ds l k t Γ σ h) f.1)
