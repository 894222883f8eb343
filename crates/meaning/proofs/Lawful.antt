-- The code of a sound and small rule is lawful.
use Rattle.std.proofs.Common.{◌≡◌, ℕ, zero, suc, ◌+◌, ◌^◌, ◌<◌, ◌≤◌, List, [], ◌∷◌, ◌++◌, length, arith, ltb→lt}
use Rattle.machine.specs.declared.instruction.Instruction.{Instruction}
use Rattle.meaning.specs.Rule.{Unary, Binary, Place, Value, Argument, Formal, Action, Actions, Declarations, Block}
use Rattle.meaning.specs.Rule as Rule
use Rattle.meaning.specs.Sizes.{formal_size, formals_size, own_size, block_extent, actions_extent, action_extent, frame_size}
use Rattle.meaning.specs.Code.{Entry, Scope, var, entry_of, unary, binary, place, value, argument, arguments, called, zeroing, own_length, value_length, action_length, actions_length, block_length, action_procs, actions_procs, declared_procs, block_procs, declared, formals, action, actions, block, procs_action, procs_actions, procs_declared, procs_block, program}
use Rattle.meaning.specs.Code as Code
use Rattle.meaning.specs.Sound.{Slot, holds, takes, slots, formal_slots, FitsAction, FitsActions, FitsDeclarations, FitsBlock, Sound}
use Rattle.meaning.specs.Small.{SmallPlace, SmallValue, SmallArgument, SmallArguments, SmallAction, SmallActions, SmallDeclarations, SmallBlock, Small}
use Rattle.meaning.specs.Lawful.{is_int, AcceptedIsLawful}
use Rattle.meaning.proofs.Ranges.{Lawful, LawfulCode, lawful_each}
use Rattle.meaning.proofs.Lengths.{joined, headed, block_long, procs_block_long}
use Rattle.meaning.proofs.Accepted.{accepted_sound, accepted_small}

both : (c d : List Instruction) → LawfulCode c → LawfulCode d → LawfulCode (c ++ d)
both [] d h k = k
both (i ∷ c) d h k = (h.0, both c d h.1 k)

unary_lawful : (o : Unary) → Lawful (unary o)
unary_lawful Rule.neg = tt
unary_lawful Rule.not = tt

binary_lawful : (o : Binary) → Lawful (binary o)
binary_lawful Rule.add = tt
binary_lawful Rule.sub = tt
binary_lawful Rule.mul = tt
binary_lawful Rule.quot = tt
binary_lawful Rule.rem = tt
binary_lawful Rule.and = tt
binary_lawful Rule.or = tt
binary_lawful Rule.lt = tt
binary_lawful Rule.le = tt
binary_lawful Rule.gt = tt
binary_lawful Rule.ge = tt
binary_lawful Rule.eq = tt
binary_lawful Rule.ne = tt

-- N: the length of the code
module _ (N : ℕ) (few : N < 2 ^ 31) where
  abbrev LawfulEntry : Entry → Type 0
  LawfulEntry (Code.at l k) = (l ≤ 8) × (k ≤ 65536)
  LawfulEntry (Code.procedure fs n l t) = (2 + formals_size fs ≤ n) × (n ≤ 65536) × (l ≤ 8) × (t ≤ N)

  abbrev LawfulScope : Scope → Type 0
  LawfulScope [] = Unit {0}
  LawfulScope (e ∷ Γ) = LawfulEntry e × LawfulScope Γ

  entry_lawful : (Γ : Scope) (i : ℕ) → LawfulScope Γ → LawfulEntry (entry_of Γ i)
  entry_lawful [] i h = omega arith
  entry_lawful (e ∷ Γ) zero h = h.0
  entry_lawful (e ∷ Γ) (suc i) h = entry_lawful Γ i h.1

  var_lawful : (e : Entry) → LawfulEntry e → Lawful (var e)
  var_lawful (Code.at l k) h = omega arith
  var_lawful (Code.procedure fs n l t) h = omega arith

  mutual
    place_lawful : (p : Place) (Γ : Scope) → SmallPlace is_int p → LawfulScope Γ → LawfulCode (place p Γ)
    place_lawful (Rule.variable i) Γ s g = (var_lawful (entry_of Γ i) (entry_lawful Γ i g), tt)
    place_lawful (Rule.reference i) Γ s g = (var_lawful (entry_of Γ i) (entry_lawful Γ i g), (tt, tt))
    place_lawful (Rule.field p k) Γ s g = both (place p Γ) _ (place_lawful p Γ s.0 g) (omega (arith, s.1), tt)
    place_lawful (Rule.element p v n m) Γ s g =
        both (place p Γ) _ (place_lawful p Γ s.0 g) (both (value v Γ) _ (value_lawful v Γ s.1 g) ((ltb→lt n (2 ^ 31) s.2, omega (arith, s.3)), tt))

    value_lawful : (v : Value) (Γ : Scope) → SmallValue is_int v → LawfulScope Γ → LawfulCode (value v Γ)
    value_lawful (Rule.literal z) Γ s g = (s, tt)
    value_lawful (Rule.content p) Γ s g = both (place p Γ) _ (place_lawful p Γ s g) (tt, tt)
    value_lawful (Rule.unary o v) Γ s g = both (value v Γ) _ (value_lawful v Γ s g) (unary_lawful o, tt)
    value_lawful (Rule.binary o u v) Γ s g = both (value u Γ) _ (value_lawful u Γ s.0 g) (both (value v Γ) _ (value_lawful v Γ s.1 g) (binary_lawful o, tt))
    value_lawful (Rule.store p v) Γ s g = both (place p Γ) _ (place_lawful p Γ s.0 g) (both (value v Γ) _ (value_lawful v Γ s.1 g) (tt, tt))

  argument_lawful : (x : Argument) (Γ : Scope) → SmallArgument is_int x → LawfulScope Γ → LawfulCode (argument x Γ)
  argument_lawful (Rule.value v) Γ s g = both (value v Γ) _ (value_lawful v Γ s g) (tt, tt)
  argument_lawful (Rule.address p) Γ s g = both (place p Γ) _ (place_lawful p Γ s g) (tt, tt)
  argument_lawful (Rule.copied p n) Γ s g = both (place p Γ) _ (place_lawful p Γ s.0 g) (omega (arith, s.1), tt)

  arguments_lawful : (fs : List Formal) (xs : List Argument) (k : ℕ) (Γ : Scope) → k + formals_size fs ≤ 65536 → SmallArguments is_int xs → LawfulScope Γ → LawfulCode (arguments fs xs k Γ)
  arguments_lawful [] xs k Γ h s g = tt
  arguments_lawful (f ∷ fs) [] k Γ h s g = tt
  arguments_lawful (f ∷ fs) (x ∷ xs) k Γ h s g =
      (tt, (omega arith, both (argument x Γ) _ (argument_lawful x Γ s.0 g) (arguments_lawful fs xs (k + formal_size f) Γ (omega arith) s.1 g)))

  called_lawful : (e : Entry) (xs : List Argument) (Γ : Scope) → LawfulEntry e → SmallArguments is_int xs → LawfulScope Γ → LawfulCode (called e xs Γ)
  called_lawful (Code.at l k) xs Γ h s g = tt
  called_lawful (Code.procedure fs n l t) xs Γ h s g =
      (omega arith, both (arguments fs xs 2 Γ) _ (arguments_lawful fs xs 2 Γ (omega arith) s g) (omega arith, tt))

  zeroing_lawful : (l k n : ℕ) → l ≤ 8 → k + n ≤ 65536 → LawfulCode (zeroing l k n)
  zeroing_lawful l k zero h r = tt
  zeroing_lawful l k (suc n) h r = (omega arith, tt)

  declared_lawful : (ds : Declarations) (l k t : ℕ) (Γ : Scope) (σ : List Slot) → l ≤ 8 → k + own_size ds ≤ 65536 → t + declared_procs ds ≤ N →
      SmallDeclarations is_int ds → FitsDeclarations ds σ l → LawfulScope Γ → LawfulScope (declared ds l k t Γ)
  declared_lawful Rule.none l k t Γ σ h r q s f g = g
  declared_lawful (Rule.local n ds) l k t Γ σ h r q s f g =
      declared_lawful ds l (k + n) t (Code.at l k ∷ Γ) (holds n ∷ σ) h (omega arith) q s.1 f ((h, omega arith), g)
  declared_lawful (Rule.proc fs b ds) l k t Γ σ h r q s f g =
      declared_lawful ds l k (t + (block_length b + 1 + block_procs b)) (Code.procedure fs (frame_size fs b) (suc l) t ∷ Γ) (takes fs ∷ σ) h r (omega arith) s.3 f.2
      ((omega arith, s.1, f.0, omega arith), g)

  formals_lawful : (fs : List Formal) (l k : ℕ) (Γ : Scope) → l ≤ 8 → k + formals_size fs ≤ 65536 → LawfulScope Γ → LawfulScope (formals fs l k Γ)
  formals_lawful [] l k Γ h r g = g
  formals_lawful (f ∷ fs) l k Γ h r g = formals_lawful fs l (k + formal_size f) (Code.at l k ∷ Γ) h (omega arith) ((h, omega arith), g)

  mutual
    action_lawful : (a : Action) (Γ : Scope) (σ : List Slot) (l k pc t : ℕ) → l ≤ 8 → k + action_extent a ≤ 65536 → pc + action_length a ≤ N → t + action_procs a ≤ N →
        SmallAction is_int a → FitsAction a σ l → LawfulScope Γ → LawfulCode (action a Γ l k pc t)
    action_lawful (Rule.drop_place p) Γ σ l k pc t h r n q s f g = both (place p Γ) _ (place_lawful p Γ s g) (tt, tt)
    action_lawful (Rule.drop_value v) Γ σ l k pc t h r n q s f g = both (value v Γ) _ (value_lawful v Γ s g) (tt, tt)
    action_lawful (Rule.copy p p' m) Γ σ l k pc t h r n q s f g =
        both (place p Γ) _ (place_lawful p Γ s.0 g) (both (place p' Γ) _ (place_lawful p' Γ s.1 g) (omega (arith, s.2), tt))
    action_lawful (Rule.choose v b) Γ σ l k pc t h r n q s f g =
        both (value v Γ) _ (value_lawful v Γ s.0 g)
        (omega arith, block_lawful b Γ σ l k (pc + (value_length v + 1)) t h r (omega arith) q s.1 f.1 g)
    action_lawful (Rule.choose_else v b c) Γ σ l k pc t h r n q s f g =
        both (value v Γ) _ (value_lawful v Γ s.0 g) (
          omega arith,
          both (block b Γ l k (pc + (value_length v + 1)) t) _ (block_lawful b Γ σ l k (pc + (value_length v + 1)) t h (omega arith) (omega arith) (omega arith) s.1 f.1 g)
              (omega arith, block_lawful c Γ σ l k (pc + (value_length v + (1 + (block_length b + 1)))) (t + block_procs b) h (omega arith) (omega arith) (omega arith) s.2 f.2 g),
        )
    action_lawful (Rule.repeat v b) Γ σ l k pc t h r n q s f g =
        both (value v Γ) _ (value_lawful v Γ s.0 g)
        (omega arith, both (block b Γ l k (pc + (value_length v + 1)) t) _ (block_lawful b Γ σ l k (pc + (value_length v + 1)) t h r (omega arith) q s.1 f.1 g) (omega arith, tt))
    action_lawful (Rule.read_int p) Γ σ l k pc t h r n q s f g = both (place p Γ) _ (place_lawful p Γ s g) (tt, tt)
    action_lawful (Rule.read_bool p) Γ σ l k pc t h r n q s f g = both (place p Γ) _ (place_lawful p Γ s g) (tt, tt)
    action_lawful (Rule.write_int v) Γ σ l k pc t h r n q s f g = both (value v Γ) _ (value_lawful v Γ s g) (tt, tt)
    action_lawful (Rule.write_bool v) Γ σ l k pc t h r n q s f g = both (value v Γ) _ (value_lawful v Γ s g) (tt, tt)
    action_lawful Rule.newline Γ σ l k pc t h r n q s f g = (tt, tt)
    action_lawful (Rule.call i xs) Γ σ l k pc t h r n q s f g = called_lawful (entry_of Γ i) xs Γ (entry_lawful Γ i g) s g
    action_lawful (Rule.inner b) Γ σ l k pc t h r n q s f g = block_lawful b Γ σ l k pc t h r n q s f g

    actions_lawful : (xs : Actions) (Γ : Scope) (σ : List Slot) (l k pc t : ℕ) → l ≤ 8 → k + actions_extent xs ≤ 65536 → pc + actions_length xs ≤ N → t + actions_procs xs ≤ N →
        SmallActions is_int xs → FitsActions xs σ l → LawfulScope Γ → LawfulCode (actions xs Γ l k pc t)
    actions_lawful Rule.nothing Γ σ l k pc t h r n q s f g = tt
    actions_lawful (Rule.◌then◌ a xs) Γ σ l k pc t h r n q s f g =
        both (action a Γ l k pc t) _ (action_lawful a Γ σ l k pc t h (omega arith) (omega arith) (omega arith) s.0 f.0 g)
        (actions_lawful xs Γ σ l k (pc + action_length a) (t + action_procs a) h (omega arith) (omega arith) (omega arith) s.1 f.1 g)

    block_lawful : (b : Block) (Γ : Scope) (σ : List Slot) (l k pc t : ℕ) → l ≤ 8 → k + block_extent b ≤ 65536 → pc + block_length b ≤ N → t + block_procs b ≤ N →
        SmallBlock is_int b → FitsBlock b σ l → LawfulScope Γ → LawfulCode (block b Γ l k pc t)
    block_lawful (Rule.block ds xs) Γ σ l k pc t h r n q s f g =
        both (zeroing l k (own_size ds)) _ (zeroing_lawful l k (own_size ds) h (omega arith))
        (actions_lawful xs (declared ds l k t Γ) (slots ds σ) l (k + own_size ds) (pc + own_length (own_size ds)) (t + declared_procs ds) h (omega arith) (omega arith) (omega arith) s.1 f.1
        (declared_lawful ds l k t Γ σ h (omega arith) (omega arith) s.0 f.0 g))

  mutual
    procs_action_lawful : (a : Action) (Γ : Scope) (σ : List Slot) (l k t : ℕ) → l ≤ 8 → k + action_extent a ≤ 65536 → t + action_procs a ≤ N →
        SmallAction is_int a → FitsAction a σ l → LawfulScope Γ → LawfulCode (procs_action a Γ l k t)
    procs_action_lawful (Rule.drop_place p) Γ σ l k t h r q s f g = tt
    procs_action_lawful (Rule.drop_value v) Γ σ l k t h r q s f g = tt
    procs_action_lawful (Rule.copy p p' m) Γ σ l k t h r q s f g = tt
    procs_action_lawful (Rule.choose v b) Γ σ l k t h r q s f g = procs_block_lawful b Γ σ l k t h r q s.1 f.1 g
    procs_action_lawful (Rule.choose_else v b c) Γ σ l k t h r q s f g =
        both (procs_block b Γ l k t) _ (procs_block_lawful b Γ σ l k t h (omega arith) (omega arith) s.1 f.1 g)
        (procs_block_lawful c Γ σ l k (t + block_procs b) h (omega arith) (omega arith) s.2 f.2 g)
    procs_action_lawful (Rule.repeat v b) Γ σ l k t h r q s f g = procs_block_lawful b Γ σ l k t h r q s.1 f.1 g
    procs_action_lawful (Rule.read_int p) Γ σ l k t h r q s f g = tt
    procs_action_lawful (Rule.read_bool p) Γ σ l k t h r q s f g = tt
    procs_action_lawful (Rule.write_int v) Γ σ l k t h r q s f g = tt
    procs_action_lawful (Rule.write_bool v) Γ σ l k t h r q s f g = tt
    procs_action_lawful Rule.newline Γ σ l k t h r q s f g = tt
    procs_action_lawful (Rule.call i xs) Γ σ l k t h r q s f g = tt
    procs_action_lawful (Rule.inner b) Γ σ l k t h r q s f g = procs_block_lawful b Γ σ l k t h r q s f g

    procs_actions_lawful : (xs : Actions) (Γ : Scope) (σ : List Slot) (l k t : ℕ) → l ≤ 8 → k + actions_extent xs ≤ 65536 → t + actions_procs xs ≤ N →
        SmallActions is_int xs → FitsActions xs σ l → LawfulScope Γ → LawfulCode (procs_actions xs Γ l k t)
    procs_actions_lawful Rule.nothing Γ σ l k t h r q s f g = tt
    procs_actions_lawful (Rule.◌then◌ a xs) Γ σ l k t h r q s f g =
        both (procs_action a Γ l k t) _ (procs_action_lawful a Γ σ l k t h (omega arith) (omega arith) s.0 f.0 g)
        (procs_actions_lawful xs Γ σ l k (t + action_procs a) h (omega arith) (omega arith) s.1 f.1 g)

    procs_declared_lawful : (ds : Declarations) (Γ : Scope) (σ : List Slot) (l k t : ℕ) → l ≤ 8 → k + own_size ds ≤ 65536 → t + declared_procs ds ≤ N →
        SmallDeclarations is_int ds → FitsDeclarations ds σ l → LawfulScope Γ → LawfulCode (procs_declared ds Γ l k t)
    procs_declared_lawful Rule.none Γ σ l k t h r q s f g = tt
    procs_declared_lawful (Rule.local n ds) Γ σ l k t h r q s f g =
        procs_declared_lawful ds (Code.at l k ∷ Γ) (holds n ∷ σ) l (k + n) t h (omega arith) q s.1 f ((h, omega arith), g)
    procs_declared_lawful (Rule.proc fs b ds) Γ σ l k t h r q s f g =
        let here : Scope = Code.procedure fs (frame_size fs b) (suc l) t ∷ Γ in
        let small : frame_size fs b ≤ 65536 = s.1 in
        let here-ok : LawfulScope here = ((omega arith, small, f.0, omega arith), g) in
        let inside : Scope = formals fs (suc l) 2 here in
        let inside-ok : LawfulScope inside = formals_lawful fs (suc l) 2 here f.0 (omega arith) here-ok in
        both (block b inside (suc l) (2 + formals_size fs) t (t + (block_length b + 1))) _
        (block_lawful b inside (formal_slots fs (takes fs ∷ σ)) (suc l) (2 + formals_size fs) t (t + (block_length b + 1)) f.0 (omega arith) (omega arith) (omega arith) s.2 f.1 inside-ok) (
          f.0,
          both (procs_block b inside (suc l) (2 + formals_size fs) (t + (block_length b + 1))) _
              (procs_block_lawful b inside (formal_slots fs (takes fs ∷ σ)) (suc l) (2 + formals_size fs) (t + (block_length b + 1)) f.0 (omega arith) (omega arith) s.2 f.1 inside-ok)
              (procs_declared_lawful ds here (takes fs ∷ σ) l k (t + (block_length b + 1 + block_procs b)) h r (omega arith) s.3 f.2 here-ok),
        )

    procs_block_lawful : (b : Block) (Γ : Scope) (σ : List Slot) (l k t : ℕ) → l ≤ 8 → k + block_extent b ≤ 65536 → t + block_procs b ≤ N →
        SmallBlock is_int b → FitsBlock b σ l → LawfulScope Γ → LawfulCode (procs_block b Γ l k t)
    procs_block_lawful (Rule.block ds xs) Γ σ l k t h r q s f g =
        both (procs_declared ds Γ l k t) _ (procs_declared_lawful ds Γ σ l k t h (omega arith) (omega arith) s.0 f.0 g)
        (procs_actions_lawful xs (declared ds l k t Γ) (slots ds σ) l (k + own_size ds) (t + declared_procs ds) h (omega arith) (omega arith) s.1 f.1
        (declared_lawful ds l k t Γ σ h (omega arith) (omega arith) s.0 f.0 g))

pub program_long : (b : Block) → FitsBlock b [] 0 → length (program b) ≡ 1 + (1 + (block_length b + (1 + block_procs b)))
program_long b f = headed _ _ (headed _ _ (joined (block b [] 0 2 2 (block_length b + 3)) _ (block_length b) (1 + block_procs b) (block_long b [] [] 0 2 2 (block_length b + 3) tt f)
    (headed _ (block_procs b) (procs_block_long b [] [] 0 2 (block_length b + 3) tt f))))

program_lawful : (b : Block) → Sound b → Small is_int b → length (program b) < 2 ^ 31 → LawfulCode (program b)
program_lawful b sound small few =
    let N : ℕ = length (program b) in
    let long : N ≡ 1 + (1 + (block_length b + (1 + block_procs b))) = program_long b sound.fits in
    let frame : frame_size [] b ≤ 65536 = small.1 in (
      omega arith,
      (
        tt,
        both (block b [] 0 2 2 (block_length b + 3)) _
            (block_lawful N few b [] [] 0 2 2 (block_length b + 3) (omega arith) (omega arith) (omega arith) (omega arith) small.0 sound.fits tt)
            (tt, procs_block_lawful N few b [] [] 0 2 (block_length b + 3) (omega arith) (omega arith) (omega arith) small.0 sound.fits tt),
      ),
    )

pub accepted_lawful : AcceptedIsLawful
accepted_lawful t b w e few = lawful_each (program b) (program_lawful b (accepted_sound t b e) (accepted_small is_int tt tt t b w e) few)
