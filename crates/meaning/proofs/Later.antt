-- Every part of the meaning, under two limits.
use Rattle.std.proofs.Common.{◌≡◌, ℕ, zero, suc, ◌+◌, ◌*◌, ◌<◌, ◌≤◌, Bool, true, false, not, leb, List, [], ◌∷◌, ◌++◌, length, take, replicate, ℤ, pos, refl, arith}
use Rattle.machine.specs.Ints.{Answer, gives, faults, unary_of, binary_of, is_zero, in_range, nat}
use Rattle.machine.specs.Host.{Item, as_int, as_bool}
use Rattle.machine.specs.declared.host.Event.{Event}
use Rattle.machine.specs.declared.host.Event.TheVariants.{Int as wrote_int, Bool as wrote_bool, Line as wrote_line}
use Rattle.meaning.specs.Rule.{Place, Value, Argument, Formal, Action, Actions, Declarations, Block}
use Rattle.meaning.specs.Rule as Rule
use Rattle.meaning.specs.Sizes.{own_size, frame_size}
use Rattle.meaning.specs.Objects.{State, Outcome, done, fault, ◌>>=◌, ◌>>◌, return, Object, Reference, beyond, Binding, names, procedure, Env, reference_of, with_objects, with_host, new, part, load, save, move, scoped, settle, indexed, taken, hear, said}
use Rattle.meaning.specs.Meaning.{declare, charge, place, value, enter, leave, given, arguments, entry, called, found, act, act_all, block, ranked, program}
use Rattle.meaning.proofs.Fair.{Fair, unary_fair, binary_fair, int_fair, bool_fair}
use Rattle.meaning.proofs.Onward.{onward_taken, onward_said}
use Rattle.meaning.proofs.Limits.{Side, early, late, Pair, Quiet, quiet, further_refl, bind, charged, charge_last, lower}

module _ (lim : Side → ℕ) (order : lim early ≤ lim late) (room low : ℕ) where
  on : {A B : Type 0} {M : Side → State → Outcome A} {K : Side → A → State → Outcome B} → Pair lim low M → ((a : A) → Pair lim low (λ s. K s a)) → Pair lim low (λ s. M s >>= K s)
  on m k = bind lim order low m k

  raise : {A : Type 0} {M : Side → State → Outcome A} → Pair lim low M → Pair lim (suc low) M
  raise m = lower lim order low (suc low) (omega arith) m

  cost : {A : Type 0} {K : Side → State → Outcome A} → Pair lim low K → Pair lim low (λ s. charge (lim s) room >> K s)
  cost k = charged lim order room low (raise k)

  end : Pair lim low (λ s. charge (lim s) room)
  end = charge_last lim order room low

  -- steps without a charge, which leave the host alone
  step : {A : Type 0} (M : State → Outcome A) → ((s : State) → Quiet lim order s (M s) (M s)) → Pair lim low (λ x. M)
  step M q = quiet lim order low (λ x. M) q

  return_ok : {A : Type 0} (a : A) → Pair lim low (λ x. return a)
  return_ok a = step (return a) (λ s. (refl, further_refl s s refl refl, refl))

  new_ok : (f : State → Object) → Pair lim low (λ x s. new (f s) s)
  new_ok f = step (λ s. new (f s) s) (λ s. (refl, further_refl s _ refl refl, refl))

  load_ok : (r : Reference) → Pair lim low (λ x. load r)
  load_ok r = step (load r) (λ s. (refl, further_refl s s refl refl, refl))

  save_ok : (r : Reference) (z : ℤ) → Pair lim low (λ x. save r z)
  save_ok r z = step (save r z) (λ s. (refl, further_refl s _ refl refl, refl))

  move_ok : (r q : Reference) (n : ℕ) → Pair lim low (λ x. move r q n)
  move_ok r q n = step (move r q n) (λ s. (refl, further_refl s _ refl refl, refl))

  leave_ok : (n o : ℕ) → Pair lim low (λ x. leave (lim x) room n o)
  leave_ok n o = quiet lim order low (λ x. leave (lim x) room n o) (λ s. (refl, further_refl s _ refl refl, refl))

  settle_ok : (a : Answer) → Fair a → Pair lim low (λ x. settle a)
  settle_ok (gives z) h = step (settle (gives z)) (λ s. (refl, further_refl s s refl refl, refl))
  settle_ok (faults f) h = step (settle (faults f)) (λ s. (refl, h.0, h.1, refl))

  indexed_ok : (r : Reference) (i : ℤ) (n m : ℕ) → Pair lim low (λ x. indexed r i n m)
  indexed_ok r i n m = step (indexed r i n m) (λ s. go s (in_range i n))
    where
      to : State → Bool → Outcome Reference
      to s b = elim b as (λ x. Outcome Reference) [ true ↦ done (beyond r (nat i * m)) s | false ↦ fault 21 s ]

      go : (s : State) (b : Bool) → Quiet lim order s (to s b) (to s b)
      go s true = (refl, further_refl s s refl refl, refl)
      go s false = (refl, omega arith, omega arith, refl)

  enter_ok : (n : ℕ) → Pair lim low (λ x. enter (lim x) room n)
  enter_ok n = quiet lim order low (λ x. enter (lim x) room n) (λ s. go s (leb (s.used + n) room))
    where
      next : State → State
      next s = record { objects = s.objects; used = s.used + n; host = s.host; count = s.count }

      to : State → Bool → Outcome ℕ
      to s b = elim b as (λ x. Outcome ℕ) [ true ↦ done (length s.objects) (next s) | false ↦ fault 27 s ]

      go : (s : State) (b : Bool) → Quiet lim order s (to s b) (to s b)
      go s true = (refl, further_refl s (next s) refl refl, refl)
      go s false = (refl, omega arith, omega arith, refl)

  entry_ok : (n : ℕ) → Pair lim low (λ x. entry (lim x) room n)
  entry_ok zero = return_ok tt
  entry_ok (suc n) = end

  -- steps that use the host
  hear_ok : (f : Item → Answer) → ((i : Item) → Fair (f i)) → Pair lim low (λ x s. hear s.host.items f s)
  hear_ok f fair = step (λ s. hear s.host.items f s) (λ s. go s s.host.items refl)
    where
      item : (s : State) (i : Item) (is : List Item) → s.host.items ≡ i ∷ is → (a : Answer) → Fair a → Quiet lim order s (taken is a s) (taken is a s)
      item s i is e (gives z) h = (refl, record { count = omega arith; host = onward_taken s.host i is e }, refl)
      item s i is e (faults k) h = (refl, h.0, h.1, refl)

      go : (s : State) (is : List Item) → s.host.items ≡ is → Quiet lim order s (hear is f s) (hear is f s)
      go s [] e = (refl, omega arith, omega arith, refl)
      go s (i ∷ is) e = item s i is e (f i) (fair i)

  said_ok : (e : Event) → Pair lim low (λ x. said e)
  said_ok e = step (said e) (λ s. go s (leb (length (s.host.marks ++ s.host.renders e)) s.host.room))
    where
      next : State → State
      next s = with_host s (record { items = s.host.items; marks = s.host.marks ++ s.host.renders e; room = s.host.room; renders = s.host.renders })

      to : State → Bool → Outcome Unit
      to s b = elim b as (λ x. Outcome Unit) [ true ↦ done tt (next s) | false ↦ fault 26 s ]

      go : (s : State) (b : Bool) → Quiet lim order s (to s b) (to s b)
      go s true = (refl, record { count = omega arith; host = onward_said s.host e }, refl)
      go s false = (refl, omega arith, omega arith, refl)

  -- designators and values
  mutual
    place_ok : (p : Place) (ρ : Env) → Pair lim low (λ x. place (lim x) room p ρ)
    place_ok (Rule.variable i) ρ = cost (return_ok (reference_of ρ i))
    place_ok (Rule.reference i) ρ = cost (cost (return_ok (reference_of ρ i)))
    place_ok (Rule.field p k) ρ = on (place_ok p ρ) (λ r. cost (return_ok (beyond r k)))
    place_ok (Rule.element p v n m) ρ = on (place_ok p ρ) (λ r. on (value_ok v ρ) (λ i. cost (indexed_ok r i n m)))

    value_ok : (v : Value) (ρ : Env) → Pair lim low (λ x. value (lim x) room v ρ)
    value_ok (Rule.literal z) ρ = cost (return_ok z)
    value_ok (Rule.content p) ρ = on (place_ok p ρ) (λ r. cost (load_ok r))
    value_ok (Rule.unary o v) ρ = on (value_ok v ρ) (λ x. cost (settle_ok (unary_of o x) (unary_fair o x)))
    value_ok (Rule.binary o u v) ρ =
        on (value_ok u ρ) (λ x. on (value_ok v ρ) (λ y. cost (settle_ok (binary_of o x y) (binary_fair o x y))))
    value_ok (Rule.store p v) ρ =
        on (place_ok p ρ) (λ r. on (value_ok v ρ) (λ x. cost (on (save_ok r x) (λ _. return_ok x))))

  -- calls
  given_ok : (a : Argument) (ρ : Env) → Pair lim low (λ x. given (lim x) room a ρ)
  given_ok (Rule.value v) ρ = cost (cost (on (value_ok v ρ) (λ z. cost (on (new_ok (λ s. z ∷ [])) (λ r. return_ok (names r))))))
  given_ok (Rule.address p) ρ = cost (cost (on (place_ok p ρ) (λ r. cost (return_ok (names r)))))
  given_ok (Rule.copied p n) ρ = cost (cost (on (place_ok p ρ) (λ q. cost (on (new_ok (λ s. part s q n)) (λ r. return_ok (names r))))))

  arguments_ok : (fs : List Formal) (xs : List Argument) (ρ ρ' : Env) → Pair lim low (λ x. arguments (lim x) room fs xs ρ ρ')
  arguments_ok [] xs ρ ρ' = return_ok ρ'
  arguments_ok (f ∷ fs) [] ρ ρ' = return_ok ρ'
  arguments_ok (f ∷ fs) (x ∷ xs) ρ ρ' = on (given_ok x ρ) (λ b. arguments_ok fs xs ρ (b ∷ ρ'))

  declare_ok : (ds : Declarations) (ρ : Env) → Pair lim low (λ x. declare ds ρ)
  declare_ok Rule.none ρ = return_ok ρ
  declare_ok (Rule.local n ds) ρ = on (new_ok (λ s. replicate n (pos 0))) (λ r. declare_ok ds (names r ∷ ρ))
  declare_ok (Rule.proc fs b ds) ρ = declare_ok ds (procedure fs b ∷ ρ)

  module _ (again : Side → Action → Env → State → Outcome Unit)
      (again-ok : (a : Action) (ρ : Env) → Pair lim (suc low) (λ x. again x a ρ)) where
    called_ok : (b : Binding) (xs : List Argument) (ρ ρ' : Env) → Pair lim low (λ x. called (lim x) room (again x) b xs ρ ρ')
    called_ok (names r) xs ρ ρ' = return_ok tt
    called_ok (procedure fs b) xs ρ ρ' =
        cost (on (enter_ok (frame_size fs b)) (λ o.
        on (arguments_ok fs xs ρ ρ') (λ inside.
        charged lim order room low (bind lim order (suc low) (again-ok (Rule.inner b) inside) (λ _. raise (cost (leave_ok (frame_size fs b) o)))))))

    found_ok : (ρ' : Env) (i : ℕ) (xs : List Argument) (ρ : Env) → Pair lim low (λ x. found (lim x) room (again x) ρ' i xs ρ)
    found_ok [] i xs ρ = return_ok tt
    found_ok (b ∷ ρ') zero xs ρ = called_ok b xs ρ (b ∷ ρ')
    found_ok (b ∷ ρ') (suc i) xs ρ = found_ok ρ' i xs ρ

    either : (v : Bool) {M K : Side → State → Outcome Unit} → Pair lim low M → Pair lim low K → Pair lim low (λ x. elim v as (λ _. State → Outcome Unit) [ true ↦ M x | false ↦ K x ])
    either true m k = m
    either false m k = k

    scoped_ok : {M : Side → State → Outcome Unit} → Pair lim low M → Pair lim low (λ x. scoped (M x))
    scoped_ok {M} m = record { grows = λ s. (inner s).grows s; known = λ s. (inner s).known s }
      where
        shut : State → State → Outcome Unit
        shut s t = done tt (with_objects t (take (length s.objects) t.objects))

        inner : (s : State) → Pair lim low (λ x. M x >> shut s)
        inner s = on m (λ _. step (shut s) (λ t. (refl, further_refl t _ refl refl, refl)))

    mutual
      act_ok : (a : Action) (ρ : Env) → Pair lim low (λ x. act (lim x) room (again x) a ρ)
      act_ok (Rule.drop_place p) ρ = on (place_ok p ρ) (λ _. end)
      act_ok (Rule.drop_value v) ρ = on (value_ok v ρ) (λ _. end)
      act_ok (Rule.copy p q n) ρ = on (place_ok p ρ) (λ r. on (place_ok q ρ) (λ t. cost (move_ok r t n)))
      act_ok (Rule.choose v b) ρ = on (value_ok v ρ) (λ x. cost (either (is_zero x) (return_ok tt) (scoped_ok (block_ok b ρ))))
      act_ok (Rule.choose_else v b c) ρ =
          on (value_ok v ρ) (λ x. cost (either (is_zero x) (scoped_ok (block_ok c ρ)) (on (scoped_ok (block_ok b ρ)) (λ _. end))))
      act_ok (Rule.repeat v b) ρ =
          on (value_ok v ρ) (λ x. cost (either (is_zero x) (return_ok tt)
          (on (scoped_ok (block_ok b ρ)) (λ _. charged lim order room low (again-ok (Rule.repeat v b) ρ)))))
      act_ok (Rule.read_int p) ρ = on (place_ok p ρ) (λ r. cost (on (hear_ok as_int int_fair) (save_ok r)))
      act_ok (Rule.read_bool p) ρ = on (place_ok p ρ) (λ r. cost (on (hear_ok as_bool bool_fair) (save_ok r)))
      act_ok (Rule.write_int v) ρ = on (value_ok v ρ) (λ x. cost (said_ok (wrote_int x)))
      act_ok (Rule.write_bool v) ρ = on (value_ok v ρ) (λ x. cost (said_ok (wrote_bool (not (is_zero x)))))
      act_ok Rule.newline ρ = cost (said_ok wrote_line)
      act_ok (Rule.call i xs) ρ = found_ok ρ i xs ρ
      act_ok (Rule.inner b) ρ = scoped_ok (block_ok b ρ)

      all_ok : (xs : Actions) (ρ : Env) → Pair lim low (λ x. act_all (lim x) room (again x) xs ρ)
      all_ok Rule.nothing ρ = return_ok tt
      all_ok (Rule.◌then◌ a xs) ρ = on (act_ok a ρ) (λ _. all_ok xs ρ)

      block_ok : (b : Block) (ρ : Env) → Pair lim low (λ x. block (lim x) room (again x) b ρ)
      block_ok (Rule.block ds xs) ρ = on (entry_ok (own_size ds)) (λ _. on (declare_ok ds ρ) (λ inside. all_ok xs inside))

abbrev pub pick : ℕ → ℕ → Side → ℕ
pick n m early = n
pick n m late = m

module _ (n m : ℕ) (order : n ≤ m) (room : ℕ) where
  -- a rank on each side that exceeds the charges left there
  pub ranked_ok : (t r low : ℕ) → n < low + r → m < low + t → (a : Action) (ρ : Env) → Pair (pick n m) low (λ x. ranked (pick n m x) room (pick r t x) a ρ)
  ranked_ok zero r low p q a ρ = record { grows = λ s. further_refl s s refl refl; known = λ s l u. absurd (omega arith) }
  ranked_ok (suc t) zero low p q a ρ =
      let x : Pair (pick n m) low (λ x. act (pick n m x) room (ranked (pick n m x) room (pick 0 t x)) a ρ) =
      act_ok (pick n m) order room low (λ x. ranked (pick n m x) room (pick 0 t x)) (ranked_ok t 0 (suc low) (omega arith) (omega arith)) a ρ in
      record { grows = λ s. x.grows s; known = λ s l u. absurd (omega arith) }
  ranked_ok (suc t) (suc r) low p q a ρ =
      let x : Pair (pick n m) low (λ x. act (pick n m x) room (ranked (pick n m x) room (pick r t x)) a ρ) =
      act_ok (pick n m) order room low (λ x. ranked (pick n m x) room (pick r t x)) (ranked_ok t r (suc low) (omega arith) (omega arith)) a ρ in
      record { grows = λ s. x.grows s; known = λ s l u. x.known s l u }

  -- ranks r and t, from the limits on
  pub program_ok : (r t : ℕ) → n ≤ r → m ≤ t → (b : Block) → Pair (pick n m) 0 (λ x. program (pick n m x) room (pick r t x) b)
  program_ok r t p q b =
      charged lim order room 0 (bind lim order 1 (enter_ok lim order room 1 (frame_size [] b)) (λ _.
      charged lim order room 1 (bind lim order 2
      (block_ok lim order room 2 (λ x. ranked (lim x) room (pick r t x)) (ranked_ok t r 3 (omega arith) (omega arith)) b [])
      (λ _. charge_last lim order room 2))))
    where
      lim : Side → ℕ
      lim = pick n m
