-- How answers are put together: one list of breaks behind another is one answer after another.
use Rattle.std.proofs.Common.{◌≡◌, ℕ, Bool, true, false, cond, List, [], ◌∷◌, ◌++◌, IsErrAnd, Ok, Err, Result, sym, refl, ap, ◌∙◌, subst, arith}
use Rattle.std.proofs.lemmas.Result.{err_from_is_err_and}
use Rattle.tiny.specs.Token.{Token}
use Rattle.meaning.specs.Stages.{Break}
use Rattle.checks.specs.Breaks.{Tells, first_break, named_break}

-- how a list of breaks is made: nothing, one list, one list in front, or by a test
pub data Plan : Type 0 where
  done : Plan
  last : List Break → Plan
  next : List Break → Plan → Plan
  pick : Bool → Plan → Plan → Plan

abbrev pub breaks : Plan → List Break
breaks done = []
breaks (last A) = A
breaks (next A p) = A ++ breaks p
breaks (pick b p q) = cond b (breaks p) (breaks q)

-- the answer is the first break of the list that is so made
pub record Goes {X F : Type 0} (f : F → Break) (r : Result X F) (p : Plan) : Type 0 where
  pub first : named_break f r ≡ first_break (breaks p)

pub nothing : {X F : Type 0} {f : F → Break} {x : X} → Goes {X = X} f (Ok x) done
nothing = record { first = refl }

pub ends : {X F : Type 0} {f : F → Break} {r : Result X F} {A : List Break} → Tells f r A → Goes f r (last A)
ends h = record { first = h.first }

-- the list in front has no break
pub passes : {X Y F : Type 0} {f : F → Break} {x : Y} {r : Result X F} {A : List Break} {p : Plan} → Tells {X = Y} f (Ok x) A → Goes f r p → Goes f r (next A p)
passes {A = []} h k = record { first = k.first }
passes {A = b ∷ bs} h k = absurd (let n = h.first in let z : ◌≡◌ {A = ℕ} 0 1 = cc in omega arith)

broken : {X Y F : Type 0} {f : F → Break} {e : F} {A : List Break} {p : Plan} → Tells {X = Y} f (Err e) A → Goes {X = X} f (Err e) (next A p)
broken {A = []} h = absurd (let n = h.first in let z : ◌≡◌ {A = ℕ} 0 1 = cc in omega arith)
broken {A = b ∷ bs} h = record { first = h.first }

-- the list in front has one
pub stops : {X Y F : Type 0} {f : F → Break} {e : F} {A : List Break} {p : Plan} (r : Result X F) → IsErrAnd r (λ y. y ≡ e) → Tells {X = Y} f (Err e) A → Goes f r (next A p)
stops {f = f} {e = e} {A = A} {p = p} r h k =
    let q = err_from_is_err_and r h in
    let same : r ≡ Err e = cc in
    subst (λ x. Goes f x (next A p)) (sym same) (broken k)

-- the way that a test takes
pub then_way : {X F : Type 0} {f : F → Break} {r : Result X F} {b : Bool} {p q : Plan} → true ≡ b → Goes f r p → Goes f r (pick b p q)
then_way {b = true} h k = record { first = k.first }
then_way {b = false} h k = absurd (let z : ◌≡◌ {A = ℕ} 0 1 = cc in omega arith)

pub else_way : {X F : Type 0} {f : F → Break} {r : Result X F} {b : Bool} {p q : Plan} → false ≡ b → Goes f r q → Goes f r (pick b p q)
else_way {b = true} h k = absurd (let z : ◌≡◌ {A = ℕ} 0 1 = cc in omega arith)
else_way {b = false} h k = record { first = k.first }

-- the list is made so
pub record Made (A : List Break) (p : Plan) : Type 0 where
  pub is : A ≡ breaks p

pub made : {A : List Break} {p : Plan} → A ≡ breaks p → Made A p
made e = record { is = e }

-- a list of which a test is known
pub taken : {A : List Break} {b : Bool} {p q : Plan} → Made A (pick b p q) → b ≡ true → Made A p
taken {p = p} {q = q} m e = record { is = m.is ∙ ap (λ b. cond b (breaks p) (breaks q)) e }

pub left : {A : List Break} {b : Bool} {p q : Plan} → Made A (pick b p q) → b ≡ false → Made A q
left {p = p} {q = q} m e = record { is = m.is ∙ ap (λ b. cond b (breaks p) (breaks q)) e }

pub by : {X F : Type 0} {f : F → Break} {r : Result X F} {A : List Break} {p : Plan} → Made A p → Goes f r p → Tells f r A
by {f = f} {r = r} {A = A} {p = p} e k = subst (λ x. Tells f r x) (sym e.is) (let h : Tells f r (breaks p) = record { first = k.first } in h)

-- a token under another name
pub at_token : {X F : Type 0} {f : F → Break} {r : Result X F} (g : Token → List Break) {x y : Token} → x ≡ y → Tells f r (g x) → Tells f r (g y)
at_token {f = f} {r = r} g e k = subst (λ z. Tells f r (g z)) e k
