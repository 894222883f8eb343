-- A stage that found no break, taken apart.
use Rattle.std.proofs.Common.{◌≡◌, ℕ, ◌≤◌, Bool, true, false, cond, not, T, ltb, List, [], ◌∷◌, ◌++◌, sym, subst, nltb→le}
use Rattle.meaning.specs.Stages.{Break, deeper}

pub data Nil : List Break → Type 0 where
  nothing : Nil []

pub nil : {bs : List Break} → bs ≡ [] → Nil bs
nil e = subst Nil (sym e) nothing

pub nil_left : (xs ys : List Break) → Nil (xs ++ ys) → Nil xs
nil_left [] ys h = nothing
nil_left (x ∷ xs) ys h = elim h [ ]

pub nil_right : (xs ys : List Break) → Nil (xs ++ ys) → Nil ys
nil_right [] ys h = h
nil_right (x ∷ xs) ys h = elim h [ ]

-- a test that breaks where it holds
pub untested : (b : Bool) (x : Break) (xs ys : List Break) → Nil (cond b (x ∷ xs) ys) → T (not b) × Nil ys
untested true x xs ys h = elim h [ ]
untested false x xs ys h = (tt, h)

pub not_deeper : (most d at : ℕ) → Nil (deeper most d at) → d ≤ most
not_deeper most d at h = nltb→le most d (untested (ltb most d) _ [] [] h).0

-- a choice by a test, in what a predicate says of both
pub either : {A : Type 0} (P : A → Type 0) (b : Bool) (x y : A) → (T b → P x) → P y → P (cond b x y)
either P true x y h k = h tt
either P false x y h k = k
