-- What tests choose.
use Rattle.std.proofs.Common.{◌≡◌, ℕ, Bool, true, false, cond, eqb, List, ◌++◌, ◌⊎◌, ⊎_elim, refl, ap}
use Rattle.std.proofs.lemmas.Bool.{eqb-true}
use Rattle.tiny.specs.declared.tokens.Kind.{Kind}
use Rattle.tiny.specs.declared.tokens.Kind.TheVariants.{ReadWord, WriteWord, DoubleAmpersand, At}
use Rattle.tiny.specs.Token.{is}
use Rattle.meaning.specs.Stages.{Break}

-- a function of what a test picks
pub along : {X Y : Type 0} (f : X → Y) (b : Bool) (x y : X) → f (cond b x y) ≡ cond b (f x) (f y)
along f true x y = refl
along f false x y = refl

pub same : {X : Type 0} (b : Bool) (x : X) → cond b x x ≡ x
same true x = refl
same false x = refl

pub behind : (b : Bool) (x y z : List Break) → cond b x y ++ z ≡ cond b (x ++ z) (y ++ z)
behind b x y z = along (λ e. e ++ z) b x y

-- three tests that take the same way
pub three : {X : Type 0} (a b c : Bool) (x y : X) → cond a x (cond b x (cond c x y)) ≡ cond (cond a true (cond b true c)) x y
three true b c x y = refl
three false true c x y = refl
three false false c x y = refl

pub apart : (k m n : ℕ) → eqb m n ≡ false → eqb k m ≡ true → eqb k n ≡ false
apart k m n h e = let s : k ≡ m = eqb-true k m e in rw s h

-- a word or mark before an expression
module _ {k : Kind} where
  pub no_mark : (k ≡ At) ⊎ ((k ≡ ReadWord) ⊎ (k ≡ WriteWord)) → is k DoubleAmpersand ≡ false
  no_mark = ⊎_elim (ap (λ k. is k DoubleAmpersand)) (⊎_elim (ap (λ k. is k DoubleAmpersand)) (ap (λ k. is k DoubleAmpersand)))

  pub one_word : (k ≡ At) ⊎ ((k ≡ ReadWord) ⊎ (k ≡ WriteWord)) → cond (is k At) true (cond (is k ReadWord) true (is k WriteWord)) ≡ true
  one_word = ⊎_elim test (⊎_elim test test)
    where
      test : {j : Kind} → k ≡ j → cond (is k At) true (cond (is k ReadWord) true (is k WriteWord)) ≡ cond (is j At) true (cond (is j ReadWord) true (is j WriteWord))
      test = ap (λ k. cond (is k At) true (cond (is k ReadWord) true (is k WriteWord)))
