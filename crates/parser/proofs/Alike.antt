-- Equality of kinds, and whether a kind is one of several.
use Rattle.std.proofs.Common.{◌≡◌, ◌||◌, Bool, true, false, List, [], ◌∷◌, refl, sym, ap, ap₂, ◌∙◌}
use Rattle.std.proofs.lemmas.Bool.{eq-eqb}
use Rattle.std.proofs.lemmas.Cmp.{nat_eq_equiv}
use Rattle.std.specs.List.{list_any}
use denote.Enum.Bare.{same_true, same_false}
use Rattle.tiny.specs.declared.tokens.Kind.{Kind}
use Rattle.tiny.specs.Token.{is, code}
use Rattle.tiny.specs.contracts.tokens.Kind.{the_type}
use Rattle.tiny.specs.contracts.tokens.KindPartialEq.TheImpl.{ghosts}
use Rattle.syntax.proofs.Telling.{is_same}
use Rattle.parser.specs.Rest.{among}

-- kinds are equal where their numbers are
pub equal : (j k : Kind) → ghosts.eq j k ≡ is j k
equal j k = go (ghosts.eq j k) refl (is j k) refl
  where
    go : (a : Bool) → ghosts.eq j k ≡ a → (b : Bool) → is j k ≡ b → a ≡ b
    go true e b f = sym (eq-eqb (code j) (code k) (ap code (same_true the_type tt j k e))) ∙ f
    go false e true f = absurd (same_false the_type j k e (is_same j k f))
    go false e false f = refl

pub any_kind : (k : Kind) (ks : List Kind) → list_any (λ y. ghosts.eq y k) ks ≡ among k ks
any_kind k [] = refl
any_kind k (j ∷ js) = ap₂ ◌||◌ (equal j k ∙ nat_eq_equiv.symm (code j) (code k)) (any_kind k js)
