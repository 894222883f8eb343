-- The parts of a record that shows a tree show trees too, and stand before it.
use Rattle.std.proofs.Common.{◌≡◌, ℕ, ◌<◌, List, get_or}
use Rattle.std.proofs.Math.Logic.{∥∥₁_map, ∥∥₁_elim}
use Rattle.std.proofs.lemmas.Grind.{not_there}
use Rattle.std.specs.Coded.{le_prop}
use Rattle.tiny.specs.declared.tokens.Lexeme.{Lexeme}
use Rattle.tiny.specs.declared.placed.Placed.{Placed}
use Rattle.nodes.specs.declared.node.Node.{Node}
use Rattle.nodes.specs.declared.node.Node.TheVariants.{Blank, Under, Join}
use Rattle.nodes.specs.Rooted.{Rooted}
use Rattle.nodes.proofs.Parts.{no_blank, is_under, is_join}

pub not_blank : {ns : List Node} {i : ℕ} → ∥ Rooted ns i ∥₁ → get_or ns i Blank ≡ Blank → ⊥
not_blank r e = not_there r (λ r. no_blank r.shown e)

module _ {ns : List Node} {i : ℕ} (r : ∥ Rooted ns i ∥₁) {k : Placed Lexeme} where
  pub part_rooted : {m : ℕ} → get_or ns i Blank ≡ Under k m → ∥ Rooted ns m ∥₁
  part_rooted e = ∥∥₁_map r (λ r. let p = is_under _ _ r.shown e in record { source = r.source; tree = p.part; shown = p.shown })

  pub part_before : {m : ℕ} → get_or ns i Blank ≡ Under k m → m < i
  part_before e = ∥∥₁_elim r le_prop (λ r. (is_under _ _ r.shown e).before)

  pub left_rooted : {m n : ℕ} → get_or ns i Blank ≡ Join k m n → ∥ Rooted ns m ∥₁
  left_rooted e = ∥∥₁_map r (λ r. let p = is_join _ _ _ r.shown e in record { source = r.source; tree = p.left; shown = p.left_shown })

  pub right_rooted : {m n : ℕ} → get_or ns i Blank ≡ Join k m n → ∥ Rooted ns n ∥₁
  right_rooted e = ∥∥₁_map r (λ r. let p = is_join _ _ _ r.shown e in record { source = r.source; tree = p.right; shown = p.right_shown })

  pub left_before : {m n : ℕ} → get_or ns i Blank ≡ Join k m n → m < i
  left_before e = ∥∥₁_elim r le_prop (λ r. (is_join _ _ _ r.shown e).left_before)

  pub right_before : {m n : ℕ} → get_or ns i Blank ≡ Join k m n → n < i
  right_before e = ∥∥₁_elim r le_prop (λ r. (is_join _ _ _ r.shown e).right_before)
