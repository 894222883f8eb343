-- What is true of the trees that are accepted, and of the rules that they make.
use Rattle.std.specs.Prelude.{◌≡◌, Bool, T, [], ℤ, pos, ◌≢◌}
use Rattle.tiny.specs.Tree.{BlockTree}
use Rattle.meaning.specs.Rule.{Block}
use Rattle.meaning.specs.Stages.{judged, accepted, one_of, deep_block, names_block, kinds_block, large_program}
use Rattle.meaning.specs.Sound.{Sound}
use Rattle.meaning.specs.Small.{Written, Small}

abbrev pub AcceptedIsSound : Type 0
AcceptedIsSound = (t : BlockTree) (b : Block) → judged t ≡ accepted b → Sound b

-- no stage finds a break
pub record Unbroken (t : BlockTree) : Type 0 where
  pub depth : deep_block t 1 0 ≡ []
  pub names : names_block t [] ≡ []
  pub kinds : kinds_block t [] ≡ []
  pub sizes : large_program t ≡ []

-- accepted exactly if unbroken; and a tree that is not accepted has a break to show
pub record UnbrokenIsAccepted : Type 0 where
  pub accepts : (t : BlockTree) → Unbroken t → (b : Block) × (judged t ≡ accepted b)
  pub only : (t : BlockTree) (b : Block) → judged t ≡ accepted b → Unbroken t
  pub shows : (t : BlockTree) → judged t ≢ one_of []

-- P: a test that each number in the source passes, and 0 and 1, which stand for false and true
abbrev pub AcceptedIsSmall : Type 0
AcceptedIsSmall =
    (P : ℤ → Bool) → T (P (pos 0)) → T (P (pos 1)) → (t : BlockTree) (b : Block) → Written P t → judged t ≡ accepted b → Small P b
