-- Every instruction of an accepted rule's code is lawful.
use Rattle.std.specs.Prelude.{◌≡◌, ◌^◌, ◌<◌, Bool, true, length, ℤ, nat_lt}
use Rattle.std.specs.Int.Signed.{mag}
use Rattle.tiny.specs.Tree.{BlockTree}
use Rattle.machine.specs.Instructions.{lawful_all}
use Rattle.meaning.specs.Rule.{Block}
use Rattle.meaning.specs.Code.{program}
use Rattle.meaning.specs.Stages.{judged, accepted}
use Rattle.meaning.specs.Small.{Written}

-- in 32 bits
abbrev pub is_int : ℤ → Bool
is_int z = nat_lt (mag z) (2 ^ 31)

-- whose source holds ints only, and whose code a shelf could hold
abbrev pub AcceptedIsLawful : Type 0
AcceptedIsLawful =
    (t : BlockTree) (b : Block) → Written is_int t → judged t ≡ accepted b → length (program b) < 2 ^ 31 → lawful_all (program b) ≡ true
