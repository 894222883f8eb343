use Rattle.std.proofs.Common.{◌≡◌, drop}
use Rattle.tiny.specs.declared.states.State.TheVariants.{Start}
use Rattle.tiny.specs.Automaton.{reach}
use Rattle.tiny.proofs.Reach.{shifted}
use Rattle.tiny.proofs.states.munch.Given as goal

abbrev pub invariant-loop-n : goal.invariant-loop-n
invariant-loop-n l = reach Start l.bytes ≡ shifted l.n (reach l.state (drop l.n l.bytes))
