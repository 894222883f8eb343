use Rattle.std.proofs.Common.{◌≡◌, ℕ, ◌+◌}
use Rattle.machine.specs.Machine.{run}
use Rattle.running.specs.Running.{Lent, machine}
use Rattle.running.specs.Standings.{begun}
use Rattle.running.proofs.run.Run.carry_on.Given as goal

-- so far the run is going, and is where the instructions carried out lead
abbrev pub invariant-loop-before : goal.invariant-loop-before
invariant-loop-before g l = record {
  led : (count : ℕ) → run (g.S.Shelf.code l.shelf) l.before (begun count (machine g.H.Host l.initial.self)) ≡ begun (count + l.before) (machine g.H.Host l.self);
  lent : Lent l.initial.self l.self;
}
