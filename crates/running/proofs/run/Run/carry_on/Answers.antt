use Rattle.std.proofs.Common.{◌≡◌, ℕ, ◌+◌, sym, ap, ◌∙◌, subst, add-zero, add_assoc, arith, rules}
use Rattle.machine.specs.Machine.{run}
use Rattle.running.specs.Running.{machine}
use Rattle.running.specs.Standings.{begun, Shows}
use Rattle.running.proofs.Runs.{goes_on, ends, ended, going_on}
use Rattle.running.proofs.run.Run.carry_on.Goals as goal

pub loop-before-init : goal.loop-before-init
loop-before-init g c =
    let m = machine g.H.Host c.args.self.now in
    record { led = λ count. ap (λ (n : ℕ). begun n m) (sym (add-zero count)); lent = search rules }

pub loop-before-preserved : goal.loop-before-preserved
loop-before-preserved g c =
    let code = g.S.Shelf.code c.args.shelf.now in
    let m = machine g.H.Host c.args.self.now in
    let b = machine g.H.Host c.loop-before.self in
    let a = machine g.H.Host c.carry_out-standing.new.self in
    let n = c.loop-before.before in
    record {
      led = λ count. goes_on code (begun count m) n (count + n) b (c.loop-before.invariant.led count) a c.in-Going.ensures.came ∙ ap (λ (k : ℕ). begun k a) (add_assoc count n 1);
      lent = search rules;
    }

pub returns-in_default : goal.returns-in_default
returns-in_default g c =
    let code = g.S.Shelf.code c.args.shelf.now in
    let m = machine g.H.Host c.args.self.now in
    let b = machine g.H.Host c.loop-before.self in
    let a = machine g.H.Host c.carry_out-standing.new.self in
    let s = c.carry_out-standing.result in
    let n = c.loop-before.before in
    record {
      ran = λ count.
          ended code (begun count m) (n + 1) c.args.budget (count + (n + 1)) s a c.in_default.not-Going (omega arith)
          (subst (λ (k : ℕ). Shows (run code (n + 1) (begun count m)) s k a) (add_assoc count n 1)
          (ends code (begun count m) n (count + n) b (c.loop-before.invariant.led count) s a c.in_default.not-Going c.carry_out-standing.ensures.came));
      within = omega arith;
      lent = search rules;
    }

pub returns : goal.returns
returns g c =
    let code = g.S.Shelf.code c.args.shelf.now in
    let m = machine g.H.Host c.args.self.now in
    let b = machine g.H.Host c.loop-before.self in
    let all : c.loop-before.before ≡ c.args.budget = omega arith in
    record {
      ran = λ count.
          going_on (run code c.args.budget (begun count m)) (count + c.args.budget) b
          (ap (λ (n : ℕ). run code n (begun count m)) (sym all) ∙ c.loop-before.invariant.led count ∙ ap (λ (n : ℕ). begun (count + n) b) all);
      within = omega arith;
      lent = c.loop-before.invariant.lent;
    }
