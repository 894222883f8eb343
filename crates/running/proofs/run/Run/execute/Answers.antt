use Rattle.std.proofs.Common.{◌≡◌, true, arith, rules}
use Rattle.tiny.specs.Operators as Rule
use Rattle.machine.specs.Ints.{binary_of, unary_of}
use Rattle.running.specs.Running.{managed}
use Rattle.running.proofs.run.Run.execute.Goals as goal

pub returns-in-Add : goal.returns-in-Add
returns-in-Add g c = rw c.in-Add.is (c.binary.ensures (binary_of Rule.add) (λ x y r f h k. search rules))

pub returns-in-Sub : goal.returns-in-Sub
returns-in-Sub g c = rw c.in-Sub.is (c.binary-in-Sub.ensures (binary_of Rule.sub) (λ x y r f h k. search rules))

pub returns-in-Mul : goal.returns-in-Mul
returns-in-Mul g c = rw c.in-Mul.is (c.binary-in-Mul.ensures (binary_of Rule.mul) (λ x y r f h k. search rules))

pub returns-in-Div : goal.returns-in-Div
returns-in-Div g c = rw c.in-Div.is (c.binary-in-Div.ensures (binary_of Rule.quot) (λ x y r f h k. search rules))

pub returns-in-Mod : goal.returns-in-Mod
returns-in-Mod g c = rw c.in-Mod.is (c.binary-in-Mod.ensures (binary_of Rule.rem) (λ x y r f h k. search rules))

pub returns-in-And : goal.returns-in-And
returns-in-And g c = rw c.in-And.is (c.binary-in-And.ensures (binary_of Rule.and) (λ x y r f h k. search rules))

pub returns-in-Or : goal.returns-in-Or
returns-in-Or g c = rw c.in-Or.is (c.binary-in-Or.ensures (binary_of Rule.or) (λ x y r f h k. search rules))

pub returns-in-Lt : goal.returns-in-Lt
returns-in-Lt g c = rw c.in-Lt.is (c.binary-in-Lt.ensures (binary_of Rule.lt) (λ x y r f h k. search rules))

pub returns-in-Le : goal.returns-in-Le
returns-in-Le g c = rw c.in-Le.is (c.binary-in-Le.ensures (binary_of Rule.le) (λ x y r f h k. search rules))

pub returns-in-Gt : goal.returns-in-Gt
returns-in-Gt g c = rw c.in-Gt.is (c.binary-in-Gt.ensures (binary_of Rule.gt) (λ x y r f h k. search rules))

pub returns-in-Ge : goal.returns-in-Ge
returns-in-Ge g c = rw c.in-Ge.is (c.binary-in-Ge.ensures (binary_of Rule.ge) (λ x y r f h k. search rules))

pub returns-in-Eq : goal.returns-in-Eq
returns-in-Eq g c = rw c.in-Eq.is (c.binary-in-Eq.ensures (binary_of Rule.eq) (λ x y r f h k. search rules))

pub returns-in-Ne : goal.returns-in-Ne
returns-in-Ne g c = rw c.in-Ne.is (c.binary-in-Ne.ensures (binary_of Rule.ne) (λ x y r f h k. search rules))

pub returns-in-Neg : goal.returns-in-Neg
returns-in-Neg g c = rw c.in-Neg.is (c.unary.ensures (unary_of Rule.neg) (λ x r f k. search rules))

pub returns-in-Not : goal.returns-in-Not
returns-in-Not g c = rw c.in-Not.is (c.unary-in-Not.ensures (unary_of Rule.not) (λ x r f k. search rules))

-- the instructions with no arm of their own
pub returns-in_default : goal.returns-in_default
returns-in_default g c = let p : managed c.args.instruction ≡ true = grind arith in c.manage.ensures p
