use Rattle.std.proofs.Common.{refl, not, rules}
use Rattle.machine.specs.declared.host.Event.TheVariants.{Int, Bool}
use Rattle.machine.specs.Host.{as_int, as_bool}
use Rattle.machine.specs.Ints.{is_zero}
use Rattle.running.proofs.run.Run.manage.Goals as goal

pub returns-in-Geti : goal.returns-in-Geti
returns-in-Geti g c = λ p. rw c.in-Geti.is (c.read.ensures as_int (record { number = λ z r f k. search rules; other = λ e. refl }))

pub returns-in-Getb : goal.returns-in-Getb
returns-in-Getb g c = λ p. rw c.in-Getb.is (c.read-in-Getb.ensures as_bool (record { number = λ z r f k. search rules; other = λ e. refl }))

pub returns-in-Puti : goal.returns-in-Puti
returns-in-Puti g c = λ p. rw c.in-Puti.is (c.write.ensures Int (λ z e f k. search rules))

pub returns-in-Putb : goal.returns-in-Putb
returns-in-Putb g c = λ p. rw c.in-Putb.is (c.write-in-Putb.ensures (λ z. Bool (not (is_zero z))) (λ z e f k. search rules))
