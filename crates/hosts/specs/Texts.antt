-- The host of text: how an event is written, and what the host means.
use Rattle.std.specs.Prelude.{ℕ, cond, List, [], ◌∷◌, map, ℤ, pos, codes}
use Rattle.std.specs.Fmt.{signed_decimal}
use Rattle.machine.specs.declared.host.Event.{Event}
use Rattle.machine.specs.declared.host.Event.TheVariants.{Int, Bool, Line}
use Rattle.machine.specs.Host.{Host}
use Rattle.hosts.specs.Parts.{items}

-- an event as bytes: an int in decimal, a bool by its name, byte 10
abbrev pub text_of : Event → List ℕ
text_of (Int v) = signed_decimal v
text_of (Bool b) = cond b (codes "true") (codes "false")
text_of Line = 10 ∷ []

-- bytes as marks
abbrev pub as_marks : List ℕ → List ℤ
as_marks bs = map (λ b. pos b) bs

abbrev pub text_host : List ℕ → List ℕ → ℕ → Host
text_host waiting written room = record { items = items waiting; marks = as_marks written; room = room; renders = λ e. as_marks (text_of e) }
