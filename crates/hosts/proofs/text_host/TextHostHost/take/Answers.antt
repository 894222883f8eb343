use Rattle.std.proofs.Common.{◌≡◌, List, [], map, sym, ap}
use Rattle.std.specs.Prelude.{ℕ}
use Rattle.machine.specs.Host.{taken}
use Rattle.tables.specs.Items.{items as written, capacity}
use Rattle.hosts.specs.Parts.{parts, item_of}
use Rattle.hosts.specs.Texts.{text_host}
use Rattle.hosts.proofs.text_host.TextHostHost.take.Goals as goal

-- where blanks alone are left, nothing waits before or after
blanks_alone : (bytes out : List ℕ) (room : ℕ) → parts bytes ≡ [] → text_host [] out room ≡ taken (text_host bytes out room)
unfolding parts
blanks_alone bytes out room e = sym (ap (λ ps. taken (record (text_host bytes out room) { items = map item_of ps })) e)

pub returns-in_default : goal.returns-in_default
returns-in_default c = blanks_alone c.args.self.now.input.now (written c.args.self.now.output) (capacity c.args.self.now.output) c.in_default.ensures
