-- The names in a table, as texts of a source.
use Rattle.std.specs.Prelude.{ℕ, zero, suc, ◌+◌, ◌-◌, Bool, true, false, cond, List, take, drop, Some, None}
use Rattle.tiny.specs.Tree.{Name}
use Rattle.meaning.specs.Types.{same_name}
use Rattle.tables.specs.Items.{item_at}
use Rattle.checks.specs.declared.names.NameRecord.{NameRecord}

abbrev pub text_of : List ℕ → NameRecord → Name
text_of source r = take (r.end - r.place) (drop r.place source)

-- whether one of so many names from a number on is spelled so: the last is compared first
abbrev pub held : List ℕ → List NameRecord → ℕ → ℕ → Name → Bool
held source rs start zero x = false
held source rs start (suc k) x =
    elim (item_at rs (start + k)) [ Some r ↦ cond (same_name x (text_of source r)) true (held source rs start k x) | None ↦ false ]
