-- What was made of entries.
use Rattle.std.specs.Prelude.{◌≡◌, ◌-◌, ◌^◌, ◌≤◌, length, min, true, List, Option, Some}
use Rattle.bx_plan.specs.Entry.{Entry}
use Rattle.bx_plan.specs.declared.entries.Entries.{Entries}
use Rattle.bx_plan.specs.Reading.{count_of, spread}

-- so many choices as these entries make, of which no more are kept; where all of them are, these choices
pub record Make (made : Entries) (entries : List Entry) : Type 0 where
  pub counted : made.count ≡ min (count_of entries) (2 ^ 64 - 1)
  pub kept : length made.schedule ≤ made.count
  pub spread : made.is_whole ≡ true → made.schedule ≡ spread entries

-- there are entries, and this was made of them
abbrev pub MakesThese : Entries → Option (List Entry) → Type 0
MakesThese made read = (entries : List Entry) × (read ≡ Some entries) × Make made entries
