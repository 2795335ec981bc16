-- How a teller's answer stands to what it is to tell.
use Rattle.std.specs.Prelude.{◌≡◌, ℕ, ◌<◌, ◌≤◌, Result, Ok, Err, length}
use Rattle.bx_terms.specs.declared.faults.Fault.{Fault, TheVariants.Memory, TheVariants.TooLarge}
use Rattle.bx_events.specs.declared.tellers.Teller.{Teller}
use Rattle.bx_events.specs.Ledgers.{Keeps}
use Rattle.bx_events.specs.Telling.{Telling}

abbrev pub telling : Teller → Telling
telling t = record { end = t.end; events = t.events.items }

-- the ledger keeps the events, of which there are not too many
pub record Stands (t : Teller) : Type 0 where
  pub keeps : Keeps t.events.items t.ledger
  pub few : length t.events.items ≤ 20000

-- all is told, or there are too many events
abbrev pub Tells : Telling → Teller → Result (Unit {0}) Fault → Type 0
Tells goal new (Ok done) = (telling new ≡ goal) × Stands new
Tells goal new (Err Memory) = Unit {0}
Tells goal new (Err TooLarge) = 20000 < length goal.events
Tells goal new (Err fault) = ⊥
