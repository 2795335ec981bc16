-- Sessions: choices that were made, a position among them, and breakpoints.
use Rattle.std.specs.Prelude.{◌≢◌, ℕ, ◌+◌, ◌-◌, List, [], ◌∷◌, ◌++◌, length, take, if◌then◌else◌, nat_lt, Option, Some, None, Result, Ok, Err, refl}
use Rattle.std.specs.Coded.{Coded, code_by, coded×, coded_ℕ, coded_list}
use Rattle.std.specs.FinSet as set
use Rattle.bx_terms.specs.Outcomes.{◌>>=◌}
use Rattle.bx_terms.specs.declared.atom_table.AtomId.{AtomId}
use Rattle.bx_terms.specs.declared.faults.Fault.{Fault, TheVariants.BeforeStart, TheVariants.AfterEnd}
use Rattle.bx_terms.specs.declared.places.Place.{Place}
use Rattle.bx_load.specs.Image.{Loaded}
use Rattle.bx_world.specs.declared.choices.Choice.{Choice}
use Rattle.bx_world.specs.World.{State, started}
use Rattle.bx_world.specs.Choosing.{refusal}
use Rattle.bx_world.specs.Running.{ran, unchosen}
use Rattle.bx_debug.specs.Places.{PlaceSet, with_place, without_place}
use Rattle.bx_debug.specs.Going.{walked}
use Rattle.bx_debug.specs.declared.stops.Stop.{Stop}

pub record History : Type 0 where
  pub image : Loaded
  pub start : State
  -- each of which was applied
  pub choices : List Choice
  -- how many of them lead to where the session stands
  pub at : ℕ
  -- where runs break off
  pub places : PlaceSet

-- the choices before the position
abbrev pub behind : History → List Choice
behind s = take s.at s.choices

-- the world that a session shows: the run of those choices from the start
abbrev pub world_of : History → State
world_of s = (ran s.image (behind s) (unchosen s.start)).world

-- at the start, with no choice made and no breakpoint set
abbrev pub begun : Loaded → State → History
begun image w = record { image = image; start = w; choices = []; at = 0; places = set.empty }

abbrev pub opened : Loaded → AtomId → AtomId → Result History Fault
opened image m f = started image m f >>= λ w. Ok (begun image w)

-- choices more are made from the position on, and those that stood behind it are removed; where there are none, nothing is
abbrev pub with_made : List Choice → History → History
with_made [] s = s
with_made (choice ∷ more) s = record s { choices = behind s ++ choice ∷ more; at = s.at + length (choice ∷ more) }

abbrev pub or_refused : Option Fault → History → Result (History × Unit {0}) Fault
or_refused None s = Ok (s, tt)
or_refused (Some fault) s = Err fault

-- one choice
abbrev pub stepped : Choice → History → Result (History × Unit {0}) Fault
stepped choice s = or_refused (refusal (world_of s) choice) (with_made (choice ∷ []) s)

-- the position moves back, not past the start
abbrev pub back : ℕ → History → Result (History × Unit {0}) Fault
back n s = if nat_lt s.at n then Err BeforeStart else Ok (record s { at = s.at - n }, tt)

-- the position moves forward, not past the last choice
abbrev pub forward : ℕ → History → Result (History × Unit {0}) Fault
forward n s = if nat_lt (length s.choices - s.at) n then Err AfterEnd else Ok (record s { at = s.at + n }, tt)

-- choices in order, up to the first that stops it: what was applied before stays
abbrev pub went : History → List Choice × Stop → History × Stop
went s walk = (with_made walk.0 s, walk.1)

abbrev pub gone : List Choice → History → History × Stop
gone choices s = went s (walked s.image s.places choices (world_of s))

-- memory is taken only where a choice is applied
abbrev pub GoTakes : List Choice → History → Type 0
GoTakes choices s = (walked s.image s.places choices (world_of s)).0 ≢ []

-- a breakpoint more, and one less
abbrev pub with_break : Place → History → History
with_break place s = record s { places = with_place s.places place }

abbrev pub without_break : Place → History → History
without_break place s = record s { places = without_place s.places place }

-- what a proof tells two of them apart by
abbrev pub history_code : Coded Loaded → Coded State → Coded Choice → Coded History
history_code image state choice =
    code_by (Loaded × (State × (List Choice × (ℕ × PlaceSet))))
    (coded× image (coded× state (coded× (coded_list choice) (coded× coded_ℕ (set.code (coded× coded_ℕ coded_ℕ))))))
    (λ s. (s.image, (s.start, (s.choices, (s.at, s.places)))))
    (λ t. record { image = t.0; start = t.1.0; choices = t.1.1.0; at = t.1.1.1.0; places = t.1.1.1.1 })
    (λ _. refl)
