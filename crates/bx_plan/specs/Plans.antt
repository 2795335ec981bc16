-- What a plan's text is read as: named schedules in the order of their lines, or the first fault.
use Rattle.std.specs.Prelude.{ℕ, ◌+◌, ◌≤◌, ◌<◌, Bool, ◌||◌, if◌then◌else◌, nat_lt, List, [], ◌∷◌, ◌++◌, length, map, Option, None, Some, Result, Ok, Err}
use Rattle.std.specs.List.{list_any}
use Rattle.std.specs.Str.{bytes_eq}
use Rattle.bx_terms.specs.Outcomes.{◌>>=◌, Gives}
use Rattle.bx_terms.specs.declared.faults.Fault.{Fault, TheVariants.BadLine, TheVariants.NameTwice, TheVariants.TooLong}
use Rattle.bx_world.specs.declared.choices.Choice.{Choice}
use Rattle.bx_plan.specs.Entry.{Entry}
use Rattle.bx_plan.specs.Nodes.{node_count}
use Rattle.bx_plan.specs.Reading.{parts_of, line_of, spread}

-- a schedule: its name, and its choices
abbrev pub Named : Type 0
Named = List ℕ × List Choice

-- a line's schedule, each entry spread
abbrev pub named : List ℕ × List Entry → Named
named line = (line.0, spread line.1)

abbrev pub has_name : List ℕ → List Named → Bool
has_name name plan = list_any (λ schedule. bytes_eq name schedule.0) plan

abbrev pub choices_of : List Named → List (List Choice)
choices_of plan = map (λ schedule. schedule.1) plan

-- over 100,000 choices in a schedule, or over 1,000,000 nodes below the root with it
abbrev pub is_too_long : List Named → Named → Bool
is_too_long plan schedule = nat_lt 100000 (length schedule.1) || nat_lt 1000000 (node_count (choices_of (plan ++ schedule ∷ [])))

-- one schedule more, of line n
abbrev pub with_schedule : ℕ → List Named → Named → Result (List Named) Fault
with_schedule n plan schedule =
    if has_name schedule.0 plan then Err (NameTwice n)
    else if is_too_long plan schedule then Err (TooLong n)
    else Ok (plan ++ schedule ∷ [])

-- what was read of line n
abbrev pub with_read : ℕ → List Named → Option (Option (List ℕ × List Entry)) → Result (List Named) Fault
with_read n plan None = Err (BadLine n)
with_read n plan (Some None) = Ok plan
with_read n plan (Some (Some line)) = with_schedule n plan (named line)

-- the lines from line n on
abbrev pub with_lines : ℕ → List Named → List (List ℕ) → Result (List Named) Fault
with_lines n plan [] = Ok plan
with_lines n plan (line ∷ lines) = with_read n plan (line_of line) >>= λ more. with_lines (n + 1) more lines

-- a text cut at its line feeds
abbrev pub plan_of : List ℕ → Result (List Named) Fault
plan_of text = with_lines 1 [] (parts_of 10 text)

-- A plan takes memory for its first schedule: where that is read and not too long, whatever follows.
abbrev pub TakesFirst : Option (Option (List ℕ × List Entry)) → Type 0 → Type 0
TakesFirst None later = ⊥
TakesFirst (Some None) later = later
TakesFirst (Some (Some line)) later = length (spread line.1) ≤ 100000

abbrev pub TakesMemory : List (List ℕ) → Type 0
TakesMemory [] = ⊥
TakesMemory (line ∷ lines) = TakesFirst (line_of line) (TakesMemory lines)

-- The schedule that was asked for. Memory is wanted only where it makes a choice.
abbrev pub Shows : Option Named → Result (List Choice) Fault → Type 0
Shows None answer = ⊥
Shows (Some schedule) answer = Gives (0 < length schedule.1) (λ choices. choices) answer (Ok schedule.1)
