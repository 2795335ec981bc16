-- A plan while its lines are read.
use Rattle.std.specs.Prelude.{◌≡◌, ◌⊎◌, ℕ, ◌+◌, ◌≤◌, ◌<◌, nat_lt, if◌then◌else◌, List, [], ◌∷◌, ◌++◌, Option, None, Some, length, slice_index_or, take, Result, Ok, Err}
use Rattle.std.specs.BTreeSet.{contains}
use Rattle.std.specs.Borrow.{Bor}
use Rattle.std.specs.declared.cmp.Ordering.{Ordering}
use Rattle.std.specs.Ordering.{nat_cmp}
use Rattle.std.specs.Cmp.Lexicographic.{slice_cmp}
use Rattle.bx_terms.specs.declared.faults.Fault.{Fault, TheVariants.BadLine, TheVariants.NameTwice, TheVariants.TooLong}
use Rattle.bx_plan.specs.Entry.{Entry}
use Rattle.bx_plan.specs.declared.plans.building.Builder.{Builder}
use Rattle.bx_plan.specs.Nodes.{node_count}
use Rattle.bx_plan.specs.Plans.{Named, choices_of, has_name, named, plan_of, TakesMemory}
use Rattle.bx_plan.specs.Reading.{parts_of}
use Rattle.bx_plan.specs.View.{lines_view}

abbrev pub text_cmp : Bor (List ℕ) → Bor (List ℕ) → Ordering
text_cmp a b = slice_cmp nat_cmp a.now b.now

-- the schedules so far
abbrev pub so_far : Builder → List Named
so_far builder = lines_view builder.lines.items

-- the set has the names of the schedules so far, and each has the number of its line
pub record IsBuilding (builder : Builder) : Type 0 where
  pub known : (name : Bor (List ℕ)) → contains text_cmp builder.names name ≡ has_name name.now (so_far builder)
  pub numbered : length builder.numbers.items ≡ length (so_far builder)

-- one schedule more, of line n, however many prefixes there are
abbrev pub with_loose : ℕ → List Named → Named → Result (List Named) Fault
with_loose n plan schedule = if has_name schedule.0 plan then Err (NameTwice n) else if nat_lt 100000 (length schedule.1) then Err (TooLong n) else Ok (plan ++ schedule ∷ [])

-- what was read of line n, in the same way
abbrev pub read_loose : ℕ → List Named → Option (Option (List ℕ × List Entry)) → Result (List Named) Fault
read_loose n plan None = Err (BadLine n)
read_loose n plan (Some None) = Ok plan
read_loose n plan (Some (Some line)) = with_loose n plan (named line)

-- the line's number is noted where a schedule was added
abbrev pub IsNoted : ℕ → Builder → Builder → Type 0
IsNoted n old new = ((new.numbers.items ≡ old.numbers.items) × (so_far new ≡ so_far old)) ⊎ ((new.numbers.items ≡ old.numbers.items ++ n ∷ []) × (length (so_far new) ≡ length (so_far old) + 1))

abbrev pub answer_of : Option Fault → List Named → Result (List Named) Fault
answer_of None plan = Ok plan
answer_of (Some fault) plan = Err fault

-- a step is what the definition says of the schedules before it; out of memory only where `takes` holds
abbrev pub Adds : {E : Type 0} → Type 0 → ℕ → Builder → Builder → Result (Option Fault) E → Result (List Named) Fault → Type 0
Adds takes n old new (Ok None) said = (said ≡ Ok (so_far new)) × IsBuilding new × IsNoted n old new
Adds takes n old new (Ok (Some fault)) said = (said ≡ Err fault) × (new.numbers.items ≡ old.numbers.items) × (so_far new ≡ so_far old)
Adds takes n old new (Err e) said = takes

-- with one of the schedules there are too many prefixes, and the answer names its line
abbrev pub Overfull : List Named → List ℕ → Result (List Named) Fault → Type 0
Overfull plan numbers answer =
    (i : ℕ) × (i < length plan) × (node_count (take i (choices_of plan)) ≤ 1000000) × (1000000 < node_count (take (i + 1) (choices_of plan)))
    × (answer ≡ Err (TooLong (slice_index_or numbers i 0)))

-- the answer is that one, or there are too many prefixes
abbrev pub Stands : List Named → List ℕ → Result (List Named) Fault → Result (List Named) Fault → Type 0
Stands plan numbers said answer = ((node_count (choices_of plan) ≤ 1000000) × (said ≡ answer)) ⊎ Overfull plan numbers answer

-- the lines up to one at fault by itself were read
pub record IsRead (text : List ℕ) (builder : Builder) (said : Result (List Named) Fault) : Type 0 where
  pub stands : Stands (so_far builder) builder.numbers.items said (plan_of text)
  pub numbered : length builder.numbers.items ≡ length (so_far builder)
  pub takes : 0 < length (so_far builder) → TakesMemory (parts_of 10 text)
