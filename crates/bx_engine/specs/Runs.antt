-- What `run` writes: what comes of the plan's schedules, each run alone from the start, in the form that is asked for; or the first
-- fault.
use Rattle.std.specs.Prelude.{◌≡◌, ℕ, List, Option, Some, None, Result, Ok, Err, IsOk, IsSome, length}
use Rattle.std.specs.Io.KnownBytes.{Appends, Keeps}
use Rattle.bx_terms.specs.AtomTable.{number_of}
use Rattle.bx_terms.specs.declared.faults.Fault.{Fault, TheVariants.NoEntry, TheVariants.Memory}
use Rattle.bx_load.specs.Image.{Loaded}
use Rattle.bx_plan.specs.Plans.{Named}
use Rattle.bx_board.specs.Jobs.{Entry}
use Rattle.bx_board.specs.Reported.{report_from}
use Rattle.bx_board.specs.declared.reports.Scheduled.{Scheduled}
use Rattle.bx_engine.specs.Starts.{start_in, token_in}
use Rattle.bx_engine.specs.Units.{◌>>=◌}
use Rattle.bx_engine.specs.Loads.{ClearUpTo, image_of, of_no_file, plan_in}
use Rattle.bx_engine.specs.Forms.{text_as}
use Rattle.bx_engine.specs.declared.failures.Failure.{Failure}
use Rattle.bx_engine.specs.declared.failures.Failure.TheVariants as failures
use Rattle.bx_engine.specs.declared.forms.Form.{Form, TheVariants.Report}

-- the names of a module and of a function of it
abbrev pub Names : Type 0
Names = List ℕ × List ℕ

-- where a process begins, by the numbers of two names; none where the loaded code does not hold them
abbrev pub both : Option ℕ → Option ℕ → Option Entry
both (Some m) (Some f) = Some (record { 0 = m }, record { 0 = f })
both m f = None

abbrev pub entry_in : Loaded → Names → Option Entry
entry_in image names = both (number_of image.atoms names.0) (number_of image.atoms names.1)

-- names that the loaded code does not hold name no export
abbrev pub reported : Loaded → Option Entry → List Named → Result (List Scheduled) Fault
reported image None plan = Err NoEntry
reported image (Some start) plan = report_from image start plan

-- the text of what comes of the schedules
abbrev pub written_in : Form → Loaded → Names → List Named → Result (List ℕ) Fault
written_in form image names plan = reported image (entry_in image names) plan >>= λ rows. Ok (text_as form image.atoms rows)

abbrev pub or_start : Option Names → Result Names Failure
or_start (Some names) = Ok names
or_start None = Err failures.Start

-- the listings, then the plan, then what the start names
abbrev pub written_behind : Form → Names → List (List ℕ) → List ℕ → Result (List ℕ) Failure
written_behind form names given planned = do
  image ← image_of given
  plan ← plan_in (length given) planned
  of_no_file (written_in form image names plan)

-- the start first
abbrev pub run_as : Form → List ℕ → List (List ℕ) → List ℕ → Result (List ℕ) Failure
run_as form start given planned = or_start (start_in start) >>= λ names. written_behind form names given planned

-- the same of reports
abbrev pub report_in : Loaded → Names → List Named → Result (List ℕ) Fault
report_in image names plan = written_in Report image names plan

abbrev pub report_of : Loaded → Names → List Named → Result (List ℕ) Failure
report_of image names plan = of_no_file (report_in image names plan)

abbrev pub run_behind : Names → List (List ℕ) → List ℕ → Result (List ℕ) Failure
run_behind names given planned = written_behind Report names given planned

abbrev pub run_of : List ℕ → List (List ℕ) → List ℕ → Result (List ℕ) Failure
run_of start given planned = run_as Report start given planned

-- nothing is at fault before the file of that number
abbrev pub ClearStart : List ℕ → List (List ℕ) → ℕ → Type 0
ClearStart start given n = IsSome (start_in start) × ClearUpTo given n

-- an atom begins the start, so that it is read into memory
abbrev pub TakesMemory : List ℕ → Type 0
TakesMemory start = IsSome (token_in start 0)

-- What an engine wrote, of whose files the bytes are known: the whole text, or nothing; where the writer failed, nothing is said of how
-- much of the text it took. Out of memory comes only where `takes` holds, and is no file's fault.
abbrev pub Writes : Type 0 → Option (List ℕ) → Option (List ℕ) → Result (Unit {0}) Failure → (ℕ → Type 0) → Result (List ℕ) Failure → Type 0
Writes takes old new (Ok done) clear (Ok text) = Appends old new text
Writes takes old new (Ok done) clear (Err failure) = ⊥
Writes takes old new (Err (failures.Refused Memory file)) clear said = takes × (file ≡ None) × Keeps old new
Writes takes old new (Err (failures.Refused fault file)) clear said = (said ≡ Err (failures.Refused fault file)) × Keeps old new
Writes takes old new (Err (failures.Read file)) clear said = clear file × Keeps old new
Writes takes old new (Err failures.Write) clear said = IsOk said
Writes takes old new (Err failures.Start) clear said = (said ≡ Err failures.Start) × Keeps old new
