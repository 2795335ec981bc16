-- What `chart` writes: the drawing of a schedule's run from the start; or the first fault.
use Rattle.std.specs.Prelude.{ℕ, List, [], ◌∷◌, Option, Some, None, Result, Ok, Err, bytes_eq, find, if◌then◌else◌, is_none, length}
use Rattle.bx_terms.specs.declared.faults.Fault.{Fault, TheVariants.BadCommand, TheVariants.Memory, TheVariants.NoEntry}
use Rattle.bx_load.specs.Image.{Loaded, export}
use Rattle.bx_plan.specs.Plans.{Named}
use Rattle.bx_board.specs.Jobs.{Entry}
use Rattle.bx_svg.specs.Markup.{written}
use Rattle.bx_events.specs.Stories.{story}
use Rattle.bx_engine.specs.Loads.{image_of, plan_in}
use Rattle.bx_engine.specs.Runs.{Names, entry_in, or_start}
use Rattle.bx_engine.specs.Sources.{Sources, sources_of}
use Rattle.bx_engine.specs.Starts.{start_in}
use Rattle.bx_engine.specs.Units.{◌>>=◌}
use Rattle.bx_engine.specs.declared.failures.Failure.{Failure, TheVariants.Refused}
use Rattle.bx_chart.specs.Sheets.{sheet}

-- ---- which schedule

-- the one of that name; where none is named, the only one
abbrev pub asked_for : Option (List ℕ) → List Named → Option Named
asked_for (Some name) plan = find (λ schedule. bytes_eq schedule.0 name) plan
asked_for None (schedule ∷ []) = Some schedule
asked_for None plan = None

-- ---- its drawing

-- of its run from that function of that module
abbrev pub drawing_of : Loaded → Sources → Entry → Option Named → Result (List ℕ) Fault
drawing_of image sources entry None = Err (BadCommand 0)
drawing_of image sources entry (Some schedule) = do
  told ← story image entry.0 entry.1 schedule.1
  Ok (written (sheet image sources schedule.0 told))

-- a start that is not exported goes before a schedule that is not there
abbrev pub chart_at : Loaded → Sources → Option Entry → Option (List ℕ) → List Named → Result (List ℕ) Fault
chart_at image sources None schedule plan = Err NoEntry
chart_at image sources (Some entry) schedule plan =
    if is_none (export image entry.0 entry.1 0) then Err NoEntry else drawing_of image sources entry (asked_for schedule plan)

-- ---- of files

-- out of memory, and a start that is not exported, is no file's fault; all else is the plan's
abbrev pub failure_of : ℕ → Fault → Failure
failure_of file Memory = Refused Memory None
failure_of file NoEntry = Refused NoEntry None
failure_of file fault = Refused fault (Some file)

abbrev pub in_plan : ℕ → Result (List ℕ) Fault → Result (List ℕ) Failure
in_plan file (Ok text) = Ok text
in_plan file (Err fault) = Err (failure_of file fault)

-- the listings, then the plan, then what the start names
abbrev pub chart_behind : Names → Option (List ℕ) → List (List ℕ) → List ℕ → Result (List ℕ) Failure
chart_behind names schedule given planned = do
  image ← image_of given
  plan ← plan_in (length given) planned
  in_plan (length given) (chart_at image (sources_of given) (entry_in image names) schedule plan)

-- the start first
abbrev pub chart_of : List ℕ → Option (List ℕ) → List (List ℕ) → List ℕ → Result (List ℕ) Failure
chart_of start schedule given planned = or_start (start_in start) >>= λ names. chart_behind names schedule given planned
