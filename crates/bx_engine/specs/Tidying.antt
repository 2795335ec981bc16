-- What `tidy` writes: a plan of the same schedules, each with its choices exchanged so that those of one process stand together.
use Rattle.std.specs.Prelude.{◌≡◌, ◌⊎◌, ◌<◌, ◌≤◌, ℕ, List, [], ◌∷◌, ◌++◌, Option, Some, None, Result, Ok, Err, IsErr, IsOk, codes, length}
use Rattle.std.specs.Io.KnownBytes.{Appends}
use Rattle.bx_terms.specs.declared.faults.Fault.{Fault, TheVariants.Memory, TheVariants.NoEntry}
use Rattle.bx_load.specs.Image.{Loaded}
use Rattle.bx_world.specs.World.{State, started}
use Rattle.bx_world.specs.declared.choices.Choice.{Choice}
use Rattle.bx_plan.specs.Plans.{Named, plan_of}
use Rattle.bx_board.specs.Jobs.{Entry}
use Rattle.bx_swaps.specs.Tidying.{IsTidyFrom}
use Rattle.bx_engine.specs.Inputs.{input_limit}
use Rattle.bx_engine.specs.Loads.{image_of}
use Rattle.bx_engine.specs.PlanLines.{plan_line}
use Rattle.bx_engine.specs.Runs.{Names, Writes, entry_in, run_of}
use Rattle.bx_engine.specs.Starts.{start_in}
use Rattle.bx_engine.specs.Units.{FilesGive}
use Rattle.bx_engine.specs.declared.failures.Failure.{Failure}

-- each schedule under its name, tidied from that start
abbrev pub AreTidied : Loaded → State → List Named → List Named → Type 0
AreTidied image start [] [] = Unit {0}
AreTidied image start [] (new ∷ news) = ⊥
AreTidied image start (old ∷ olds) [] = ⊥
AreTidied image start (old ∷ olds) (new ∷ news) =
    (new.0 ≡ old.0) × IsTidyFrom image start old.1 (Ok new.1) × AreTidied image start olds news

-- a line for each schedule
abbrev pub plan_text : List Named → List ℕ
plan_text [] = []
plan_text (schedule ∷ more) = (plan_line schedule.0 schedule.1 ++ codes "\n") ++ plan_text more

-- a text that is too long for a plan, or is none within its limits
abbrev pub IsPastLimits : List ℕ → Type 0
IsPastLimits text = (input_limit < length text) ⊎ IsErr (plan_of text)

-- the lines of the tidied schedules, or, where these are past the limits of a plan, the text that was given
pub record IsTidiedText (image : Loaded) (start : State) (plan : List Named) (planned text : List ℕ) : Type 0 where
  pub tidied : List Named
  pub are : AreTidied image start plan tidied
  pub written : ((text ≡ plan_text tidied) × (length text ≤ input_limit) × (plan_of text ≡ Ok tidied))
      ⊎ ((text ≡ planned) × IsPastLimits (plan_text tidied))

-- the lines alone
pub record AreLinesOf (image : Loaded) (start : State) (plan : List Named) (text : List ℕ) : Type 0 where
  pub tidied : List Named
  pub are : AreTidied image start plan tidied
  pub lines : text ≡ plan_text tidied

-- memory may run out wherever there is a start; where there is none, why
abbrev pub TidiesFrom : {X : Type 0} → (X → Type 0) → Result X Fault → Type 0
TidiesFrom wanted (Ok x) = wanted x
TidiesFrom wanted (Err Memory) = Unit {0}
TidiesFrom wanted (Err fault) = ⊥

abbrev pub TidiesAt : {X : Type 0} → Result State Fault → (State → X → Type 0) → Result X Fault → Type 0
TidiesAt (Ok start) wanted answer = TidiesFrom (wanted start) answer
TidiesAt (Err fault) wanted answer = answer ≡ Err fault

-- a line more, of a schedule that is tidied
pub record PushesTidied (image : Loaded) (start : State) (schedule : Named) (old new : List ℕ) : Type 0 where
  pub choices : List Choice
  pub is : IsTidyFrom image start schedule.1 (Ok choices)
  pub lines : new ≡ old ++ (plan_line schedule.0 choices ++ codes "\n")

-- of the schedule of that number
abbrev pub PushesAt : Loaded → State → Option Named → List ℕ → List ℕ → Type 0
PushesAt image start None old new = ⊥
PushesAt image start (Some schedule) old new = PushesTidied image start schedule old new

-- lines that are written, or none where they are past the limits
abbrev pub LinesWithin : {X : Type 0} → (X → List ℕ) → Loaded → State → List Named → Option X → Type 0
LinesWithin view image start plan (Some text) = AreLinesOf image start plan (view text) × (length (view text) ≤ input_limit) × IsOk (plan_of (view text))
LinesWithin view image start plan None = (text : List ℕ) × AreLinesOf image start plan text × IsPastLimits text

abbrev pub TidiesBy : {X : Type 0} → (X → List ℕ) → Loaded → Option Entry → List Named → Result (Option X) Fault → Type 0
TidiesBy view image None plan answer = answer ≡ Err NoEntry
TidiesBy view image (Some entry) plan answer = TidiesAt (started image entry.0 entry.1) (λ start. LinesWithin view image start plan) answer

-- what is written of a plan that is read, from a start that is found
pub record IsTidyOf (names : Names) (given : List (List ℕ)) (planned text : List ℕ) : Type 0 where
  pub image : Loaded
  pub loaded : image_of given ≡ Ok image
  pub entry : Entry
  pub found : entry_in image names ≡ Some entry
  pub start : State
  pub begins : started image entry.0 entry.1 ≡ Ok start
  pub plan : List Named
  pub read : plan_of planned ≡ Ok plan
  pub within : length planned ≤ input_limit
  pub tidied : IsTidiedText image start plan planned text

-- what came of the files
abbrev pub TidiesFiles : {X : Type 0} → (X → List ℕ) → Result X Failure → (ℕ → Type 0) → Result (List ℕ) Failure → (List ℕ → Type 0) → Type 0
TidiesFiles view (Ok x) clear said wanted = wanted (view x)
TidiesFiles view (Err failure) clear said wanted = FilesGive view (Err failure) clear said

-- a plan is written of which each schedule is tidied, and whose report is that of the plan that was given; what is refused, `run` refuses alike
abbrev pub WritesTidied : Type 0 → Option (List ℕ) → Option (List ℕ) → Result (Unit {0}) Failure → (ℕ → Type 0) → List ℕ → List (List ℕ) → List ℕ → Type 0
WritesTidied takes old new (Ok done) clear start given planned =
    (names : Names) × (text : List ℕ) × (start_in start ≡ Some names) × IsTidyOf names given planned text
    × (run_of start given text ≡ run_of start given planned) × Appends old new text
WritesTidied takes old new (Err failure) clear start given planned = Writes takes old new (Err failure) clear (run_of start given planned)
