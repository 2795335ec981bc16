-- What `campaign` writes: what `run` writes, where there are 1 to 64 workers.
use Rattle.std.specs.Prelude.{◌≡◌, ℕ, ◌||◌, ◌==◌, nat_lt, if◌then◌else◌, List, length, Result, Ok, Err}
use Rattle.bx_terms.specs.declared.faults.Fault.{Fault, TheVariants.Workers}
use Rattle.bx_load.specs.Image.{Loaded}
use Rattle.bx_plan.specs.Plans.{Named, plan_of}
use Rattle.bx_engine.specs.Starts.{start_in}
use Rattle.bx_engine.specs.Units.{◌>>=◌}
use Rattle.bx_engine.specs.Loads.{image_of, of_no_file, plan_in}
use Rattle.bx_engine.specs.Runs.{Names, or_start, written_in}
use Rattle.bx_engine.specs.declared.failures.Failure.{Failure}
use Rattle.bx_engine.specs.declared.forms.Form.{Form, TheVariants.Report}

abbrev pub campaign_in : Form → ℕ → Loaded → Names → List Named → Result (List ℕ) Fault
campaign_in form workers image names plan = if (workers == 0) || nat_lt 64 workers then Err Workers else written_in form image names plan

-- the text is a plan's, of which the campaign writes this
pub record IsCampaignOf (form : Form) (workers : ℕ) (image : Loaded) (names : Names) (text report : List ℕ) : Type 0 where
  pub plan : List Named
  pub read : plan_of text ≡ Ok plan
  pub lines : campaign_in form workers image names plan ≡ Ok report

-- the plan in the file of that number, then how many workers there are, then what the start names
abbrev pub told_of : Form → ℕ → ℕ → Loaded → Names → List ℕ → Result (List ℕ) Failure
told_of form workers n image names planned = plan_in n planned >>= λ plan. of_no_file (campaign_in form workers image names plan)

-- the listings, then the plan, then how many workers there are, then what the start names
abbrev pub campaign_behind : Form → ℕ → Names → List (List ℕ) → List ℕ → Result (List ℕ) Failure
campaign_behind form workers names given planned = do
  image ← image_of given
  plan ← plan_in (length given) planned
  of_no_file (campaign_in form workers image names plan)

-- the start first
abbrev pub campaign_as : Form → ℕ → List ℕ → List (List ℕ) → List ℕ → Result (List ℕ) Failure
campaign_as form workers start given planned = or_start (start_in start) >>= λ names. campaign_behind form workers names given planned

-- the same of reports
abbrev pub campaign_of : ℕ → List ℕ → List (List ℕ) → List ℕ → Result (List ℕ) Failure
campaign_of workers start given planned = campaign_as Report workers start given planned
