-- What a campaign runs: loaded code from its start, along the chains of a plan.
use Rattle.std.specs.Prelude.{◌≡◌, ℕ, List, [], None, Result, Ok, Err, refl}
use Rattle.std.specs.FinMap as map
use Rattle.std.specs.Coded.{Coded, code_by, coded×, coded_ℕ, coded_list}
use Rattle.bx_terms.specs.declared.atom_table.AtomId.{AtomId}
use Rattle.bx_terms.specs.declared.faults.Fault.{Fault}
use Rattle.bx_load.specs.Image.{Loaded}
use Rattle.bx_world.specs.declared.choices.Choice.{Choice}
use Rattle.bx_world.specs.World.{State, started}
use Rattle.bx_world.specs.Running.{Ended, ran, unchosen}
use Rattle.bx_plan.specs.Planned.{Planned}
use Rattle.bx_plan.specs.Chains.{Chained, chain_length, chain_path}

-- the names of the module and of the function of no arguments that the first process begins with
abbrev pub Entry : Type 0
Entry = AtomId × AtomId

pub record Job : Type 0 where
  pub image : Loaded
  pub start : Entry
  pub plan : Planned
  pub chains : Chained

-- a campaign of nothing
abbrev pub no_job : Job
no_job =
    let nobody : AtomId = record { 0 = 0 } in
    record {
      image = record { atoms = []; modules = [] };
      start = (nobody, nobody);
      plan = [];
      chains = record { heads = []; kids = []; ends = [] };
    }

-- the world at the start; none of a start that is not exported
abbrev pub world_or_none : Result State Fault → State
world_or_none (Ok w) = w
world_or_none (Err fault) = record { processes = []; lanes = record { channels = map.empty; output = [] }; trap = None }

abbrev pub origin : Loaded → Entry → Ended
origin image start = unchosen (world_or_none (started image start.0 start.1))

-- the run of choices alone, from the start
abbrev pub run_alone : Loaded → Entry → List Choice → Ended
run_alone image start choices = ran image choices (origin image start)

-- what is to be run: the code, the start, and the choices up to the chain's end
pub record Work : Type 0 where
  pub image : Loaded
  pub start : Entry
  pub path : List Choice
  -- how many of those choices are the chain's own, the last ones
  pub own : ℕ

-- the same choices lead from the same start, however they are cut into chains
pub record IsSameRun (work other : Work) : Type 0 where
  pub image : work.image ≡ other.image
  pub start : work.start ≡ other.start
  pub path : work.path ≡ other.path

abbrev pub end_of : Work → Ended
end_of work = run_alone work.image work.start work.path

abbrev pub work_of : Job → ℕ → Work
work_of job n = record { image = job.image; start = job.start; path = chain_path job.plan job.chains n; own = chain_length job.chains n }

-- where a chain leads, run alone from the start
abbrev pub chain_end : Job → ℕ → Ended
chain_end job chain = end_of (work_of job chain)

-- what a proof tells two of them apart by
abbrev pub work_code : Coded Loaded → Coded AtomId → Coded Choice → Coded Work
work_code image atom choice =
    code_by (Loaded × (Entry × (List Choice × ℕ))) (coded× image (coded× (coded× atom atom) (coded× (coded_list choice) coded_ℕ)))
    (λ w. (w.image, (w.start, (w.path, w.own))))
    (λ t. record { image = t.0; start = t.1.0; path = t.1.1.0; own = t.1.1.1 })
    (λ _. refl)
