-- What a board keeps, and what each call of it is.
use Rattle.std.specs.Prelude.{◌≡◌, ◌≢◌, ℕ, ◌<◌, false, IsTrue, List, length, Option, None, Some, Result, Ok, Err, IsOk, IsSome, refl, Bool}
use Rattle.std.specs.Coded.{Coded, code_by, coded×, coded_bool, coded_list}
use Rattle.bx_terms.specs.declared.atom_table.AtomId.{AtomId}
use Rattle.bx_terms.specs.declared.faults.Fault.{Fault, TheVariants.Memory, TheVariants.NotLeased, TheVariants.Foreign, TheVariants.Twice}
use Rattle.bx_load.specs.Image.{Loaded, export}
use Rattle.bx_world.specs.World.{started}
use Rattle.bx_world.specs.Running.{Ended}
use Rattle.bx_plan.specs.Planned.{Planned}
use Rattle.bx_plan.specs.Chains.{AreChains, Chained, above, chain_count}
use Rattle.bx_board.specs.declared.slots.Event.{Event, TheVariants.Lease, TheVariants.Submit, TheVariants.GiveBack}
use Rattle.bx_board.specs.Jobs.{Entry, IsSameRun, Job, Work, end_of, work_of}
use Rattle.bx_board.specs.Machine.{Frontier, Slot, Leased, Done, slot_code, standing, is_waiting, is_done, May, after, initial, replay, IsLegal}

-- the campaign, and how it stands
pub record Kept : Type 0 where
  pub job : Job
  pub state : Frontier

abbrev pub begun_with : Job → Kept
begun_with job = record { job = job; state = initial job }

-- after one event more
abbrev pub then : Kept → Event → Kept
then b e = record { job = b.job; state = after b.job b.state e }

-- events, each of which might happen, lead to the state
abbrev pub HasHistory : Kept → Type 0
HasHistory b = (events : List Event) × (b.state ≡ replay b.job (initial b.job) events) × IsLegal b.job (initial b.job) events

pub record IsKept (b : Kept) : Type 0 where
  pub chains : AreChains b.job.plan b.job.chains
  pub history : HasHistory b
  pub count : length b.state.slots ≡ chain_count b.job.chains
  pub root : IsTrue (is_done (standing b.state 0))
  -- a chain that was leased stands on one that is done
  pub born : (n : ℕ) → 0 < n → is_waiting (standing b.state n) ≡ false → IsTrue (is_done (standing b.state (above b.job.chains n)))
  -- an end that was handed in is that of the chain's path
  pub sound : (n : ℕ) (e : Ended) → standing b.state n ≡ Done e → e ≡ end_of (work_of b.job n)
  -- no worker holds two
  pub one : (k m n : ℕ) → standing b.state m ≡ Leased k → standing b.state n ≡ Leased k → m ≡ n

-- what a proof tells two of them apart by
abbrev pub kept_code : Coded Loaded → Coded AtomId → Coded Planned → Coded Chained → Coded Ended → Coded Kept
kept_code image atom plan chains end =
    code_by ((Loaded × (Entry × (Planned × Chained))) × (List Slot × Bool))
    (coded× (coded× image (coded× (coded× atom atom) (coded× plan chains))) (coded× (coded_list (slot_code end)) coded_bool))
    (λ b. ((b.job.image, (b.job.start, (b.job.plan, b.job.chains))), (b.state.slots, b.state.stopped)))
    (λ t. record {
      job = record { image = t.0.0; start = t.0.1.0; plan = t.0.1.1.0; chains = t.0.1.1.1 };
      state = record { slots = t.1.0; stopped = t.1.1 };
    })
    (λ _. refl)

-- ---- what the calls are

-- the campaign of a plan over loaded code from a start: nothing has happened
pub record IsOpening (image : Loaded) (start : Entry) (plan : Planned) (b : Kept) : Type 0 where
  pub exported : IsOk (started image start.0 start.1)
  pub chains : AreChains plan b.job.chains
  pub begun : b ≡ begun_with (record { image = image; start = start; plan = plan; chains = b.job.chains })

-- it is opened, or refused exactly where the start isn't exported; memory is taken only where it is
abbrev pub Opens : Loaded → Entry → Planned → Result Kept Fault → Type 0
Opens image start plan (Ok b) = IsOpening image start plan b
Opens image start plan (Err Memory) = IsSome (export image start.0 start.1 0)
Opens image start plan (Err fault) = started image start.0 start.1 ≡ Err fault

abbrev pub Happens : Kept → Event → Kept → Type 0
Happens old e new = May old.job old.state e × (new ≡ then old e)

-- a lease: a free chain, or none, exactly where none may be leased
abbrev pub Leases : Kept → ℕ → Option Work → Kept → Type 0
Leases old k None new = (new ≡ old) × ((n : ℕ) → May old.job old.state (Lease k n) → ⊥)
Leases old k (Some work) new = (n : ℕ) × Happens old (Lease k n) new × (work ≡ work_of old.job n)

-- some chain may be leased to that worker
abbrev pub MayLease : Kept → ℕ → Type 0
MayLease b k = (n : ℕ) × May b.job b.state (Lease k n)

-- the work is the run of a chain of the campaign
abbrev pub IsOf : Job → Work → ℕ → Type 0
IsOf job work n = (n < chain_count job.chains) × IsSameRun work (work_of job n)

-- a lease, with the chain that was leased
abbrev pub Takes : Kept → ℕ → Option (ℕ × Work) → Kept → Type 0
Takes old k None new = (new ≡ old) × ((n : ℕ) → May old.job old.state (Lease k n) → ⊥)
Takes old k (Some task) new = Happens old (Lease k task.0) new × IsOf old.job task.1 task.0 × (task.1 ≡ work_of old.job task.0)

abbrev pub Submits : Kept → ℕ → Work → Kept → Type 0
Submits old k work new = (n : ℕ) × IsOf old.job work n × Happens old (Submit k n) new

-- why a piece is refused: it is no chain's of this campaign; else that chain is done; else this worker doesn't hold it
abbrev pub RefusesPiece : Fault → Kept → ℕ → Work → Type 0
RefusesPiece Foreign b k work = (n : ℕ) → IsOf b.job work n → ⊥
RefusesPiece Twice b k work = (n : ℕ) × IsOf b.job work n × IsTrue (is_done (standing b.state n))
RefusesPiece NotLeased b k work = (n : ℕ) × IsOf b.job work n × (is_done (standing b.state n) ≡ false) × (standing b.state n ≢ Leased k)
RefusesPiece fault b k work = ⊥

abbrev pub GivesBack : Kept → ℕ → Kept → Type 0
GivesBack old k new = (n : ℕ) × Happens old (GiveBack k n) new

abbrev pub IsAllDone : Kept → Type 0
IsAllDone b = (n : ℕ) → n < chain_count b.job.chains → IsTrue (is_done (standing b.state n))
