-- What holds after every list of events that may happen one after another, by any workers.
use Rattle.std.specs.Prelude.{◌≡◌, ℕ, ◌+◌, ◌<◌, ◌==◌, List, [], ◌∷◌, length}
use Rattle.bx_world.specs.Running.{Ended}
use Rattle.bx_plan.specs.Chains.{AreChains, one_if}
use Rattle.bx_board.specs.declared.slots.Event.{Event, TheVariants.Lease, TheVariants.Submit, TheVariants.GiveBack, TheVariants.Stop}
use Rattle.bx_board.specs.Jobs.{Job, end_of, work_of}
use Rattle.bx_board.specs.Machine.{Frontier, Leased, Done, standing, is_done, is_finished, how_many, initial, replay, IsLegal}

-- how many pieces were accepted of a chain
abbrev pub accepted_by : ℕ → Event → ℕ
accepted_by n (Lease k m) = 0
accepted_by n (Submit k m) = one_if (m == n)
accepted_by n (GiveBack k m) = 0
accepted_by n Stop = 0

abbrev pub accepted : ℕ → List Event → ℕ
accepted n [] = 0
accepted n (e ∷ es) = accepted_by n e + accepted n es

-- and of all chains
abbrev pub submitted_by : Event → ℕ
submitted_by (Lease k m) = 0
submitted_by (Submit k m) = 1
submitted_by (GiveBack k m) = 0
submitted_by Stop = 0

abbrev pub submitted : List Event → ℕ
submitted [] = 0
submitted (e ∷ es) = submitted_by e + submitted es

pub record IsSound (job : Job) (s : Frontier) (events : List Event) : Type 0 where
  -- the end of a chain that is done is that of the run of its path, alone from the start
  pub ends : (n : ℕ) (e : Ended) → standing s n ≡ Done e → e ≡ end_of (work_of job n)
  -- no worker holds two chains, and no two workers hold one
  pub one : (k m n : ℕ) → standing s m ≡ Leased k → standing s n ≡ Leased k → m ≡ n
  pub alone : (j k n : ℕ) → standing s n ≡ Leased j → standing s n ≡ Leased k → j ≡ k
  -- of each chain below the root as many pieces were accepted as it is done: one, or none
  pub once : (n : ℕ) → 0 < n → accepted n events ≡ one_if (is_done (standing s n))
  -- and in all as many as chains are done, the root aside
  pub all : submitted events + 1 ≡ how_many (is_finished s) (length s.slots)

abbrev pub EveryHistoryIsSound : Type 0
EveryHistoryIsSound =
    (job : Job) (events : List Event) → AreChains job.plan job.chains → IsLegal job (initial job) events
    → IsSound job (replay job (initial job) events) events
