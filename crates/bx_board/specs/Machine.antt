-- The machine that workers share: how each chain stands, which events may happen, and what each changes. Chain 0, the
-- root, is done from the start. A chain that waits is free once the chain that it stands on is done, and unborn until then.
use Rattle.std.specs.Prelude.{◌≡◌, ◌⊎◌, ℕ, zero, suc, ◌+◌, ◌-◌, ◌&&◌, not, nat_lt, Bool, true, false, IsTrue, List, [], ◌∷◌, Option, None, Some, length, replicate, slice_index_or, slice_set, refl}
use Rattle.std.specs.Coded.{Coded, code_by, coded⊎, coded_ℕ, coded_option}
use Rattle.std.proofs.Common.{inl, inr}
use Rattle.bx_world.specs.Running.{Ended}
use Rattle.bx_plan.specs.Chains.{above, chain_count, one_if}
use Rattle.bx_board.specs.declared.slots.Event.{Event, TheVariants.Lease, TheVariants.Submit, TheVariants.GiveBack, TheVariants.Stop}
use Rattle.bx_board.specs.Jobs.{Job, end_of, work_of}

-- a chain that nobody has, one that a worker holds, and one that was run, with its end
pub data Slot : Type 0 where
  Waiting : Slot
  Leased : ℕ → Slot
  Done : Ended → Slot

pub record Frontier : Type 0 where
  -- by chain
  pub slots : List Slot
  pub stopped : Bool

abbrev pub standing : Frontier → ℕ → Slot
standing s n = slice_index_or s.slots n Waiting

abbrev pub is_waiting : Slot → Bool
is_waiting Waiting = true
is_waiting (Leased k) = false
is_waiting (Done e) = false

abbrev pub is_leased : Slot → Bool
is_leased Waiting = false
is_leased (Leased k) = true
is_leased (Done e) = false

abbrev pub is_done : Slot → Bool
is_done Waiting = false
is_done (Leased k) = false
is_done (Done e) = true

abbrev pub is_free : Job → Frontier → ℕ → Bool
is_free job s n = nat_lt n (length s.slots) && is_waiting (standing s n) && is_done (standing s (above job.chains n))

abbrev pub is_unborn : Job → Frontier → ℕ → Bool
is_unborn job s n = nat_lt n (length s.slots) && is_waiting (standing s n) && not (is_done (standing s (above job.chains n)))

abbrev pub Holds : Frontier → ℕ → Type 0
Holds s k = (n : ℕ) × (standing s n ≡ Leased k)

-- a chain is leased where it is free, nothing was stopped and the worker holds none; it is handed in or given back by the
-- worker that holds it; a campaign is stopped once
abbrev pub May : Job → Frontier → Event → Type 0
May job s (Lease k n) = IsTrue (is_free job s n) × (s.stopped ≡ false) × (Holds s k → ⊥)
May job s (Submit k n) = standing s n ≡ Leased k
May job s (GiveBack k n) = standing s n ≡ Leased k
May job s Stop = s.stopped ≡ false

abbrev pub with_slot : Frontier → ℕ → Slot → Frontier
with_slot s n slot = record { slots = slice_set s.slots n slot; stopped = s.stopped }

abbrev pub after : Job → Frontier → Event → Frontier
after job s (Lease k n) = with_slot s n (Leased k)
after job s (Submit k n) = with_slot s n (Done (end_of (work_of job n)))
after job s (GiveBack k n) = with_slot s n Waiting
after job s Stop = record { slots = s.slots; stopped = true }

abbrev pub initial : Job → Frontier
initial job = record { slots = Done (end_of (work_of job 0)) ∷ replicate (chain_count job.chains - 1) Waiting; stopped = false }

-- the state after a list of events, from that one on
abbrev pub replay : Job → Frontier → List Event → Frontier
replay job s [] = s
replay job s (e ∷ es) = replay job (after job s e) es

-- each event might happen when it did
abbrev pub IsLegal : Job → Frontier → List Event → Type 0
IsLegal job s [] = Unit {0}
IsLegal job s (e ∷ es) = May job s e × IsLegal job (after job s e) es

-- how many numbers below a bound pass a test
abbrev pub how_many : (ℕ → Bool) → ℕ → ℕ
how_many p zero = 0
how_many p (suc n) = how_many p n + one_if (p n)

abbrev pub is_held : Frontier → ℕ → Bool
is_held s n = is_leased (standing s n)

abbrev pub is_finished : Frontier → ℕ → Bool
is_finished s n = is_done (standing s n)

-- ---- what a proof tells two slots apart by

abbrev pub slot_out : Slot → Option (ℕ ⊎ Ended)
slot_out Waiting = None
slot_out (Leased k) = Some (inl k)
slot_out (Done e) = Some (inr e)

abbrev pub slot_in : Option (ℕ ⊎ Ended) → Slot
slot_in None = Waiting
slot_in (Some (inl k)) = Leased k
slot_in (Some (inr e)) = Done e

abbrev pub slot_code : Coded Ended → Coded Slot
slot_code end = code_by (Option (ℕ ⊎ Ended)) (coded_option (coded⊎ coded_ℕ end)) slot_out slot_in (λ s. elim s as (λ t. slot_in (slot_out t) ≡ t) [ Waiting ↦ refl | Leased k ↦ refl | Done e ↦ refl ])
