-- How a book keeps each chain. Of one that is done it keeps what its end shows, for schedules that end with it, and the end itself only
-- while chains that go on from it are not done.
use Rattle.std.specs.Prelude.{◌≡◌, ℕ, suc, ◌-◌, ◌==◌, ◌&&◌, not, Bool, if◌then◌else◌, IsOk, List, [], ◌∷◌, Option, None, Some, length, slice_index_or}
use Rattle.std.specs.List.{All}
use Rattle.bx_world.specs.Running.{Ended}
use Rattle.bx_world.specs.World.{started}
use Rattle.bx_plan.specs.Chains.{is_kid}
use Rattle.bx_board.specs.declared.books.stands.Stand.{Stand}
use Rattle.bx_board.specs.declared.books.stands.Stand.TheVariants as stands
use Rattle.bx_board.specs.declared.books.stands.Way.{Way}
use Rattle.bx_board.specs.Jobs.{Job, chain_end}
use Rattle.bx_board.specs.Kept.{Kept}
use Rattle.bx_board.specs.Machine.{Frontier, Slot, Waiting, Leased, Done, standing, is_done, how_many}
use Rattle.bx_board.specs.Reported.{IsShown}

-- ---- what the machine sees of it

-- a chain with that end
abbrev pub slot_of : Ended → Stand → Slot
slot_of end stands.Waiting = Waiting
slot_of end (stands.Leased k) = Leased k
slot_of end (stands.Done told way) = Done end

-- chains in a row, with those ends
abbrev pub slots_of : (ℕ → Ended) → List Stand → List Slot
slots_of ends [] = []
slots_of ends (stand ∷ more) = slot_of (ends 0) stand ∷ slots_of (λ n. ends (suc n)) more

-- a campaign whose chains stand so
abbrev pub book_view : Job → List Stand → Bool → Kept
book_view job all stopped = record { job = job; state = record { slots = slots_of (chain_end job) all; stopped = stopped } }

abbrev pub stand_at : List Stand → ℕ → Stand
stand_at all n = slice_index_or all n stands.Waiting

-- ---- the ends that it keeps

abbrev pub end_in : Stand → Option Ended
end_in (stands.Done told (Some way)) = Some way.end
end_in stand = None

-- for so many chains; for none, none
abbrev pub kept_for : Ended → ℕ → Option Way
kept_for end left = if left == 0 then None else Some (record { end = end; left = left })

-- for one chain fewer
abbrev pub fewer : Option Way → Option Way
fewer None = None
fewer (Some way) = kept_for way.end (way.left - 1)

abbrev pub passed : Stand → Stand
passed (stands.Done told way) = stands.Done told (fewer way)
passed stand = stand

-- a chain goes on from that one, and is not done
abbrev pub is_left : Job → Frontier → ℕ → ℕ → Bool
is_left job s n m = is_kid job.chains n m && not (is_done (standing s m))

abbrev pub left_on : Kept → ℕ → ℕ
left_on b n = how_many (is_left b.job b.state n) (length b.state.slots)

-- a chain that is done keeps nothing but what its end shows, and the end for the chains that are left
abbrev pub Keeps : Ended → ℕ → Stand → Type 0
Keeps end left stands.Waiting = Unit {0}
Keeps end left (stands.Leased k) = Unit {0}
Keeps end left (stands.Done told way) = All (IsShown end) told.items × (way ≡ kept_for end left)

pub record IsHeld (b : Kept) (all : List Stand) : Type 0 where
  pub exported : IsOk (started b.job.image b.job.start.0 b.job.start.1)
  pub each : (n : ℕ) → Keeps (chain_end b.job n) (left_on b n) (stand_at all n)
