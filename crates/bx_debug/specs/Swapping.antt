-- Exchanges of two choices that stand before the position of a session; choices are counted from 1.
use Rattle.std.specs.Prelude.{◌≡◌, ℕ, ◌-◌, ◌<◌, drop, IsSome, Result, Ok, Err}
use Rattle.bx_terms.specs.declared.faults.Fault.{Fault, TheVariants.Memory, TheVariants.NotIndependent}
use Rattle.bx_world.specs.Running.{unchosen}
use Rattle.bx_replay.specs.Courses.{Course}
use Rattle.bx_replay.specs.Exchanges.{exchanged_at, next_apart, MayExchange}
use Rattle.bx_debug.specs.Sessions.{History}

-- the choices of a session, from its start on
abbrev pub course_of : History → Course
course_of s = record { image = s.image; start = unchosen s.start; choices = s.choices }

-- the choices k and k + 1 stand before the position, and are independent where they stand
abbrev pub MaySwap : ℕ → History → Type 0
MaySwap k s = (0 < k) × (k < s.at) × MayExchange (k - 1) (course_of s)

-- both in each other's place
abbrev pub swapped : ℕ → History → History
swapped k s = record s { choices = exchanged_at (k - 1) s.choices }

-- they are exchanged where they may be, and else nothing is changed; memory is taken only where both stand before the position
-- and concern different processes
abbrev pub Swaps : ℕ → History → History → Result (Unit {0}) Fault → Type 0
Swaps k old new (Ok done) = MaySwap k old × (new ≡ swapped k old)
Swaps k old new (Err (NotIndependent position)) = (position ≡ k) × (MaySwap k old → ⊥) × (new ≡ old)
Swaps k old new (Err Memory) = (0 < k) × (k < old.at) × IsSome (next_apart (drop (k - 1) old.choices)) × (new ≡ old)
Swaps k old new (Err fault) = ⊥
