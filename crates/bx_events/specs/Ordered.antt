-- Choices in events: how many times a choice is told, by its number, and that the numbers run on from event to event.
use Rattle.std.specs.Prelude.{◌≡◌, ℕ, ◌+◌, ◌≤◌, List, [], ◌∷◌, Bool, true, false, ◌&&◌, nat_le, if◌then◌else◌}
use Rattle.bx_events.specs.declared.events.Event.{Event}

-- behind so many choices these events begin, each with the next one, and so many choices stand behind them
abbrev pub RunOn : ℕ → List Event → ℕ → Type 0
RunOn before [] behind = before ≡ behind
RunOn before (event ∷ more) behind = (event.first ≡ before + 1) × (event.first ≤ event.last) × RunOn event.last more behind

-- the choice of this number is in the event
abbrev pub holds : ℕ → Event → Bool
holds n event = nat_le event.first n && nat_le n event.last

-- in how many of the events it is
abbrev pub times_told : ℕ → List Event → ℕ
times_told n [] = 0
times_told n (event ∷ more) = if holds n event then 1 + times_told n more else times_told n more
