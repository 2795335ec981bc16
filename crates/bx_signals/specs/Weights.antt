-- How much channels hold, in cells.
use Rattle.std.specs.Prelude.{ℕ, ◌+◌, List, length, sum_by}
use Rattle.std.specs.FinMap as map
use Rattle.bx_signals.specs.Channels.{Channels}

-- one for a channel in which something waits, one for the first signal, and one for each of those behind it
abbrev pub channel_cells : {S : Type 0} → Channels S → ℕ
channel_cells channels = sum_by (λ entry. 2 + length entry.1.1) (map.entries channels)
