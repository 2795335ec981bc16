-- Channels that lie in rows: a row for each sender, in it a queue for each receiver, behind its pid, by rising pid.
use Rattle.std.specs.Prelude.{◌≡◌, ◌≢◌, ℕ, ◌+◌, ◌==◌, ◌<◌, ◌≤◌, List, [], ◌∷◌, ◌++◌, Option, Some, None, if◌then◌else◌, length, slice_get, slice_index_or, sum_by}
use Rattle.std.specs.FinMap as map
use Rattle.bx_signals.specs.Channels.{Channels, with_waiting}

abbrev pub Row : Type 0 → Type 0
Row S = List (ℕ × List S)

-- the queue of a receiver; without one nothing waits
abbrev pub queue_in : {S : Type 0} → Row S → ℕ → List S
queue_in [] q = []
queue_in (line ∷ more) q = if q == line.0 then line.1 else queue_in more q

abbrev pub or_empty : {A : Type 0} → Option (List A) → List A
or_empty None = []
or_empty (Some xs) = xs

abbrev pub queue_at : {S : Type 0} → List (Row S) → ℕ → ℕ → List S
queue_at rows p q = queue_in (or_empty (slice_get rows p)) q

-- the receiver of the queue at a place
abbrev pub to_at : {S : Type 0} → Row S → ℕ → ℕ
to_at row k = let line = slice_index_or row k (0, []) in line.0

abbrev pub IsRising : {S : Type 0} → Row S → Type 0
IsRising row = (j k : ℕ) → j < k → k < length row → to_at row j < to_at row k

abbrev pub AllRising : {S : Type 0} → List (Row S) → Type 0
AllRising rows = (p : ℕ) → p < length rows → IsRising (slice_index_or rows p [])

-- a place whose queue is that of the receiver
abbrev pub IsPlaceOf : {S : Type 0} → Row S → ℕ → ℕ → Type 0
IsPlaceOf row q at = (at < length row) × (to_at row at ≡ q)

-- the place at which a queue for the receiver would lie, where there is none
abbrev pub IsGapOf : {S : Type 0} → Row S → ℕ → ℕ → Type 0
IsGapOf row q at = (at ≤ length row) × ((j : ℕ) → j < at → to_at row j < q) × ((j : ℕ) → at ≤ j → j < length row → q < to_at row j)

-- the channels of one sender, beside others
abbrev pub row_map : {S : Type 0} → ℕ → Row S → Channels S → Channels S
row_map p [] channels = channels
row_map p (line ∷ more) channels = with_waiting (p, line.0) line.1 (row_map p more channels)

-- the channels of senders from p on
abbrev pub rows_map : {S : Type 0} → ℕ → List (Row S) → Channels S
rows_map p [] = map.empty
rows_map p (row ∷ rows) = row_map p row (rows_map (p + 1) rows)

-- only the queue at q is another
abbrev pub Replaced : {S : Type 0} → Row S → Row S → ℕ → List S → Type 0
Replaced old new q signals = (k : ℕ) → queue_in new k ≡ (if k == q then signals else queue_in old k)

-- the same queues
abbrev pub SameRow : {S : Type 0} → Row S → Row S → Type 0
SameRow old new = (k : ℕ) → queue_in new k ≡ queue_in old k

-- whatever waits in the one waits in the other too
abbrev pub Covers : {S : Type 0} → Row S → Row S → Type 0
Covers row other = (q : ℕ) → queue_in row q ≢ [] → queue_in other q ≡ queue_in row q

abbrev pub CoversAll : {S : Type 0} → List (Row S) → List (Row S) → Type 0
CoversAll rows others = (p q : ℕ) → queue_at rows p q ≢ [] → queue_at others p q ≡ queue_at rows p q

-- the receivers for which something waits, each behind the sender
abbrev pub pair_if : {S : Type 0} → ℕ → ℕ → List S → List (ℕ × ℕ)
pair_if p q [] = []
pair_if p q (signal ∷ more) = (p, q) ∷ []

abbrev pub row_pairs : {S : Type 0} → ℕ → Row S → List (ℕ × ℕ)
row_pairs p [] = []
row_pairs p (line ∷ more) = pair_if p line.0 line.1 ++ row_pairs p more

-- of all senders from p on
abbrev pub rows_pairs : {S : Type 0} → ℕ → List (Row S) → List (ℕ × ℕ)
rows_pairs p [] = []
rows_pairs p (row ∷ rows) = row_pairs p row ++ rows_pairs (p + 1) rows

-- one for each queue of a row, and one for each signal in it
abbrev pub line_cells : {S : Type 0} → ℕ × List S → ℕ
line_cells line = 1 + length line.1

abbrev pub lines_cells : {S : Type 0} → Row S → ℕ
lines_cells row = sum_by line_cells row
