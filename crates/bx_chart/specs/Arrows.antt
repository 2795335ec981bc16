-- Arrows: from the row in which a signal was sent to the row in which it arrived, from the row in which a process was spawned to its line,
-- and into nothing from the row of a signal that waits.
use Rattle.std.specs.Prelude.{ℕ, ◌+◌, List, [], ◌∷◌, Option, Some, None, codes}
use Rattle.bx_svg.specs.Markup.{Markup, nothing, ◌⨾◌}
use Rattle.bx_svg.specs.Shapes.{label, line}
use Rattle.bx_events.specs.declared.events.{Event.Event, Sent.Sent, What.What, What.TheVariants.Arrived}
use Rattle.bx_chart.specs.Classes.{arrow_class, waiting_class}
use Rattle.bx_chart.specs.Points.{arrow_end, beside, on, row_behind, spot}
use Rattle.bx_chart.specs.Words.{short, signal_words}

abbrev pub arrival_arrow : ℕ → What → Markup
arrival_arrow row (Arrived sent effect) = line (arrow_class sent.signal) (on sent.from sent.event) (arrow_end sent.from sent.to row)
arrival_arrow row what = nothing

abbrev pub spawn_arrow : ℕ → ℕ → Option ℕ → Markup
spawn_arrow row p None = nothing
spawn_arrow row p (Some child) = line (codes "spawn") (on p row) (spot child row 135 60)

-- the first of these events has this row
abbrev pub arrows_from : ℕ → List Event → Markup
arrows_from row [] = nothing
arrows_from row (event ∷ more) =
    arrival_arrow row event.what ⨾ spawn_arrow row event.actor event.child ⨾ arrows_from (row + 1) more

-- ---- signals that wait at the end, behind so many rows; the first of these is the n-th, counted from 0

abbrev pub waiting_arrows : ℕ → ℕ → List Sent → Markup
waiting_arrows rows n [] = nothing
waiting_arrows rows n (sent ∷ more) =
    line (waiting_class sent.signal) (on sent.from sent.event) (arrow_end sent.from sent.to (row_behind rows n))
    ⨾ waiting_arrows rows (n + 1) more

abbrev pub waiting_labels : List (List ℕ) → ℕ → ℕ → List Sent → Markup
waiting_labels texts rows n [] = nothing
waiting_labels texts rows n (sent ∷ more) =
    label (codes "left") (beside sent.to (row_behind rows n)) (short (signal_words texts sent.signal))
    ⨾ waiting_labels texts rows (n + 1) more
