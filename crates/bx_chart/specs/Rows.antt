-- A row for each event: the numbers of its choices, its mark on the line of its process, and what it was.
use Rattle.std.specs.Prelude.{ℕ, ◌+◌, List, [], ◌∷◌, codes}
use Rattle.bx_load.specs.Image.{Loaded}
use Rattle.bx_svg.specs.Markup.{Markup, nothing, ◌⨾◌}
use Rattle.bx_svg.specs.Shapes.{box, dot, group, label, tip}
use Rattle.bx_events.specs.declared.events.{Event.Event, Put.Put, What.What, What.TheVariants.Arrived, What.TheVariants.Expired}
use Rattle.bx_engine.specs.Sources.{Sources}
use Rattle.bx_chart.specs.Classes.{event_class}
use Rattle.bx_chart.specs.Points.{beside, on, spot}
use Rattle.bx_chart.specs.Words.{event_words, number_words, short, tip_words}

-- a process that ran has a bar, one whose wait was over a ring, and a signal's arrival the head of its arrow
abbrev pub mark : ℕ → ℕ → What → Markup
mark row p (Arrived sent effect) = nothing
mark row p Expired = dot (codes "over") (on p row) 5
mark row p what = box (codes "bar") (spot p row 164 57) 12 14

-- one that sent has a dot
abbrev pub put_mark : ℕ → ℕ → List Put → Markup
put_mark row p [] = nothing
put_mark row p (put ∷ more) = dot (codes "put") (on p row) 5

-- what shows where one points at it, its marks, the numbers in the margin, and what stands beside the line
abbrev pub row_of : Loaded → Sources → ℕ → Event → Markup
row_of image sources row event =
    tip (tip_words image sources event)
    ⨾ (mark row event.actor event.what ⨾ put_mark row event.actor event.puts)
    ⨾ label (codes "number") (spot 0 row 120 68) (number_words event.first event.last)
    ⨾ label (event_class event) (beside event.actor row) (short (event_words image sources event))

-- the first of these events has this row
abbrev pub rows_from : Loaded → Sources → ℕ → List Event → Markup
rows_from image sources row [] = nothing
rows_from image sources row (event ∷ more) =
    group (codes "row") (row_of image sources row event) ⨾ rows_from image sources (row + 1) more
