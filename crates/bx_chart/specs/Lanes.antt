-- The lines of processes, from where each was spawned to where it ended, with its pid above and how it stands at the end below.
use Rattle.std.specs.Prelude.{ℕ, ◌+◌, List, [], ◌∷◌, codes, option_and_then, slice_get, unwrap_or}
use Rattle.bx_terms.specs.Printed.{printed_pid}
use Rattle.bx_proc.specs.declared.parts.Status.{Status}
use Rattle.bx_svg.specs.Markup.{Markup, nothing, ◌⨾◌}
use Rattle.bx_svg.specs.Shapes.{box, label, line}
use Rattle.bx_events.specs.declared.events.Lane.{Lane}
use Rattle.bx_chart.specs.Classes.{status_class}
use Rattle.bx_chart.specs.Points.{begins, named_at, spot}
use Rattle.bx_chart.specs.Words.{short, status_words}

-- down to the row behind which it had ended, or to the last one; its pid stands in a box
abbrev pub lane_of : ℕ → ℕ → Lane → Markup
lane_of rows p lane =
    line (codes "lane") (begins lane.born p 170) (spot p (unwrap_or lane.ended rows) 170 64)
    ⨾ box (codes "head") (begins lane.born p 136) 68 20
    ⨾ label (codes "pid") (named_at lane.born p) (printed_pid p)

-- the first of these lanes is that of this pid
abbrev pub lanes_from : ℕ → ℕ → List Lane → Markup
lanes_from rows p [] = nothing
lanes_from rows p (lane ∷ more) = lane_of rows p lane ⨾ lanes_from rows (p + 1) more

-- the row in which the line of the process of this pid ends
abbrev pub end_row : ℕ → List Lane → ℕ → ℕ
end_row rows lanes p = unwrap_or (option_and_then (λ lane. lane.ended) (slice_get lanes p)) rows

-- how each process stands at the end, below its line; the first of these is that of this pid
abbrev pub statuses_from : List (List ℕ) → ℕ → List Lane → ℕ → List Status → Markup
statuses_from texts rows lanes p [] = nothing
statuses_from texts rows lanes p (status ∷ more) =
    label (status_class status) (spot p (end_row rows lanes p) 170 82) (short (status_words texts status))
    ⨾ statuses_from texts rows lanes (p + 1) more
