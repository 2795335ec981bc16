-- A drawing of the story of a schedule.
-- Source: Scalable Vector Graphics 1.1, chapters 5 "Document Structure" and 11.6 "Markers".
use Rattle.std.specs.Prelude.{ℕ, ◌++◌, List, [], codes, decimal, length}
use Rattle.bx_load.specs.Image.{Loaded}
use Rattle.bx_svg.specs.Markup.{Markup, nothing, words, element, counted, ◌⨾◌}
use Rattle.bx_svg.specs.Shapes.{box, label, tip}
use Rattle.bx_events.specs.declared.stories.Story.{Story}
use Rattle.bx_engine.specs.Sources.{Sources}
use Rattle.bx_chart.specs.Arrows.{arrows_from, waiting_arrows, waiting_labels}
use Rattle.bx_chart.specs.Lanes.{lanes_from, statuses_from}
use Rattle.bx_chart.specs.Points.{row_behind, spot}
use Rattle.bx_chart.specs.Rows.{rows_from}
use Rattle.bx_chart.specs.Words.{sentence, state_words, title_words}
use Rattle.bx_chart.specs.declared.sheets.TheConstants.{STYLE}

abbrev pub width_of : Story → ℕ
width_of story = (spot (length story.lanes) 0 250 0).x

abbrev pub last_line : Story → ℕ
last_line story = row_behind (length story.events) (length story.waiting)

abbrev pub height_of : Story → ℕ
height_of story = (spot 0 (last_line story) 0 96).y

-- ---- what is drawn

-- how each process stands at the end, and what still waits
abbrev pub ends : List (List ℕ) → Story → Markup
ends texts story =
    statuses_from texts (length story.events) story.lanes 0 story.outcome.statuses
    ⨾ waiting_labels texts (length story.events) 0 story.waiting

-- which schedule it is, above all; where the run led, below all
abbrev pub notes : List ℕ → Story → Markup
notes name story =
    label (codes "title") (spot 0 0 12 18) (sentence name story)
    ⨾ label (codes "state") (spot 0 (last_line story) 12 76) (codes "state " ++ state_words story.refused story.outcome.state)

-- the texts, which lie over the arrows
abbrev pub texts_of : Loaded → Sources → List ℕ → Story → Markup
texts_of image sources name story = rows_from image sources 0 story.events ⨾ ends image.atoms story ⨾ notes name story

-- what lies under the arrows, these, and the texts
abbrev pub body : Loaded → Sources → List ℕ → Story → Markup
body image sources name story =
    box (codes "paper") (spot 0 0 0 0) (width_of story) (height_of story)
    ⨾ lanes_from (length story.events) 0 story.lanes
    ⨾ arrows_from 0 story.events
    ⨾ waiting_arrows (length story.events) 0 story.waiting
    ⨾ texts_of image sources name story

-- ---- how it is drawn

-- the head of an arrow, which is named by these attributes
abbrev pub arrow_head : List ℕ → Markup
arrow_head names = element (codes "marker")
    (names ++ codes " viewBox=\"0 0 8 8\" refX=\"8\" refY=\"4\" markerWidth=\"8\" markerHeight=\"8\" orient=\"auto\"")
    (element (codes "path") (codes " d=\"M0 0L8 4L0 8z\"") nothing)

abbrev pub arrow_heads : Markup
arrow_heads =
    arrow_head (codes " id=\"message-head\" class=\"message-head\"")
    ⨾ arrow_head (codes " id=\"signal-head\" class=\"signal-head\"")
    ⨾ arrow_head (codes " id=\"spawn-head\" class=\"spawn-head\"")

-- what a reader that can't see is told, and the look of what follows
abbrev pub front : List ℕ → Story → Markup
front name story =
    tip (title_words name)
    ⨾ element (codes "desc") [] (words (sentence name story))
    ⨾ element (codes "style") [] (words STYLE.now)
    ⨾ element (codes "defs") [] arrow_heads

-- ---- the whole

abbrev pub view : ℕ → ℕ → List ℕ
view width height = codes " viewBox=\"0 0 " ++ decimal width ++ codes " " ++ decimal height ++ codes "\""

abbrev pub sheet_attributes : ℕ → ℕ → List ℕ
sheet_attributes width height = codes " xmlns=\"http://www.w3.org/2000/svg\" role=\"img\""
    ++ (counted (codes "width") width ++ (counted (codes "height") height ++ view width height))

abbrev pub sheet : Loaded → Sources → List ℕ → Story → Markup
sheet image sources name story =
    element (codes "svg") (sheet_attributes (width_of story) (height_of story)) (front name story ⨾ body image sources name story)
