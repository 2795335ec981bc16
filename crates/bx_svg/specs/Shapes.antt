-- The shapes of a drawing, each with its class, by which the drawing's style paints it.
-- Source: Scalable Vector Graphics 1.1, chapters 9 "Basic Shapes", 10 "Text" and 5 "Document Structure".
use Rattle.std.specs.Prelude.{ℕ, ◌++◌, List, [], codes}
use Rattle.bx_svg.specs.Markup.{Markup, nothing, words, element, counted, valued}
use Rattle.bx_svg.specs.declared.shapes.Point.{Point}

abbrev pub classed : List ℕ → List ℕ
classed class = valued (codes "class") class

abbrev pub at : Point → List ℕ
at p = counted (codes "x") p.x ++ counted (codes "y") p.y

abbrev pub ends : Point → Point → List ℕ
ends from to = counted (codes "x1") from.x ++ counted (codes "y1") from.y ++ counted (codes "x2") to.x ++ counted (codes "y2") to.y

abbrev pub sides : Point → ℕ → ℕ → List ℕ
sides corner width height = at corner ++ counted (codes "width") width ++ counted (codes "height") height

abbrev pub round : Point → ℕ → List ℕ
round center radius = counted (codes "cx") center.x ++ counted (codes "cy") center.y ++ counted (codes "r") radius

-- a line from one point to another
abbrev pub line : List ℕ → Point → Point → Markup
line class from to = element (codes "line") (classed class ++ ends from to) nothing

-- a rectangle by its upper left corner, as wide as one number says and as high as another
abbrev pub box : List ℕ → Point → ℕ → ℕ → Markup
box class corner width height = element (codes "rect") (classed class ++ sides corner width height) nothing

abbrev pub dot : List ℕ → Point → ℕ → Markup
dot class center radius = element (codes "circle") (classed class ++ round center radius) nothing

-- a text that begins, has its middle or ends there, as its class says
abbrev pub label : List ℕ → Point → List ℕ → Markup
label class place text = element (codes "text") (classed class ++ at place) (words text)

-- what a reader shows where one points at the group that holds it
abbrev pub tip : List ℕ → Markup
tip text = element (codes "title") [] (words text)

abbrev pub group : List ℕ → Markup → Markup
group class inside = element (codes "g") (classed class) inside
