-- What a node's view shows: the node's content, beside its span.
use Rattle.std.specs.Prelude.{◌≡◌, true, List, Option, Some, None}
use Rattle.std.specs.Borrow.{Bor}
use Rattle.bx_text.specs.declared.node.Span.{Span}
use Rattle.bx_text.specs.declared.node.Elements.{Elements, TheVariants.Nodes, TheVariants.Letters}
use Rattle.bx_text.specs.declared.node.Element.{Element}
use Rattle.bx_text.specs.declared.node.Element.TheVariants as elements
use Rattle.bx_text.specs.declared.node.View.{View}
use Rattle.bx_text.specs.declared.node.View.TheVariants.{Integer, Large, Atom, Tuple, List as Listed, Other}
use Rattle.bx_text.specs.Number.{number, is_large, is_spelling}
use Rattle.bx_text.specs.Tree.{Tree, integer, atom, tuple, list, other, nil, chain}
use Rattle.bx_text.specs.Grammar.{SpelledAs}

abbrev pub tail_seen : Option (Bor Tree) → Tree
tail_seen None = nil
tail_seen (Some t) = t.now

abbrev pub elements_seen : Elements → List Tree
elements_seen (Nodes ts) = ts.now
elements_seen (Letters ts) = ts.now

abbrev pub element_seen : Element → Tree
element_seen (elements.Node t) = t.now
element_seen (elements.Letter t) = t

abbrev pub seen : Span → View → Tree
seen s (Integer n) = integer s n
seen s (Large digits) = integer s (number digits.now)
seen s (Atom text) = atom s text.now
seen s (Tuple ts) = tuple s (chain ts.now nil)
seen s (Listed ts u) = list s (chain (elements_seen ts) (tail_seen u))
seen s (Other k text) = other s k text.now

-- an integer that shows its digits is one outside 64 bits; they stand behind an optional minus sign. A text that is shown as
-- it was read is one that some text spells as a term of its sort
abbrev pub IsView : View → Type 0
IsView (Large digits) = (is_large (number digits.now) ≡ true) × (is_spelling digits.now ≡ true)
IsView (Other k text) = SpelledAs k text.now
IsView v = Unit {0}
