-- What a node means: the term that it spells, with its spans.
use Rattle.std.specs.Prelude.{◌≡◌, true, false, Option, Some, None}
use Rattle.std.specs.declared.boxed.Box.{Box}
use Rattle.std.specs.declared.alloc.Global.{Global}
use Rattle.bx_text.specs.declared.node.Span.{Span}
use Rattle.bx_text.specs.declared.node.Form.{Form}
use Rattle.bx_text.specs.declared.node.Form.TheVariants.{Integer, Large, Atom, Tuple, List as Listed, Text, Other}
use Rattle.bx_text.specs.Number.{number, is_large, is_spelling}
use Rattle.bx_text.specs.Tree.{Tree, integer, atom, tuple, list, other, nil, chain}
use Rattle.bx_text.specs.Grammar.{SpelledAs}

abbrev pub tail_tree : Option (Box Tree Global) → Tree
tail_tree None = nil
tail_tree (Some b) = b.value

abbrev pub form_tree : Span → Form → Tree
form_tree s (Integer n) = integer s n
form_tree s (Large w) = integer s (number w)
form_tree s (Atom w) = atom s w
form_tree s (Tuple ts) = tuple s (chain ts.items nil)
form_tree s (Listed ts u) = list s (chain ts.items (tail_tree u))
form_tree s (Text b) = list s (chain b.value nil)
form_tree s (Other k w) = other s k w

-- exactly an integer outside 64 bits keeps its text, which is a sign and digits; what stands for no value keeps one that
-- some text spells as a term of its sort
abbrev pub IsForm : Form → Type 0
IsForm (Integer n) = is_large n ≡ false
IsForm (Large w) = (is_large (number w) ≡ true) × (is_spelling w ≡ true)
IsForm (Other k w) = SpelledAs k w
IsForm f = Unit {0}
