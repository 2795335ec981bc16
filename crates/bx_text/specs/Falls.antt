-- Each part of a node is smaller than the node.
use Rattle.std.specs.Prelude.{◌+◌, ◌≤◌, max, List, [], ◌∷◌, Some, None}
use Rattle.std.proofs.Common.{arith}
use denote.Param.Weighed.{most}
use Rattle.bx_text.specs.declared.node.Span.{Span}
use Rattle.bx_text.specs.declared.node.Form.{Form}
use Rattle.bx_text.specs.declared.node.Form.TheVariants.{Integer, Large, Atom, Tuple, List as Listed, Text, Other}
use Rattle.bx_text.specs.declared.node.Node.TheDeep.{deep-Form}
use Rattle.bx_text.specs.Tree.{Tree, nodes, nil, chain}
use Rattle.bx_text.specs.Form.{form_tree}

pub most_le : (ts : List Tree) (u : Tree) → most (λ t. nodes t + 1) ts ≤ nodes (chain ts u)
most_le [] u = omega arith
most_le (t ∷ ts) u = omega (arith, most_le ts u)

pub tail_le : (ts : List Tree) (u : Tree) → nodes u ≤ nodes (chain ts u)
tail_le [] u = omega arith
tail_le (t ∷ ts) u = omega (arith, tail_le ts u)

pub form_falls : (s : Span) (f : Form) → max (deep-Form f) 0 ≤ nodes (form_tree s f)
form_falls s (Integer n) = omega arith
form_falls s (Large w) = omega arith
form_falls s (Atom w) = omega arith
form_falls s (Tuple ts) = omega (arith, most_le ts.items nil)
form_falls s (Listed ts None) = omega (arith, most_le ts.items nil)
form_falls s (Listed ts (Some b)) = omega (arith, most_le ts.items b.value, tail_le ts.items b.value)
form_falls s (Text b) = omega arith
form_falls s (Other k w) = omega arith
