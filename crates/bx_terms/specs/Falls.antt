-- What a term holds has fewer nodes than the term.
use Rattle.std.specs.Prelude.{◌+◌, ◌≤◌, max, List, [], ◌∷◌}
use Rattle.std.proofs.Common.{arith}
use denote.Param.Weighed.{most}
use Rattle.bx_terms.specs.declared.terms.Form.{Form, TheVariants.Int, TheVariants.Atom, TheVariants.Pid, TheVariants.Tuple, TheVariants.Nil, TheVariants.Cons}
use Rattle.bx_terms.specs.declared.terms.Term.TheDeep.{deep-Form}
use Rattle.bx_terms.specs.Tree.{Tree, listed, nodes}
use Rattle.bx_terms.specs.Form.{form_tree}

pub most_le : (ts : List Tree) → most (λ t. nodes t + 1) ts ≤ nodes (listed ts)
most_le [] = omega arith
most_le (t ∷ ts) = omega (arith, most_le ts)

pub form_falls : (f : Form) → max (deep-Form f) 0 ≤ nodes (form_tree f)
form_falls (Int n) = omega arith
form_falls (Atom a) = omega arith
form_falls (Pid p) = omega arith
form_falls (Tuple row) = omega (arith, most_le row.value.elements.items)
form_falls Nil = omega arith
form_falls (Cons cell) = omega arith
