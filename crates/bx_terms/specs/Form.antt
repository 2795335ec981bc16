-- How a term is stored: what it holds is shared, with its height.
use Rattle.std.specs.Prelude.{◌≡◌, ◌≤◌}
use Rattle.bx_terms.specs.declared.terms.Form.{Form, TheVariants.Int, TheVariants.Atom, TheVariants.Pid, TheVariants.Tuple, TheVariants.Nil, TheVariants.Cons}
use Rattle.bx_terms.specs.Tree.{Tree, int, atom, pid, tuple, nil, cons, listed, height}

-- the term that is stored so
abbrev pub form_tree : Form → Tree
form_tree (Int n) = int n
form_tree (Atom a) = atom a.0
form_tree (Pid p) = pid p
form_tree (Tuple row) = tuple (listed row.value.elements.items)
form_tree Nil = nil
form_tree (Cons cell) = cons cell.value.head cell.value.tail

-- the height stored is the real one, and within the bound
abbrev pub IsForm : Form → Type 0
IsForm (Int n) = Unit {0}
IsForm (Atom a) = Unit {0}
IsForm (Pid p) = Unit {0}
IsForm (Tuple row) = (row.value.height ≡ height (tuple (listed row.value.elements.items))) × (row.value.height ≤ 10000)
IsForm Nil = Unit {0}
IsForm (Cons cell) = (cell.value.height ≡ height (cons cell.value.head cell.value.tail)) × (cell.value.height ≤ 10000)
