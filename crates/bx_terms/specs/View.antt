-- What a term shows when it is matched on.
use Rattle.bx_terms.specs.declared.terms.View.{View, TheVariants.Int, TheVariants.Atom, TheVariants.Pid, TheVariants.Tuple, TheVariants.Nil, TheVariants.Cons}
use Rattle.bx_terms.specs.Tree.{Tree, int, atom, pid, tuple, nil, cons, listed}

-- the term that is seen so
abbrev pub seen : View → Tree
seen (Int n) = int n
seen (Atom a) = atom a.0
seen (Pid p) = pid p
seen (Tuple elements) = tuple (listed elements.now)
seen Nil = nil
seen (Cons head tail) = cons head.now tail.now
