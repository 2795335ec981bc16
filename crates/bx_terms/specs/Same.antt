-- When two terms are the same, as a test.
use Rattle.std.specs.Prelude.{Bool, true, false, ◌&&◌, ◌==◌}
use Rattle.std.specs.Ordering.{int_eq}
use Rattle.bx_terms.specs.Tree.{Tree, int, atom, pid, tuple, nil, cons}

-- of one kind, with the same number or the same parts
abbrev pub same_tree : Tree → Tree → Bool
same_tree (int m) (int n) = int_eq m n
same_tree (atom a) (atom b) = a == b
same_tree (pid p) (pid q) = p == q
same_tree (tuple t) (tuple u) = same_tree t u
same_tree nil nil = true
same_tree (cons t u) (cons v w) = same_tree t v && same_tree u w
same_tree t u = false
