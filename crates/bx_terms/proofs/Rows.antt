-- Rows of terms.
use Rattle.bx_terms.proofs.Words.{◌≡◌, ◌∙◌, ℕ, ◌<◌, zero, suc, List, [], ◌∷◌, length, get_or, drop, refl, ap, subst, slice_range, slice_set, arith, take_rest}
use Rattle.bx_terms.proofs.Words.{set-get_or, Tree, listed, nodes, size}

pub listed_same : (xs ys : List Tree) → listed xs ≡ listed ys → xs ≡ ys
listed_same [] [] e = refl
listed_same (x ∷ xs) (y ∷ ys) e = let rest = listed_same xs ys (cc) in cc
listed_same _ _ e = cc

pub nodes_in : (xs : List Tree) (i : ℕ) (d : Tree) → i < length xs → nodes (get_or xs i d) < nodes (listed xs)
nodes_in [] i d here = absurd (omega arith)
nodes_in (x ∷ xs) zero d here = omega arith
nodes_in (x ∷ xs) (suc i) d here = omega (arith, nodes_in xs i d (omega arith))

-- an element has fewer nodes than its row
pub nodes_at : (xs : List Tree) (i : ℕ) (x : Tree) → i < length xs → x ≡ get_or xs i x → nodes x < nodes (listed xs)
nodes_at xs i x here is = omega (arith, ap nodes is, nodes_in xs i x here)

pub size_listed : (xs : List Tree) → size (listed xs) ≡ length xs
size_listed [] = refl
size_listed (x ∷ xs) = omega (arith, size_listed xs)

nodes_in_rest : (xs : List Tree) (i : ℕ) (x : Tree) → i < length (drop 1 xs) → x ≡ get_or (drop 1 xs) i x → nodes x < nodes (listed xs)
nodes_in_rest [] i x here is = absurd (omega arith)
nodes_in_rest (y ∷ ys) i x here is = omega (arith, nodes_at ys i x here is)

-- the same of an element after the first
pub nodes_after_first : (xs : List Tree) (i : ℕ) (x : Tree) → i < length (slice_range xs 1 (length xs)) → x ≡ get_or (slice_range xs 1 (length xs)) i x → nodes x < nodes (listed xs)
nodes_after_first xs i x here is = let rest = take_rest xs 1 in nodes_in_rest xs i x (rw rest at here) (rw rest at is)

-- a row is the same after an element was replaced by an equal one
pub set_own : {A : Type 0} (xs : List A) (i : ℕ) (x y : A) → x ≡ get_or xs i x → y ≡ x → slice_set xs i y ≡ xs
set_own xs i x y is same = ap (slice_set xs i) (same ∙ is) ∙ set-get_or xs i x
