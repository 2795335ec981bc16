-- A tree written as a list of marks and read back: what a proof tells two trees apart by.
use Rattle.std.specs.Prelude.{◌≡◌, ℕ, zero, suc, ℤ, ◌⊎◌, List, [], ◌∷◌, refl}
use Rattle.std.specs.Coded.{Coded, code_by, coded⊎, coded_ℕ, coded_ℤ, coded_list}
use Rattle.std.proofs.Common.{◌∙◌, ap, inl, inr}
use Rattle.bx_terms.specs.Tree.{Tree, int, atom, pid, tuple, nil, cons}

-- an integer, an atom, a pid, or by number: 0 for a tuple, 1 for the empty list, 2 for a list cell
abbrev pub Mark : Type 0
Mark = ℤ ⊎ (ℕ ⊎ (ℕ ⊎ ℕ))

-- what a tree holds comes before its own mark
abbrev pub marks : Tree → List Mark → List Mark
marks (int n) rest = inl n ∷ rest
marks (atom a) rest = inr (inl a) ∷ rest
marks (pid p) rest = inr (inr (inl p)) ∷ rest
marks (tuple t) rest = marks t (inr (inr (inr 0)) ∷ rest)
marks nil rest = inr (inr (inr 1)) ∷ rest
marks (cons t u) rest = marks t (marks u (inr (inr (inr 2)) ∷ rest))

abbrev pub as_tuple : List Tree → List Tree
as_tuple [] = []
as_tuple (t ∷ done) = tuple t ∷ done

abbrev pub as_cons : List Tree → List Tree
as_cons (u ∷ t ∷ done) = cons t u ∷ done
as_cons done = done

abbrev pub put : Mark → List Tree → List Tree
put (inl n) done = int n ∷ done
put (inr (inl a)) done = atom a ∷ done
put (inr (inr (inl p))) done = pid p ∷ done
put (inr (inr (inr zero))) done = as_tuple done
put (inr (inr (inr (suc zero)))) done = nil ∷ done
put (inr (inr (inr (suc (suc k))))) done = as_cons done

abbrev pub run : List Mark → List Tree → List Tree
run [] done = done
run (m ∷ rest) done = run rest (put m done)

abbrev pub first : List Tree → Tree
first [] = nil
first (t ∷ done) = t

pub run-marks : (t : Tree) (rest : List Mark) (done : List Tree) → run (marks t rest) done ≡ run rest (t ∷ done)
run-marks (int n) rest done = refl
run-marks (atom a) rest done = refl
run-marks (pid p) rest done = refl
run-marks (tuple t) rest done = run-marks t (inr (inr (inr 0)) ∷ rest) done
run-marks nil rest done = refl
run-marks (cons t u) rest done = run-marks t (marks u (inr (inr (inr 2)) ∷ rest)) done ∙ run-marks u (inr (inr (inr 2)) ∷ rest) (t ∷ done)

abbrev pub tree_code : Coded Tree
tree_code = code_by (List Mark) (coded_list (coded⊎ coded_ℤ (coded⊎ coded_ℕ (coded⊎ coded_ℕ coded_ℕ)))) (λ t. marks t []) (λ written. first (run written [])) (λ t. ap first (run-marks t [] []))
