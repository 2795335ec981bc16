-- A term as it is spelled, with the span of each part.
use Rattle.std.specs.Prelude.{◌≡◌, ℕ, zero, suc, ℤ, ◌+◌, List, [], ◌∷◌, ◌⊎◌, refl}
use Rattle.std.proofs.Common.{inl, inr, ap, ◌∙◌}
use Rattle.std.specs.Coded.{Coded, code_by, coded×, coded⊎, coded_ℕ, coded_ℤ, coded_list}
use Rattle.bx_text.specs.declared.node.Span.{Span}
use Rattle.bx_text.specs.declared.node.Sort.{Sort, TheVariants.Float, TheVariants.Map, TheVariants.Binary, TheVariants.Fun}

pub data Tree : Type 0 where
  integer : Span → ℤ → Tree
  atom : Span → List ℕ → Tree
  tuple : Span → Tree → Tree
  list : Span → Tree → Tree
  -- a term that stands for no value here, and its text
  other : Span → Sort → List ℕ → Tree
  nil : Tree
  cons : Tree → Tree → Tree

abbrev pub nodes : Tree → ℕ
nodes (integer s n) = 1
nodes (atom s w) = 1
nodes (tuple s t) = 1 + nodes t
nodes (list s t) = 1 + nodes t
nodes (other s k w) = 1
nodes nil = 1
nodes (cons t u) = 1 + nodes t + nodes u

-- where a term stands
abbrev pub span_of : Tree → Span
span_of (integer s n) = s
span_of (atom s w) = s
span_of (tuple s t) = s
span_of (list s t) = s
span_of (other s k w) = s
span_of t = record { from = 0; to = 0; line = 0 }

-- a term of its own, and no part of a row
abbrev pub IsWhole : Tree → Type 0
IsWhole nil = ⊥
IsWhole (cons t u) = ⊥
IsWhole t = Unit {0}

-- what may follow a row's elements
abbrev pub IsEnd : Tree → Type 0
IsEnd (cons t u) = ⊥
IsEnd t = Unit {0}

-- the elements, and what follows them
abbrev pub chain : List Tree → Tree → Tree
chain [] u = u
chain (t ∷ ts) u = cons t (chain ts u)

abbrev pub Place3 : Type 0
Place3 = ℕ × (ℕ × ℕ)

abbrev pub span_parts : Span → Place3
span_parts s = (s.from, (s.to, s.line))

abbrev pub span_of_parts : Place3 → Span
span_of_parts p = record { from = p.0; to = p.1.0; line = p.1.1 }

abbrev pub sort_number : Sort → ℕ
sort_number Float = 0
sort_number Map = 1
sort_number Binary = 2
sort_number Fun = 3

abbrev pub numbered_sort : ℕ → Sort
numbered_sort zero = Float
numbered_sort (suc zero) = Map
numbered_sort (suc (suc zero)) = Binary
numbered_sort (suc (suc (suc n))) = Fun

-- the tree in postfix: a mark for each constructor
abbrev pub Mark : Type 0
Mark = (Place3 × ℤ) ⊎ ((Place3 × List ℕ) ⊎ (Place3 ⊎ (Place3 ⊎ ((Place3 × (ℕ × List ℕ)) ⊎ ℕ))))

abbrev pub marks : Tree → List Mark → List Mark
marks (integer s n) r = inl (span_parts s, n) ∷ r
marks (atom s w) r = inr (inl (span_parts s, w)) ∷ r
marks (tuple s t) r = marks t (inr (inr (inl (span_parts s))) ∷ r)
marks (list s t) r = marks t (inr (inr (inr (inl (span_parts s)))) ∷ r)
marks (other s k w) r = inr (inr (inr (inr (inl (span_parts s, (sort_number k, w)))))) ∷ r
marks nil r = inr (inr (inr (inr (inr 0)))) ∷ r
marks (cons t u) r = marks t (marks u (inr (inr (inr (inr (inr 1)))) ∷ r))

abbrev pub join : List Tree → List Tree
join [] = []
join (u ∷ []) = u ∷ []
join (u ∷ t ∷ ts) = cons t u ∷ ts

abbrev pub wrap : (Tree → Tree) → List Tree → List Tree
wrap f [] = []
wrap f (t ∷ ts) = f t ∷ ts

abbrev pub small_step : ℕ → List Tree → List Tree
small_step zero ts = nil ∷ ts
small_step (suc n) ts = join ts

abbrev pub step : Mark → List Tree → List Tree
step (inl x) ts = integer (span_of_parts x.0) x.1 ∷ ts
step (inr (inl x)) ts = atom (span_of_parts x.0) x.1 ∷ ts
step (inr (inr (inl s))) ts = wrap (tuple (span_of_parts s)) ts
step (inr (inr (inr (inl s)))) ts = wrap (list (span_of_parts s)) ts
step (inr (inr (inr (inr (inl x))))) ts = other (span_of_parts x.0) (numbered_sort x.1.0) x.1.1 ∷ ts
step (inr (inr (inr (inr (inr n))))) ts = small_step n ts

abbrev pub run : List Mark → List Tree → List Tree
run [] ts = ts
run (m ∷ ms) ts = run ms (step m ts)

abbrev pub first : List Tree → Tree
first [] = nil
first (t ∷ ts) = t

pub run-marks : (t : Tree) (r : List Mark) (ts : List Tree) → run (marks t r) ts ≡ run r (t ∷ ts)
run-marks (integer s n) r ts = refl
run-marks (atom s w) r ts = refl
run-marks (tuple s t) r ts = run-marks t (inr (inr (inl (span_parts s))) ∷ r) ts
run-marks (list s t) r ts = run-marks t (inr (inr (inr (inl (span_parts s)))) ∷ r) ts
run-marks (other s Float w) r ts = refl
run-marks (other s Map w) r ts = refl
run-marks (other s Binary w) r ts = refl
run-marks (other s Fun w) r ts = refl
run-marks nil r ts = refl
run-marks (cons t u) r ts = run-marks t (marks u (inr (inr (inr (inr (inr 1)))) ∷ r)) ts ∙ run-marks u (inr (inr (inr (inr (inr 1)))) ∷ r) (t ∷ ts)

abbrev pub tree_code : Coded Tree
tree_code =
    code_by (List Mark) (coded_list (coded⊎ (coded× (coded× coded_ℕ (coded× coded_ℕ coded_ℕ)) coded_ℤ)
    (coded⊎ (coded× (coded× coded_ℕ (coded× coded_ℕ coded_ℕ)) (coded_list coded_ℕ))
    (coded⊎ (coded× coded_ℕ (coded× coded_ℕ coded_ℕ)) (coded⊎ (coded× coded_ℕ (coded× coded_ℕ coded_ℕ))
    (coded⊎ (coded× (coded× coded_ℕ (coded× coded_ℕ coded_ℕ)) (coded× coded_ℕ (coded_list coded_ℕ))) coded_ℕ))))))
    (λ t. marks t []) (λ r. first (run r [])) (λ t. ap first (run-marks t [] []))
