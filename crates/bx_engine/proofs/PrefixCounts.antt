-- No more distinct prefixes than the places on the chains of a plan; and two plans together have no more than each alone.
use Rattle.std.proofs.Common.{◌≡◌, ◌⊎◌, inl, inr, ℕ, zero, suc, ◌+◌, ◌<◌, ◌≤◌, List, [], ◌∷◌, ◌++◌, length, refl, sym, ap, subst, arith, length-append, add-one}
use Rattle.std.specs.List.{Contains}
use Rattle.std.proofs.lemmas.Bool.{cases_lt}
use Rattle.std.proofs.lemmas.List.{map-append}
use Rattle.std.proofs.lemmas.List.Elements.{Contains-append_left, Contains-append_right}
use Rattle.std.proofs.lemmas.Map.Made.{length-le_from_is_member}
use Rattle.bx_world.specs.declared.choices.Choice.{Choice}
use Rattle.bx_plan.specs.declared.chains.Head.{Head}
use Rattle.bx_plan.specs.Chains.{Chained, Owns, AreChains, chain_length, head, path_at}
use Rattle.bx_plan.specs.Nodes.{nodes_of, IsPrefix}
use Rattle.bx_plan.specs.Planned.{Planned}
use Rattle.bx_plan.specs.Plans.{Named, choices_of}
use Rattle.bx_plan.proofs.Prefixes.{distinct_nodes, has_decides, is_node, node_is, path_laws}
use Rattle.bx_engine.specs.Joints.{place_count, prefix_count}

-- paths among which each prefix is are as many at least
bounded : (schedules paths : List (List Choice)) → ((p : List Choice) → (p ≡ []) ⊎ IsPrefix schedules p → Contains paths p) → length (nodes_of schedules) ≤ length paths
bounded schedules paths h =
    length-le_from_is_member path_laws (nodes_of schedules) paths (distinct_nodes schedules)
    (λ p t. (has_decides paths p).1 (h p (node_is schedules p ((has_decides (nodes_of schedules) p).0 t))))

-- ---- two plans

parted : (xs ys : List (List Choice)) (p : List Choice) → IsPrefix (xs ++ ys) p → IsPrefix xs p ⊎ IsPrefix ys p
parted [] ys p h = inr h
parted (x ∷ xs) ys p (inl here) = inl (inl here)
parted (x ∷ xs) ys p (inr h) = one (parted xs ys p h) where
  one : IsPrefix xs p ⊎ IsPrefix ys p → IsPrefix (x ∷ xs) p ⊎ IsPrefix ys p
  one (inl k) = inl (inr k)
  one (inr k) = inr k

nodes_both : (xs ys : List (List Choice)) → length (nodes_of (xs ++ ys)) ≤ length (nodes_of xs) + length (nodes_of ys)
nodes_both xs ys = omega (arith, bounded (xs ++ ys) (nodes_of xs ++ nodes_of ys) all, length-append (nodes_of xs) (nodes_of ys)) where
  one : (p : List Choice) → IsPrefix xs p ⊎ IsPrefix ys p → Contains (nodes_of xs ++ nodes_of ys) p
  one p (inl h) = Contains-append_left (nodes_of xs) (nodes_of ys) p (is_node xs p (inr h))
  one p (inr h) = Contains-append_right (nodes_of xs) (nodes_of ys) p (is_node ys p (inr h))

  all : (p : List Choice) → (p ≡ []) ⊎ IsPrefix (xs ++ ys) p → Contains (nodes_of xs ++ nodes_of ys) p
  all p (inl e) = Contains-append_left (nodes_of xs) (nodes_of ys) p (is_node xs p (inl e))
  all p (inr h) = one p (parted xs ys p h)

pub count_both : (first second : List Named) → prefix_count (first ++ second) ≤ prefix_count first + prefix_count second
count_both first second =
    omega (arith, nodes_both (choices_of first) (choices_of second), ap (λ s. length (nodes_of s)) (map-append (λ (s : Named). s.1) first second))

-- ---- the places on chains

-- those of a chain up to so many behind where it begins
abbrev stretch : Planned → Head → ℕ → List (List Choice)
stretch plan h zero = []
stretch plan h (suc n) = path_at plan h (h.first + suc n) ∷ stretch plan h n

-- those of the first so many chains, and the empty prefix
abbrev places : Planned → Chained → ℕ → List (List Choice)
places plan all zero = [] ∷ []
places plan all (suc c) = stretch plan (head all c) (chain_length all c) ++ places plan all c

length-stretch : (plan : Planned) (h : Head) (n : ℕ) → length (stretch plan h n) ≡ n
length-stretch plan h zero = refl
length-stretch plan h (suc n) = ap suc (length-stretch plan h n)

length-places : (plan : Planned) (all : Chained) (n : ℕ) → length (places plan all n) ≡ place_count all n
length-places plan all zero = refl
length-places plan all (suc c) =
    omega (
      arith,
      length-append (stretch plan (head all c) (chain_length all c)) (places plan all c),
      length-stretch plan (head all c) (chain_length all c),
      length-places plan all c,
    )

-- with the next chain
pub one_chain : (all : Chained) (c : ℕ) → place_count all (c + 1) ≡ place_count all c + chain_length all c
one_chain all c = ap (place_count all) (add-one c)

on_stretch : (plan : Planned) (h : Head) (n k : ℕ) → h.first < k → k ≤ h.first + n → Contains (stretch plan h n) (path_at plan h k)
on_stretch plan h zero k l m = absurd (omega (arith, l, m))
on_stretch plan h (suc n) k l m = one (cases_lt (h.first + n) k) (λ less. on_stretch plan h n k l less) where
  one : (h.first + n < k) ⊎ (k ≤ h.first + n) → (k ≤ h.first + n → Contains (stretch plan h n) (path_at plan h k)) → Contains (stretch plan h (suc n)) (path_at plan h k)
  one (inl more) on = let e : h.first + suc n ≡ k = omega (arith, more, m) in (0, omega arith, ap (path_at plan h) e)
  one (inr less) on = let at = on less in (suc at.0, omega (arith, at.1), at.2)

among : (plan : Planned) (all : Chained) (n c : ℕ) (p : List Choice) → c < n → Contains (stretch plan (head all c) (chain_length all c)) p → Contains (places plan all n) p
among plan all zero c p l h = absurd (omega (arith, l))
among plan all (suc n) c p l h = one (cases_lt c n) (λ low. among plan all n c p low h) where
  one : (c < n) ⊎ (n ≤ c) → (c < n → Contains (places plan all n) p) → Contains (places plan all (suc n)) p
  one (inl low) on = Contains-append_right (stretch plan (head all n) (chain_length all n)) (places plan all n) p (on low)
  one (inr high) on =
      let e : c ≡ n = omega (arith, high, l) in
      Contains-append_left (stretch plan (head all n) (chain_length all n)) (places plan all n) p (subst (λ d. Contains (stretch plan (head all d) (chain_length all d)) p) e h)

root_among : (plan : Planned) (all : Chained) (n : ℕ) → Contains (places plan all n) []
root_among plan all zero = (0, omega arith, refl)
root_among plan all (suc n) = Contains-append_right (stretch plan (head all n) (chain_length all n)) (places plan all n) [] (root_among plan all n)

pub count_chains : (plan : Planned) (all : Chained) → AreChains plan all → prefix_count plan ≤ place_count all (length all.heads)
count_chains plan all are = omega (arith, bounded (choices_of plan) (places plan all (length all.heads)) at, length-places plan all (length all.heads)) where
  on : (p : List Choice) (c : ℕ) → Owns plan all c p → Contains (places plan all (length all.heads)) p
  on p c (some, there, k, first, past, e) =
      among plan all (length all.heads) c p there
      (subst (Contains (stretch plan (head all c) (chain_length all c))) (sym e) (on_stretch plan (head all c) (chain_length all c) k first (omega (arith, first, past))))

  at : (p : List Choice) → (p ≡ []) ⊎ IsPrefix (choices_of plan) p → Contains (places plan all (length all.heads)) p
  at [] h = root_among plan all (length all.heads)
  at (c ∷ p) (inl e) = cc
  at (c ∷ p) (inr h) = let owned = are.owned (c ∷ p) (λ e. cc) h in on (c ∷ p) owned.0 owned.1
