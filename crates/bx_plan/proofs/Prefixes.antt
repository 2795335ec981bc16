-- The nodes are the prefixes of the schedules, each once.
use Rattle.bx_plan.proofs.Words.{◌≡◌, ◌⊎◌, ⊎_elim, inl, inr, ℕ, zero, suc, ◌<◌, Bool, true, ◌||◌, List, [], ◌∷◌, ◌++◌, length, get_or, take, drop, refl, sym, ap, ◌∙◌, arith, append_assoc, append-nil, length-append, IsEquivalence}
use Rattle.bx_plan.proofs.Words.{IsDistinct, cases_order, lists_equiv, get_or_append_left, is_member-Decides, slice_eq-Decides, has_node, with_node, AreNodes, Decides, Contains, both_ways, cond_both, cond-false, cond-true}
use Rattle.bx_plan.proofs.Words.{false_from_ne_true, same_from_decides, get_or_default, length_push, take-append-drop, take_at, Contains-append_cases, Contains-append_left, Contains-append_right, list_any-append, Choice, choice_eq}
use Rattle.bx_plan.proofs.Words.{with_nodes, prefixes, with_schedule_nodes, nodes_from, nodes_of, IsPrefix}
use Rattle.std.specs.Cmp.Lexicographic.{pointwise}
use Rattle.std.proofs.lemmas.Map.Keys.{apart_from_distinct, IsDistinct-from_apart, IsDistinct-push}
use Rattle.bx_plan.proofs.Commons.{choice_decides}

-- ---- paths among nodes

abbrev pub same_path : List Choice → List Choice → Bool
same_path = pointwise choice_eq

path_decides : (a b : List Choice) → Decides (same_path a b) (a ≡ b)
path_decides a b = slice_eq-Decides choice_decides a b (same_path a b) refl

pub path_laws : IsEquivalence same_path
path_laws = lists_equiv (record {
  refl = λ a. (choice_decides a a).1 refl;
  symm = λ a b. same_from_decides (choice_eq a b) (choice_eq b a) (choice_decides a b) (λ h. sym ((choice_decides b a).0 h), λ e. (choice_decides b a).1 (sym e));
  congr = λ a b c h. ap (λ x. choice_eq x c) ((choice_decides a b).0 h);
})

pub has_decides : (nodes : List (List Choice)) (path : List Choice) → Decides (has_node nodes path) (Contains nodes path)
has_decides = is_member-Decides path_decides

-- ---- nodes that are added

pub with_new : (nodes : List (List Choice)) (to : List Choice) → (Contains nodes to → ⊥) → with_node nodes to ≡ nodes ++ to ∷ []
with_new nodes to new = cond-false (has_node nodes to) nodes (nodes ++ to ∷ []) (false_from_ne_true (has_node nodes to) (λ t. new ((has_decides nodes to).0 t)))

pub with_old : (nodes : List (List Choice)) (to : List Choice) → Contains nodes to → with_node nodes to ≡ nodes
with_old nodes to old = cond-true (has_node nodes to) nodes (nodes ++ to ∷ []) ((has_decides nodes to).1 old)

-- they are the nodes and the paths, each once
has_all : (nodes paths : List (List Choice)) (path : List Choice) → has_node (with_nodes nodes paths) path ≡ has_node (nodes ++ paths) path
has_all nodes [] path = ap (λ ns. has_node ns path) (sym (append-nil nodes))
has_all nodes (to ∷ paths) path =
    has_all (with_node nodes to) paths path ∙ cond_both (has_node nodes to) nodes (nodes ++ to ∷ []) (λ ns. has_node (ns ++ paths) path ≡ has_node (nodes ++ to ∷ paths) path)
    (λ t. list_any-append (same_path path) nodes paths
    ∙ known (has_node nodes path) (same_path path to) (has_node paths path) (λ e. ap (has_node nodes) ((path_decides path to).0 e) ∙ t) ∙ sym (list_any-append (same_path path) nodes (to ∷ paths)))
    (λ f. ap (λ ns. has_node ns path) (append_assoc nodes (to ∷ []) paths))
  where
    known : (x y z : Bool) → (y ≡ true → x ≡ true) → (x || z) ≡ (x || (y || z))
    known x y z h = grind arith

each_once : (nodes paths : List (List Choice)) → IsDistinct same_path nodes → IsDistinct same_path (with_nodes nodes paths)
each_once nodes [] h = h
each_once nodes (to ∷ paths) h = each_once (with_node nodes to) paths (cond_both (has_node nodes to) nodes (nodes ++ to ∷ []) (IsDistinct same_path) (λ t. h) (λ f. IsDistinct-push path_laws nodes to h f))

first_stays : (nodes paths : List (List Choice)) → 0 < length nodes → get_or (with_nodes nodes paths) 0 [] ≡ get_or nodes 0 []
first_stays nodes [] h = refl
first_stays nodes (to ∷ paths) h = grind (arith, cond_both, length_push, get_or_append_left, first_stays nodes paths h, first_stays (nodes ++ to ∷ []) paths (omega (arith, length_push nodes to)))

-- ---- the prefixes of one schedule

length-prefixes : (front choices : List Choice) → length (prefixes front choices) ≡ length choices
length-prefixes front [] = refl
length-prefixes front (c ∷ choices) = ap suc (length-prefixes (front ++ c ∷ []) choices)

prefix_there : (front choices : List Choice) (k : ℕ) (d : List Choice) → k < length choices → get_or (prefixes front choices) k d ≡ front ++ take (suc k) choices
prefix_there front [] k d h = absurd (omega (arith, h))
prefix_there front (c ∷ choices) zero d h = refl
prefix_there front (c ∷ choices) (suc k) d h = prefix_there (front ++ c ∷ []) choices k d (omega (arith, h)) ∙ append_assoc front (c ∷ []) (take (suc k) choices)

abbrev Begins : List Choice → List Choice → Type 0
Begins schedule path = (rest : List Choice) × (schedule ≡ path ++ rest)

begins : (schedule path : List Choice) → Contains (prefixes [] schedule) path → Begins schedule path
begins schedule path (k, h, e) =
    let at = prefix_there [] schedule k path (omega (arith, h, length-prefixes [] schedule)) in
    (drop (suc k) schedule, sym (take-append-drop (suc k) schedule) ∙ ap (λ p. p ++ drop (suc k) schedule) (sym at ∙ e))

-- a prefix is empty, or it is one of these
begun : (schedule path : List Choice) → Begins schedule path → (path ≡ []) ⊎ Contains (prefixes [] schedule) path
begun schedule [] (rest, e) = inl refl
begun schedule (c ∷ path) (rest, e) =
    let h : length path < length schedule = omega (arith, ap length e, length-append path rest) in
    inr (length path, omega (arith, h, length-prefixes [] schedule), prefix_there [] schedule (length path) (c ∷ path) h ∙ ap (take (suc (length path))) e ∙ take_at (c ∷ path) rest (suc (length path)) refl)

-- ---- all schedules

abbrev all_prefixes : List (List Choice) → List (List Choice)
all_prefixes [] = []
all_prefixes (schedule ∷ schedules) = prefixes [] schedule ++ all_prefixes schedules

with_both : (nodes xs ys : List (List Choice)) → with_nodes nodes (xs ++ ys) ≡ with_nodes (with_nodes nodes xs) ys
with_both nodes [] ys = refl
with_both nodes (x ∷ xs) ys = with_both (with_node nodes x) xs ys

with_all : (nodes schedules : List (List Choice)) → nodes_from nodes schedules ≡ with_nodes nodes (all_prefixes schedules)
with_all nodes [] = refl
with_all nodes (schedule ∷ schedules) = with_all (with_schedule_nodes nodes schedule) schedules ∙ sym (with_both nodes (prefixes [] schedule) (all_prefixes schedules))

prefix_is : (schedules : List (List Choice)) (path : List Choice) → Contains (all_prefixes schedules) path → IsPrefix schedules path
prefix_is [] path (k, h, e) = absurd (omega (arith, h))
prefix_is (schedule ∷ schedules) path h = ⊎_elim (λ k. inl (begins schedule path k)) (λ k. inr (prefix_is schedules path k)) (Contains-append_cases (prefixes [] schedule) (all_prefixes schedules) path h)

is_prefix : (schedules : List (List Choice)) (path : List Choice) → IsPrefix schedules path → (path ≡ []) ⊎ Contains (all_prefixes schedules) path
is_prefix [] path h = absurd h
is_prefix (schedule ∷ schedules) path (inl h) = ⊎_elim inl (λ k. inr (Contains-append_left (prefixes [] schedule) (all_prefixes schedules) path k)) (begun schedule path h)
is_prefix (schedule ∷ schedules) path (inr h) = ⊎_elim inl (λ k. inr (Contains-append_right (prefixes [] schedule) (all_prefixes schedules) path k)) (is_prefix schedules path h)

-- ---- the nodes of some schedules

module _ (schedules : List (List Choice)) where
  pub distinct_nodes : IsDistinct same_path (nodes_of schedules)
  distinct_nodes = rw (with_all ([] ∷ []) schedules) (each_once ([] ∷ []) (all_prefixes schedules) (IsDistinct-from_apart same_path ([] ∷ []) (λ i j d a b. absurd (omega (arith, a, b)))))

  has_is : (path : List Choice) → has_node (nodes_of schedules) path ≡ has_node ([] ∷ all_prefixes schedules) path
  has_is path = ap (λ ns. has_node ns path) (with_all ([] ∷ []) schedules) ∙ has_all ([] ∷ []) (all_prefixes schedules) path

  pub is_node : (path : List Choice) → (path ≡ []) ⊎ IsPrefix schedules path → Contains (nodes_of schedules) path
  is_node path h =
      let there = ⊎_elim (λ e. (0, omega arith, sym e)) (Contains-append_right ([] ∷ []) (all_prefixes schedules) path) (⊎_elim inl (is_prefix schedules path) h) in
      (has_decides (nodes_of schedules) path).0 (has_is path ∙ (has_decides ([] ∷ all_prefixes schedules) path).1 there)

  pub node_is : (path : List Choice) → Contains (nodes_of schedules) path → (path ≡ []) ⊎ IsPrefix schedules path
  node_is path h = one ((has_decides ([] ∷ all_prefixes schedules) path).0 (sym (has_is path) ∙ (has_decides (nodes_of schedules) path).1 h)) where
    one : Contains ([] ∷ all_prefixes schedules) path → (path ≡ []) ⊎ IsPrefix schedules path
    one h0 = grind (arith, prefix_is)

  apart : (i j : ℕ) → i < j → j < length (nodes_of schedules) → get_or (nodes_of schedules) i [] ≡ get_or (nodes_of schedules) j [] → ⊥
  apart i j a h e = both_ways (same_path (get_or (nodes_of schedules) i []) (get_or (nodes_of schedules) j [])) (apart_from_distinct same_path (nodes_of schedules) i j [] distinct_nodes a h) ((path_decides _ _).1 e)

pub nodes_law : (schedules : List (List Choice)) → AreNodes schedules (nodes_of schedules)
nodes_law schedules = record {
  root = ap (λ ns. get_or ns 0 []) (with_all ([] ∷ []) schedules) ∙ first_stays ([] ∷ []) (all_prefixes schedules) (omega arith);
  members = λ path. (
    λ (k, h, e). node_is schedules path (k, h, get_or_default (nodes_of schedules) k path [] h ∙ e),
    λ h. let at = is_node schedules path h in (at.0, at.1, get_or_default (nodes_of schedules) at.0 [] path at.1 ∙ at.2),
  );
  distinct = λ i j h l e. ⊎_elim (λ same. same) (λ o. absurd (⊎_elim (λ a. apart schedules i j a l e) (λ a. apart schedules j i a h (sym e)) o)) (cases_order i j);
}
