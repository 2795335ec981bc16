-- How many distinct prefixes the schedules of a row have.
use Rattle.bx_plan.proofs.Words.{◌≡◌, ◌⊎◌, inl, inr, ℕ, zero, suc, ◌+◌, ◌-◌, ◌^◌, ◌<◌, ◌≤◌, min, Bool, true, false, List, [], ◌∷◌, ◌++◌, length, get_or, take, drop, map, cond, refl, sym, ap, subst, ◌∙◌, arith, common_steps, filter, All}
use Rattle.bx_plan.proofs.Words.{get_or_push, get_or-take, All-nil, All-push, All-weaker, filter_more, length-le_from_is_member, add-one, append_assoc, length-append, nat_lt, Contains, take-append-drop, take_all, length_push}
use Rattle.bx_plan.proofs.Words.{length-map, length-take, map-append, Contains-push_cases, both_ways, cond_both, lt-ltb, le-ltb, ltb-true, Choice, Line, Row, common, placed, row_at, AreRows, Named, choices_of, line_view, lines_view}
use Rattle.bx_plan.proofs.Words.{with_nodes, prefixes, with_schedule_nodes, nodes_from, nodes_of, node_count, IsPrefix}
use Rattle.std.proofs.lemmas.List.{append-nil, get_or-map}
use Rattle.bx_plan.specs.Counting.{counted}
use Rattle.bx_plan.proofs.Commons.{begins_common, common_least, common_same, common_short, taken_alike}
use Rattle.bx_plan.proofs.Prefixes.{distinct_nodes, has_decides, is_node, node_is, path_laws, with_new, with_old}

-- ---- nodes with those of a schedule more

nodes_from-push : (nodes schedules : List (List Choice)) (s : List Choice) → nodes_from nodes (schedules ++ s ∷ []) ≡ with_schedule_nodes (nodes_from nodes schedules) s
nodes_from-push nodes [] s = refl
nodes_from-push nodes (first ∷ schedules) s = nodes_from-push (with_schedule_nodes nodes first) schedules s

-- the first so many of the prefixes are there, and the others are not
nodes_more : (nodes : List (List Choice)) (front choices : List Choice) (k : ℕ) → k ≤ length choices
    → ((n : ℕ) → n < k → Contains nodes (front ++ take (suc n) choices)) → ((n : ℕ) → k ≤ n → n < length choices → Contains nodes (front ++ take (suc n) choices) → ⊥)
    → length (with_nodes nodes (prefixes front choices)) ≡ length nodes + (length choices - k)
nodes_more nodes front [] k l old new = omega arith
nodes_more nodes front (c ∷ choices) zero l old new =
    omega (
      arith,
      ap (λ ns. length (with_nodes ns (prefixes (front ++ c ∷ []) choices))) (with_new nodes (front ++ c ∷ []) (new 0 (omega arith) (omega arith))),
      nodes_more (nodes ++ (front ++ c ∷ []) ∷ []) (front ++ c ∷ []) choices 0 (omega arith) (λ n h. absurd (omega (arith, h))) other,
      length_push nodes (front ++ c ∷ []),
    ) where
      other : (n : ℕ) → 0 ≤ n → n < length choices → Contains (nodes ++ (front ++ c ∷ []) ∷ []) ((front ++ c ∷ []) ++ take (suc n) choices) → ⊥
      other n _ h t = one (Contains-push_cases nodes (front ++ c ∷ []) ((front ++ c ∷ []) ++ take (suc n) choices) t) where
        one : Contains nodes ((front ++ c ∷ []) ++ take (suc n) choices) ⊎ (front ++ c ∷ [] ≡ (front ++ c ∷ []) ++ take (suc n) choices) → ⊥
        one (inl k) = new (suc n) (omega arith) (omega (arith, h)) (subst (Contains nodes) (append_assoc front (c ∷ []) (take (suc n) choices)) k)
        one (inr e) = omega (arith, h, ap length e, length-append (front ++ c ∷ []) (take (suc n) choices), length-take (suc n) choices)
nodes_more nodes front (c ∷ choices) (suc k) l old new =
    let same = append_assoc front (c ∷ []) in
    omega (
      arith,
      ap (λ ns. length (with_nodes ns (prefixes (front ++ c ∷ []) choices))) (with_old nodes (front ++ c ∷ []) (old 0 (omega arith))),
      nodes_more nodes (front ++ c ∷ []) choices k (omega (arith, l)) (λ n h. subst (Contains nodes) (sym (same (take (suc n) choices))) (old (suc n) (omega (arith, h))))
          (λ n h w t. new (suc n) (omega (arith, h)) (omega (arith, w)) (subst (Contains nodes) (same (take (suc n) choices)) t)),
    )

-- ---- schedules by their number

pub prefix_at : (ss : List (List Choice)) (i : ℕ) (p rest : List Choice) → i < length ss → get_or ss i [] ≡ p ++ rest → IsPrefix ss p
prefix_at [] i p rest h e = absurd (omega (arith, h))
prefix_at (s ∷ ss) zero p rest h e = inl (rest, e)
prefix_at (s ∷ ss) (suc i) p rest h e = inr (prefix_at ss i p rest (omega (arith, h)) e)

abbrev pub BeginsAt : List (List Choice) → List Choice → Type 0
BeginsAt ss p = (i : ℕ) × (i < length ss) × (rest : List Choice) × (get_or ss i [] ≡ p ++ rest)

pub prefix_of : (ss : List (List Choice)) (p : List Choice) → IsPrefix ss p → BeginsAt ss p
prefix_of [] p h = absurd h
prefix_of (s ∷ ss) p (inl (rest, e)) = (0, omega arith, rest, e)
prefix_of (s ∷ ss) p (inr h) = let at = prefix_of ss p h in (suc at.0, omega (arith, at.1), at.2, at.3)

-- ---- a schedule more behind those that begin with less of it

abbrev pub last_of : List (List Choice) → List Choice
last_of ss = get_or ss (length ss - 1) []

last_push : (ss : List (List Choice)) (s : List Choice) → last_of (ss ++ s ∷ []) ≡ s
last_push ss s = get_or_push ss s [] (length (ss ++ s ∷ []) - 1) (omega (arith, length_push ss s))

-- none of them begins with more than so many of its choices
abbrev Bounded : List (List Choice) → List Choice → ℕ → Type 0
Bounded ss s k = All (λ f. common f s ≤ k) ss

nodes_push : (ss : List (List Choice)) (s : List Choice) → Bounded ss s (common (last_of ss) s) → length (nodes_of (ss ++ s ∷ [])) ≡ length (nodes_of ss) + (length s - common (last_of ss) s)
nodes_push ss s bound = ap length (nodes_from-push ([] ∷ []) ss s) ∙ nodes_more (nodes_of ss) [] s (common (last_of ss) s) (common_short (last_of ss) s).1 old (λ n l h t. new n l h (node_is ss (take (suc n) s) t)) where
  some : (ss : List (List Choice)) (n : ℕ) → n < common (last_of ss) s → length ss - 1 < length ss
  some [] n h = absurd (omega (arith, h))
  some (f ∷ ss) n h = omega arith

  old : (n : ℕ) → n < common (last_of ss) s → Contains (nodes_of ss) (take (suc n) s)
  old n h = is_node ss (take (suc n) s) (inr (prefix_at ss (length ss - 1) (take (suc n) s) (drop (suc n) (last_of ss)) (some ss n h)
      (sym (take-append-drop (suc n) (last_of ss)) ∙ ap (λ p. p ++ drop (suc n) (last_of ss)) (taken_alike (last_of ss) s (suc n) (omega (arith, h))))))

  new : (n : ℕ) → common (last_of ss) s ≤ n → n < length s → (take (suc n) s ≡ []) ⊎ IsPrefix ss (take (suc n) s) → ⊥
  new n h1 h2 h3 = grind (arith, length-take, prefix_of, begins_common)

-- ---- the same prefixes are as many

pub fewer_nodes : (xs ys : List (List Choice)) → ((p : List Choice) → IsPrefix xs p → IsPrefix ys p) → length (nodes_of xs) ≤ length (nodes_of ys)
fewer_nodes xs ys h = length-le_from_is_member path_laws (nodes_of xs) (nodes_of ys) (distinct_nodes xs) (λ p t. (has_decides (nodes_of ys) p).1 (is_node ys p (one p (node_is xs p ((has_decides (nodes_of xs) p).0 t))))) where
  one : (p : List Choice) → (p ≡ []) ⊎ IsPrefix xs p → (p ≡ []) ⊎ IsPrefix ys p
  one p h1 = grind (arith)

-- with fewer schedules there are no more
pub no_more : (schedules : List (List Choice)) (i j : ℕ) → i ≤ j → node_count (take i schedules) ≤ node_count (take j schedules)
no_more schedules i j h = grind (arith, fewer_nodes, prefix_of, length-take, prefix_at, get_or-take)

-- ---- what the schedule before a place and one behind it begin with alike

abbrev pub before : List (List Choice) → List Row → ℕ → List Choice
before schedules rows zero = []
before schedules rows (suc k) = placed schedules rows k

module _ (schedules : List (List Choice)) (rows : List Row) (are : AreRows schedules rows) where
  pub before_is : (k : ℕ) → k < length rows → (row_at rows k).common ≡ common (before schedules rows k) (placed schedules rows k)
  before_is k h1 = grind (arith)

  pub passed : (k j : ℕ) → k ≤ j → j < length rows → common (before schedules rows k) (placed schedules rows j) ≡ min (row_at rows k).common (common (placed schedules rows k) (placed schedules rows j))
  passed zero j l h = omega (arith, are.commons 0 (omega (arith, l, h)))
  passed (suc i) j l h =
      let a = placed schedules rows i in let b = placed schedules rows (suc i) in let c = placed schedules rows j in
      let sides = are.gathered i (suc i) j (omega arith) l h in
      omega (arith, sides.0, sides.1, common_least a b c (min (common a b) (common b c)) (omega arith) (omega arith), are.commons (suc i) (omega (arith, l, h)))

-- ---- the schedules of a row that are counted

module _ (schedules : List (List Choice)) (count : ℕ) where
  abbrev choices : Row → List Choice
  choices row = get_or schedules row.line []

  counted_has : (rows : List Row) (k : ℕ) (p rest : List Choice) → k < length rows → (row_at rows k).line < count → placed schedules rows k ≡ p ++ rest → IsPrefix (counted schedules count rows) p
  counted_has [] k p rest h l e = absurd (omega (arith, h))
  counted_has (x ∷ rows) zero p rest h l e = grind (arith, cond_both, both_ways, lt-ltb)
  counted_has (x ∷ rows) (suc k) p rest h l e = grind (arith, cond_both, counted_has rows k p rest (omega (arith, h)) l e)

  abbrev CountedAt : List Row → List Choice → Type 0
  CountedAt rows p = (k : ℕ) × (k < length rows) × ((row_at rows k).line < count) × (rest : List Choice) × (placed schedules rows k ≡ p ++ rest)

  counted_is : (rows : List Row) (p : List Choice) → IsPrefix (counted schedules count rows) p → CountedAt rows p
  counted_is [] p h = absurd h
  counted_is (x ∷ rows) p h =
      let later : IsPrefix (counted schedules count rows) p → CountedAt (x ∷ rows) p = λ k. let at = counted_is rows p k in (suc at.0, omega (arith, at.1), at.2, at.3, at.4) in
      cond_both (nat_lt x.line count) (x ∷ filter (λ row. nat_lt row.line count) rows) (filter (λ row. nat_lt row.line count) rows) (λ xs. IsPrefix (map choices xs) p → CountedAt (x ∷ rows) p) (λ t. here later t) (λ f. later) h where
        here : (IsPrefix (counted schedules count rows) p → CountedAt (x ∷ rows) p) → nat_lt x.line count ≡ true → IsPrefix (choices x ∷ counted schedules count rows) p → CountedAt (x ∷ rows) p
        here later t (inl (rest, e)) = (0, omega arith, ltb-true x.line count t, rest, e)
        here later t (inr k) = later k

  -- so many prefixes so far, and so many choices with which the last schedule that was counted begins as the one before a place; and none
  -- that was counted begins with more of one from there on than the last
  pub record IsCounted (rows : List Row) (k nodes low : ℕ) : Type 0 where
    pub many : nodes ≡ min (node_count (counted schedules count (take k rows))) (2 ^ 64 - 1)
    pub near : low ≡ common (last_of (counted schedules count (take k rows))) (before schedules rows k)
    pub bound : (j : ℕ) → k ≤ j → j < length rows → Bounded (counted schedules count (take k rows)) (placed schedules rows j) (common (last_of (counted schedules count (take k rows))) (placed schedules rows j))
    pub last : (j : ℕ) → k ≤ j → j < length rows → common (last_of (counted schedules count (take k rows))) (placed schedules rows j) ≡ min low (common (before schedules rows k) (placed schedules rows j))

  module _ (rows : List Row) (are : AreRows schedules rows) where
    -- those of the whole row are the first so many schedules
    pub counted_all : (k : ℕ) → length rows ≤ k → node_count (counted schedules count (take k rows)) ≡ node_count (take count schedules)
    counted_all k h = ap (λ xs. node_count (counted schedules count xs)) (take_all k rows h) ∙ omega (arith, fewer_nodes (counted schedules count rows) (take count schedules) there, fewer_nodes (take count schedules) (counted schedules count rows) back) where
      there : (p : List Choice) → IsPrefix (counted schedules count rows) p → IsPrefix (take count schedules) p
      there p h = grind (arith, counted_is, prefix_at, length-take, get_or-take)

      back : (p : List Choice) → IsPrefix (take count schedules) p → IsPrefix (counted schedules count rows) p
      back p h =
          let at = prefix_of (take count schedules) p h in
          let low : at.0 < count = omega (arith, at.1, length-take count schedules) in
          let place = are.all at.0 (omega (arith, at.1, length-take count schedules)) in
          counted_has rows place.0 p at.2 place.1 (omega (arith, low, place.2))
          (ap (λ i. get_or schedules i []) place.2 ∙ sym (get_or-take count schedules at.0 [] low) ∙ at.3)

    -- ---- row by row

    abbrev so_far : ℕ → List (List Choice)
    so_far k = counted schedules count (take k rows)

    next_is : (k : ℕ) (b : Bool) → k < length rows → nat_lt (row_at rows k).line count ≡ b → so_far (k + 1) ≡ so_far k ++ map choices (cond b (row_at rows k ∷ []) [])
    next_is k b h t = grind (arith, common_steps, filter_more, map-append)

    pub counted_none : IsCounted rows 0 0 0
    counted_none = record { many = omega arith; near = refl; bound = λ j l h. All-nil (λ f. common f (placed schedules rows j) ≤ 0); last = λ j l h. omega arith }

    module _ (k nodes old low : ℕ) (is : IsCounted rows k nodes old) (h : k < length rows) (least : low ≡ min (row_at rows k).common old) where
      abbrev s : List Choice
      s = placed schedules rows k

      low_is : low ≡ common (last_of (so_far k)) s
      low_is = omega (arith, least, is.last k (omega arith) h, before_is schedules rows are k h)

      pub low_within : low ≤ length s
      low_within = omega (arith, low_is, (common_short (last_of (so_far k)) s).1)

      behind_it : (j : ℕ) → k + 1 ≤ j → j < length rows → (common (last_of (so_far k)) (placed schedules rows j) ≡ min low (common s (placed schedules rows j)))
      behind_it j l m = omega (arith, least, is.last j (omega (arith, l)) m, passed schedules rows are k j (omega (arith, l)) m)

      next_at : before schedules rows (k + 1) ≡ s
      next_at = ap (before schedules rows) (add-one k)

      pub counted_next : (row_at rows k).line < count → (long more : ℕ) → long ≡ length s → more ≡ min (nodes + (long - low)) (2 ^ 64 - 1) → IsCounted rows (k + 1) more long
      counted_next l long more e f = record {
        many = omega (arith, is.many, f, e, low_is, ap (λ ss. length (nodes_of ss)) so, nodes_push (so_far k) s (is.bound k (omega arith) h), (is_node (so_far k) [] (inl refl)).1);
        near = e ∙ sym (common_same s) ∙ ap (λ t. common t s) (sym last) ∙ ap (common (last_of (so_far (k + 1)))) (sym next_at);
        bound = λ j a b. subst (λ ss. Bounded ss (placed schedules rows j) (common (last_of ss) (placed schedules rows j))) (sym so) (subst (λ t. Bounded (so_far k ++ s ∷ []) (placed schedules rows j) (common t (placed schedules rows j))) (sym (last_push (so_far k) s))
            (All-push (λ f. common f (placed schedules rows j) ≤ common s (placed schedules rows j)) (so_far k) s
            (All-weaker (λ f. common f (placed schedules rows j) ≤ common (last_of (so_far k)) (placed schedules rows j)) (λ f. common f (placed schedules rows j) ≤ common s (placed schedules rows j)) (λ f m. omega (arith, m, behind_it j a b)) (so_far k) (is.bound j (omega (arith, a)) b)) (omega arith)));
        last = λ j a b. omega (arith, e, ap (λ t. common t (placed schedules rows j)) last, ap (λ t. common t (placed schedules rows j)) next_at, (common_short s (placed schedules rows j)).0);
      } where
        so : so_far (k + 1) ≡ so_far k ++ s ∷ []
        so = next_is k true h (lt-ltb (row_at rows k).line count l)

        last : last_of (so_far (k + 1)) ≡ s
        last = ap last_of so ∙ last_push (so_far k) s

      pub counted_over : count ≤ (row_at rows k).line → IsCounted rows (k + 1) nodes low
      counted_over l = record {
        many = is.many ∙ ap (λ ss. min (node_count ss) (2 ^ 64 - 1)) (sym so);
        near = low_is ∙ ap (λ ss. common (last_of ss) s) (sym so) ∙ ap (common (last_of (so_far (k + 1)))) (sym next_at);
        bound = λ j a b. subst (λ ss. Bounded ss (placed schedules rows j) (common (last_of ss) (placed schedules rows j))) (sym so) (is.bound j (omega (arith, a)) b);
        last = λ j a b. ap (λ ss. common (last_of ss) (placed schedules rows j)) so ∙ behind_it j a b ∙ ap (λ t. min low (common t (placed schedules rows j))) (sym next_at);
      } where
        so : so_far (k + 1) ≡ so_far k
        so = next_is k false h (le-ltb (row_at rows k).line count l) ∙ append-nil (so_far k)

pub lines_long : (lines : List Line) → length (choices_of (lines_view lines)) ≡ length lines
lines_long lines = omega (arith, length-map (lines_view lines) (λ (s : Named). s.1), length-map lines line_view)

-- the schedule of a line
pub line_choices : (lines : List Line) (i : ℕ) (x : Line) → i < length (choices_of (lines_view lines)) → get_or (choices_of (lines_view lines)) i [] ≡ (get_or lines i x).schedule
line_choices lines i x h =
    let long : i < length lines = omega (arith, h, lines_long lines) in
    get_or-map (λ (s : Named). s.1) (lines_view lines) i ([], []) [] (omega (arith, long, length-map lines line_view))
    ∙ ap (λ (s : Named). s.1) (get_or-map line_view lines i x ([], []) long)
