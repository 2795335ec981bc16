-- The chains of the schedules of a row so far, with one more.
use Rattle.bx_plan.proofs.Words.{◌≡◌, ◌≢◌, ◌⊎◌, ⊎_elim, inl, inr, ℕ, zero, suc, ◌+◌, ◌-◌, ◌<◌, ◌≤◌, List, [], ◌∷◌, ◌++◌, length, get_or, set, take, drop, refl, sym, ap, subst, ◌∙◌, arith, add-one, append_assoc, rules, same_from_push}
use Rattle.bx_plan.proofs.Words.{path_at, AreChains, AreForest, Begins, Owns, IsReached, EndsThere, choices_at, append-nil, length-append, cases_eq, cases_lt, get_or-set_other, get_or-set_same, length_push, length-map, length-set}
use Rattle.bx_plan.proofs.Words.{length-take, length-take-le, take-append-drop, take-take, take_all, take_at, take_more, Choice, Run, Head, Row, above, begun, chain_path, head, Chained, IsCut, common, common_before, placed, row_at}
use Rattle.bx_plan.proofs.Words.{AreRows, Grown, IsPrefix, Named, choices_of}
use Rattle.std.proofs.Math.ListN.{get_or-map}
use Rattle.bx_plan.proofs.Commons.{begins_common, common_least, common_long, common_same, common_short, same_or_not, taken_alike}
use Rattle.bx_plan.proofs.Counting.{prefix_at, prefix_of}
use Rattle.bx_plan.proofs.Kids.{kids_more, more_heads, more_kids, new_head, old_head}

-- ---- where no chain goes on

-- a schedule ends there
pub ends_there : (ss : List (List Choice)) (i : ℕ) (path : List Choice) → i < length ss → path ≡ get_or ss i [] → EndsThere ss path
ends_there [] i path h e = absurd (omega (arith, h))
ends_there (s ∷ ss) zero path h e = inl e
ends_there (s ∷ ss) (suc i) path h e = inr (ends_there ss i path (omega (arith, h)) e)

ends_of : (ss : List (List Choice)) (path : List Choice) → EndsThere ss path → (i : ℕ) × (i < length ss) × (path ≡ get_or ss i [])
ends_of [] path h = absurd h
ends_of (s ∷ ss) path (inl e) = (0, omega arith, e)
ends_of (s ∷ ss) path (inr h) = let at = ends_of ss path h in (suc at.0, omega (arith, at.1), at.2)

abbrev no_choice : Choice
no_choice = Run 0

-- a schedule that goes on behind so many choices
goes_on : (s : List Choice) (n : ℕ) → n < length s → s ≡ (take n s ++ get_or s n no_choice ∷ []) ++ drop (n + 1) s
goes_on s n h = sym (take-append-drop (n + 1) s) ∙ ap (λ p. p ++ drop (n + 1) s) (take_more s n no_choice h)

cut_where_parted : (ss : List (List Choice)) (i j n : ℕ) → i < length ss → j < length ss → n ≡ common (get_or ss i []) (get_or ss j []) → n < length (get_or ss j []) → IsCut ss (take n (get_or ss j []))
cut_where_parted ss i j n h l e long =
    let a = get_or ss i [] in
    let b = get_or ss j [] in
    let same : take n a ≡ take n b = taken_alike a b n (omega (arith, e)) in
    ⊎_elim (λ (p : n < length a).
    let c = get_or a n no_choice in
    let alike = take_more a n no_choice p ∙ ap (λ p. p ++ c ∷ []) same in
    inr (inr (
      c,
      get_or b n no_choice,
      (λ q. omega (arith, e, common_long a b (n + 1) (omega (arith, p)) (omega (arith, long)) (alike ∙ ap (λ c. take n b ++ c ∷ []) q ∙ sym (take_more b n no_choice long)))),
      prefix_at ss i (take n b ++ c ∷ []) (drop (n + 1) a) h (goes_on a n p ∙ ap (λ p. (p ++ c ∷ []) ++ drop (n + 1) a) same),
      prefix_at ss j (take n b ++ get_or b n no_choice ∷ []) (drop (n + 1) b) l (goes_on b n long),
    ))) (λ (p : length a ≤ n). inr (inl (ends_there ss i (take n b) h (sym same ∙ take_all n a p)))) (cases_lt n (length a))

-- another schedule parts there from one that goes on
parts_from : (t s : List Choice) (n : ℕ) (c : Choice) (rest : List Choice) → n < length s → t ≡ (take n s ++ c ∷ []) ++ rest → c ≢ get_or s n no_choice → common t s ≡ n
parts_from t s n c rest h e apart =
    let front : take (n + 1) t ≡ take n s ++ c ∷ [] = ap (take (n + 1)) e ∙ take_at (take n s ++ c ∷ []) rest (n + 1) (omega (arith, length_push (take n s) c, length-take-le n s (omega (arith, h)))) in
    ⊎_elim (λ (l : n < common t s). absurd (apart (same_from_push (take n s) (take n s) c (get_or s n no_choice) (sym front ∙ taken_alike t s (n + 1) (omega (arith, l)) ∙ take_more s n no_choice h)).1))
    (λ (l : common t s ≤ n). omega (arith, l, begins_common t s (c ∷ rest) n (omega (arith, h)) (e ∙ append_assoc (take n s) (c ∷ []) rest))) (cases_lt n (common t s))

parted_at_cut : (ss : List (List Choice)) (j n : ℕ) → 0 < n → n < length (get_or ss j []) → IsCut ss (take n (get_or ss j [])) → (i : ℕ) × (i < length ss) × (common (get_or ss i []) (get_or ss j []) ≡ n)
parted_at_cut ss j n some long (inl e) = absurd (omega (arith, some, ap length e, length-take-le n (get_or ss j []) (omega (arith, long))))
parted_at_cut ss j n some long (inr (inl e)) = grind (arith, ends_of, length-take-le, common_short, common_long, take_all)
parted_at_cut ss j n some long (inr (inr (a, b, apart, first, second))) =
    let s = get_or ss j [] in
    let by : (c : Choice) → c ≢ get_or s n no_choice → IsPrefix ss (take n s ++ c ∷ []) → (i : ℕ) × (i < length ss) × (common (get_or ss i []) s ≡ n) =
    λ c m p. let at = prefix_of ss (take n s ++ c ∷ []) p in (at.0, at.1, parts_from (get_or ss at.0 []) s n c at.2 long at.3 m) in
    ⊎_elim (λ e. by b (λ f. apart (e ∙ sym f)) second) (λ m. by a m first) (same_or_not a (get_or s n no_choice))

-- ---- up from the last chain

module _ (plan : List Named) (all : Chained) (forest : AreForest plan all) where
  pub path_long : (c : ℕ) → c < length all.heads → length (chain_path plan all c) ≡ (head all c).past
  path_long c h1 = grind (arith, length-take, length-take-le)

  abbrev Up : ℕ → List Choice → ℕ → Type 0
  Up at path depth = (at < length all.heads) × (chain_path plan all at ≡ take (head all at).past path) × (depth ≤ (head all at).past)

  pub up_next : (at : ℕ) (path : List Choice) (depth : ℕ) → Up at path depth → depth < (head all at).past → IsCut (choices_of plan) (take depth path) → Up (above all at) path depth × (above all at < at)
  up_next zero path depth is l cut = let none : (head all 0).past ≡ 0 = ap (λ (h : Head). h.past) forest.root in absurd (omega (arith, l, none))
  up_next (suc c) path depth (h, front, low) l cut =
      let x : Head = head all (suc c) in
      let b = forest.begins (suc c) (omega arith) h in
      let taken : (n : ℕ) → n ≤ x.past → path_at plan x n ≡ take n path = λ n k. sym (take-take n x.past (choices_at plan x.line) k) ∙ ap (take n) front ∙ take-take n x.past path k in
      let up_past : (head all x.above).past ≡ x.first = sym (path_long x.above (omega (arith, h, b.below))) ∙ ap length b.stands ∙ length-take-le x.first (choices_at plan x.line) (omega (arith, b.some, b.within)) in
      let deep : x.first < depth → ⊥ = λ k. b.inside depth k l (subst (IsCut (choices_of plan)) (sym (taken depth (omega (arith, l)))) cut) in
      let high : depth ≤ x.first = ⊎_elim (λ k. absurd (deep k)) (λ k. k) (cases_lt x.first depth) in
      ((omega (arith, h, b.below), b.stands ∙ taken x.first (omega (arith, b.some)) ∙ ap (λ n. take n path) (sym up_past), omega (arith, high, up_past)), b.below)

-- ---- one chain more

module _ (plan : List Named) (rows : List Row) (are : AreRows (choices_of plan) rows) where
  -- the schedule of a line, in both ways
  pub choices_is : (line : ℕ) → choices_at plan line ≡ get_or (choices_of plan) line []
  choices_is line = sym (get_or-map (λ (s : Named). s.1) plan line ([], []))

  less_before : (i k : ℕ) → i < k → k < length rows → common (placed (choices_of plan) rows i) (placed (choices_of plan) rows k) ≤ (row_at rows k).common
  less_before i zero l h = absurd (omega (arith, l))
  less_before i (suc k) l h = omega (arith, (are.gathered i k (suc k) (omega (arith, l)) (omega arith) h).1, are.commons (suc k) h)

  module _ (all : Chained) (k first past up : ℕ) (grown : Grown plan rows k first all) (h : k < length rows) (there : up < length all.heads)
      (on : chain_path plan all up ≡ take first (chain_path plan all (length all.heads - 1)))
      (some : first < past) (within : past ≤ length (placed (choices_of plan) rows k)) (from : (row_at rows k).common ≤ first)
      (begin : IsCut (choices_of plan) (take first (placed (choices_of plan) rows k))) (end : IsCut (choices_of plan) (take past (placed (choices_of plan) rows k)))
      (inside : (n : ℕ) → first < n → n < past → IsCut (choices_of plan) (take n (placed (choices_of plan) rows k)) → ⊥) where
    abbrev x : Head
    x = record { line = (row_at rows k).line; first = first; past = past; above = up }

    abbrev next : Chained
    next = begun x all

    abbrev here : List Choice
    here = placed (choices_of plan) rows k

    more : length next.heads ≡ length all.heads + 1
    more = more_heads all x grown.forest.some grown.forest.rows grown.forest.kids there

    old : (c : ℕ) → c < length all.heads → head next c ≡ head all c
    old c l = old_head all x grown.forest.some grown.forest.rows grown.forest.kids there c l

    new : head next (length all.heads) ≡ x
    new = new_head all x grown.forest.some grown.forest.rows grown.forest.kids there

    path_is : (n : ℕ) → path_at plan x n ≡ take n here
    path_is n = ap (take n) (choices_is (row_at rows k).line)

    old_path : (c : ℕ) → c < length all.heads → chain_path plan next c ≡ chain_path plan all c
    old_path c l = ap (λ h. path_at plan h h.past) (old c l)

    abbrev By : Head → List Choice → Type 0
    By h path = (n : ℕ) × (h.first < n) × (n ≤ h.past) × (path ≡ path_at plan h n)

    owns_old : (c : ℕ) (path : List Choice) → Owns plan all c path → Owns plan next c path
    owns_old c path o = let by : By (head next c) path = subst (λ h. By h path) (sym (old c o.1)) (o.2, o.3, o.4, o.5) in (o.0, omega (arith, o.1, more), by.0, by.1, by.2, by.3)

    owns_new : (n : ℕ) → first < n → n ≤ past → Owns plan next (length all.heads) (take n here)
    owns_new n a b = let by : By (head next (length all.heads)) (take n here) = subst (λ h. By h (take n here)) (sym new) (n, a, b, sym (path_is n)) in (grown.forest.some, omega (arith, more), by.0, by.1, by.2, by.3)

    -- a path that lies on the new chain, or on an old one
    abbrev Mine : ℕ → List Choice → Type 0
    Mine c path = (c ≡ length all.heads) × (n : ℕ) × (first < n) × (n ≤ past) × (path ≡ take n here)

    owns_either : (c : ℕ) (path : List Choice) → Owns plan next c path → Owns plan all c path ⊎ Mine c path
    owns_either c path o = search (rules, next, new, path_is, more, old, cases_eq)

    clash : (c d : ℕ) (path : List Choice) → Owns plan all c path → Mine d path → ⊥
    clash c d path o (_, n, a, b, e) = one (grown.only c path o) where
      one : IsReached plan rows k first path → ⊥
      one (inl (i, l, _, rest, f)) = omega (arith, a, from, less_before i k l h, begins_common (placed (choices_of plan) rows i) here rest n (omega (arith, b, within)) (f ∙ ap (λ p. p ++ rest) e))
      one (inr (m, l, f)) = omega (arith, a, l, ap length (sym e ∙ f), length-take n here, length-take m here, b, within)

    alone : (c d : ℕ) (path : List Choice) → Owns plan next c path → Owns plan next d path → c ≡ d
    alone c d path o p =
        ⊎_elim (λ a. ⊎_elim (λ b. grown.forest.alone c d path a b) (λ b. absurd (clash c d path a b)) (owns_either d path p))
        (λ a. ⊎_elim (λ b. absurd (clash d c path b a)) (λ b. a.0 ∙ sym b.0) (owns_either d path p)) (owns_either c path o)

    begins : (c : ℕ) → 0 < c → c < length next.heads → Begins plan (head next c) (chain_path plan next (head next c).above) c
    begins c a b = one (cases_eq c (length all.heads)) where
      mine : Begins plan x (chain_path plan next up) (length all.heads)
      mine = grind (arith, length-map, choices_is, path_is, old_path, taken_alike)

      one : (c ≡ length all.heads) ⊎ (c ≢ length all.heads) → Begins plan (head next c) (chain_path plan next (head next c).above) c
      one (inl e) = subst (λ n. Begins plan (head next n) (chain_path plan next (head next n).above) n) (sym e) (subst (λ g. Begins plan g (chain_path plan next g.above) (length all.heads)) (sym new) mine)
      one (inr m) =
          let low : c < length all.heads = omega (arith, b, more, m) in
          let was = grown.forest.begins c a low in
          subst (λ g. Begins plan g (chain_path plan next g.above) c) (sym (old c low)) (subst (λ p. Begins plan (head all c) p c) (sym (old_path (above all c) (omega (arith, was.below, low)))) was)

    pub grown_more : Grown plan rows k past next
    grown_more = record {
      forest = record {
        some = omega (arith, more);
        rows = more_kids all x grown.forest.some grown.forest.rows grown.forest.kids there ∙ ap (λ n. n + 1) grown.forest.rows ∙ sym more;
        root = old 0 grown.forest.some ∙ grown.forest.root;
        begins = begins;
        kids = kids_more all x grown.forest.some grown.forest.rows grown.forest.kids there;
        alone = alone;
      };
      owned = λ path some r. two path some r;
      only = λ c path o. ⊎_elim (λ p. ⊎_elim inl (λ (n, l, e). inr (n, omega (arith, l, some), e)) (grown.only c path p)) (λ (_, n, _, b, e). inr (n, b, e)) (owns_either c path o);
      last = omega (arith, begins_common (take past here) here [] past within (sym (append-nil (take past here))), ap (λ p. common p here) last_is);
      long = grown.long;
      ends = λ i a b. let was = grown.ends i a b in (omega (arith, was.0, more), old_path _ was.0 ∙ was.1);
    } where
      last_is : chain_path plan next (length next.heads - 1) ≡ take past here
      last_is = let at : length next.heads - 1 ≡ length all.heads = omega (arith, more) in ap (chain_path plan next) at ∙ ap (λ h. path_at plan h h.past) new ∙ path_is past

      two : (path : List Choice) → path ≢ [] → IsReached plan rows k past path → (c : ℕ) × Owns plan next c path
      two path some (inl r) = let was = grown.owned path some (inl r) in (was.0, owns_old was.0 path was.1)
      two path some (inr (n, b, e)) =
          ⊎_elim (λ l. (length all.heads, subst (Owns plan next (length all.heads)) (sym e) (owns_new n l b)))
          (λ l. let was = grown.owned path some (inr (n, l, e)) in (was.0, owns_old was.0 path was.1)) (cases_lt first n)

  -- ---- a whole row

  -- the chain with which the schedule at a place ends was noted
  pub grown_row : (k : ℕ) (all : Chained) (e : ℕ) → k < length rows → Grown plan rows k (length (placed (choices_of plan) rows k)) all → e < length all.heads → chain_path plan all e ≡ placed (choices_of plan) rows k
      → Grown plan rows (k + 1) (common_before (choices_of plan) rows (k + 1)) (record { heads = all.heads; kids = all.kids; ends = set all.ends (row_at rows k).line e })
  grown_row k all e h grown there is = record {
    forest = record { some = grown.forest.some; rows = grown.forest.rows; root = grown.forest.root; begins = grown.forest.begins; kids = grown.forest.kids; alone = grown.forest.alone };
    owned = λ path n r. owned path n r;
    only = λ c path o. inl (only c path (grown.only c path o));
    last = omega (arith, next, (common_short here (placed (choices_of plan) rows (suc k))).0, common_least (chain_path plan all (length all.heads - 1)) here (placed (choices_of plan) rows (suc k)) (common here (placed (choices_of plan) rows (suc k))) (omega (arith, grown.last, (common_short here (placed (choices_of plan) rows (suc k))).0)) (omega arith), ap (λ j. common (chain_path plan all (length all.heads - 1)) (placed (choices_of plan) rows j)) (add-one k));
    long = length-set all.ends (row_at rows k).line e ∙ grown.long;
    ends = λ i a b. ends i a b (cases_eq (row_at rows i).line (row_at rows k).line);
  } where
    here : List Choice
    here = placed (choices_of plan) rows k

    next : common_before (choices_of plan) rows (k + 1) ≡ common (placed (choices_of plan) rows k) (placed (choices_of plan) rows (suc k))
    next = ap (common_before (choices_of plan) rows) (add-one k)

    owned : (path : List Choice) → path ≢ [] → IsReached plan rows (k + 1) (common_before (choices_of plan) rows (k + 1)) path → (c : ℕ) × Owns plan all c path
    owned path some (inr (n, b, f)) =
        let low : n ≤ common here (placed (choices_of plan) rows (suc k)) = omega (arith, b, next) in
        grown.owned path some (inr (n, omega (arith, low, (common_short here (placed (choices_of plan) rows (suc k))).0), f ∙ ap (λ j. take n (placed (choices_of plan) rows j)) (add-one k) ∙ sym (taken_alike here (placed (choices_of plan) rows (suc k)) n low)))
    owned path some (inl (i, a, b, rest, f)) = one (cases_eq i k) where
      one : (i ≡ k) ⊎ (i ≢ k) → (c : ℕ) × Owns plan all c path
      one (inr m) = grown.owned path some (inl (i, omega (arith, a, m), b, rest, f))
      one (inl e) =
          let whole : placed (choices_of plan) rows k ≡ path ++ rest = ap (placed (choices_of plan) rows) (sym e) ∙ f in
          grown.owned path some (inr (length path, omega (arith, ap length whole, length-append path rest), sym (ap (take (length path)) whole ∙ take_at path rest (length path) refl)))

    only : (c : ℕ) (path : List Choice) → IsReached plan rows k (length (placed (choices_of plan) rows k)) path
        → (i : ℕ) × (i < k + 1) × (i < length rows) × (rest : List Choice) × (placed (choices_of plan) rows i ≡ path ++ rest)
    only c path (inl (i, a, b, rest, f)) = (i, omega (arith, a), b, rest, f)
    only c path (inr (n, a, f)) = (k, omega arith, h, drop n (placed (choices_of plan) rows k), sym (take-append-drop n (placed (choices_of plan) rows k)) ∙ ap (λ p. p ++ drop n (placed (choices_of plan) rows k)) (sym f))

    at_line : (row_at rows k).line < length all.ends
    at_line = omega (arith, are.within k h, length-map plan (λ (s : Named). s.1), grown.long)

    ends : (i : ℕ) → i < k + 1 → i < length rows → ((row_at rows i).line ≡ (row_at rows k).line) ⊎ ((row_at rows i).line ≢ (row_at rows k).line)
        → (get_or (set all.ends (row_at rows k).line e) (row_at rows i).line 0 < length all.heads) × (chain_path plan all (get_or (set all.ends (row_at rows k).line e) (row_at rows i).line 0) ≡ placed (choices_of plan) rows i)
    ends i a b (inl f) =
        let set_there : get_or (set all.ends (row_at rows k).line e) (row_at rows i).line 0 ≡ e = ap (λ l. get_or (set all.ends (row_at rows k).line e) l 0) f ∙ get_or-set_same all.ends (row_at rows k).line e 0 at_line in
        (omega (arith, there, set_there), ap (chain_path plan all) set_there ∙ is ∙ ap (λ l. get_or (choices_of plan) l []) (sym f))
    ends i a b (inr m) =
        let kept : get_or (set all.ends (row_at rows k).line e) (row_at rows i).line 0 ≡ get_or all.ends (row_at rows i).line 0 = get_or-set_other all.ends (row_at rows k).line (row_at rows i).line e 0 m in
        let low : i < k = omega (arith, a, λ (f : i ≡ k). m (ap (λ j. (row_at rows j).line) f)) in
        let was = grown.ends i low b in
        (omega (arith, was.0, kept), ap (chain_path plan all) kept ∙ was.1)

  -- ---- all rows

  pub grown_all : (first : ℕ) (all : Chained) → Grown plan rows (length rows) first all → AreChains plan all
  grown_all first all grown = record {
    forest = grown.forest;
    owned = owned;
    long = grown.long;
    ends = λ number h.
        let at = are.all number (omega (arith, h, length-map plan (λ (s : Named). s.1))) in
        let was = grown.ends at.0 at.1 at.1 in
        subst (λ n. (get_or all.ends n 0 < length all.heads) × (chain_path plan all (get_or all.ends n 0) ≡ choices_at plan n)) at.2 (was.0, was.1 ∙ sym (choices_is (row_at rows at.0).line));
  } where
    owned : (path : List Choice) → path ≢ [] → IsPrefix (choices_of plan) path → (c : ℕ) × Owns plan all c path
    owned path n p =
        let at = prefix_of (choices_of plan) path p in
        let place = are.all at.0 at.1 in
        grown.owned path n (inl (place.0, place.1, place.1, at.2, ap (λ l. get_or (choices_of plan) l []) place.2 ∙ at.3))

-- ---- where the chains of a row end

module _ (plan : List Named) (rows : List Row) (are : AreRows (choices_of plan) rows) where
  pub begin_cut : (k : ℕ) → k < length rows → IsCut (choices_of plan) (take (row_at rows k).common (placed (choices_of plan) rows k))
  begin_cut k h1 = grind (arith, cases_lt, cut_where_parted, ends_there, take_all)

  pub end_cut : (k past : ℕ) → k < length rows → (past ≡ length (placed (choices_of plan) rows k)) ⊎ ((j : ℕ) × (k < j) × (j < length rows) × (common (placed (choices_of plan) rows j) (placed (choices_of plan) rows k) ≡ past)) → IsCut (choices_of plan) (take past (placed (choices_of plan) rows k))
  end_cut k past h2 h3 = grind (arith, ends_there, take_all, cases_lt, cut_where_parted)

  pub inside_cut : (k first past : ℕ) → k < length rows → (row_at rows k).common ≤ first → past ≤ length (placed (choices_of plan) rows k)
      → ((j : ℕ) → k < j → j < length rows → first < common (placed (choices_of plan) rows j) (placed (choices_of plan) rows k) → common (placed (choices_of plan) rows j) (placed (choices_of plan) rows k) < past → ⊥)
      → (n : ℕ) → first < n → n < past → IsCut (choices_of plan) (take n (placed (choices_of plan) rows k)) → ⊥
  inside_cut k first past h low within between n a b cut =
      let at = parted_at_cut (choices_of plan) (row_at rows k).line n (omega (arith, a)) (omega (arith, b, within)) cut in
      let place = are.all at.0 at.1 in
      let e : common (placed (choices_of plan) rows place.0) (placed (choices_of plan) rows k) ≡ n = ap (λ i. common (get_or (choices_of plan) i []) (placed (choices_of plan) rows k)) place.2 ∙ at.2 in
      one place.0 place.1 e (cases_lt place.0 k) (cases_eq place.0 k) where
        one : (j : ℕ) → j < length rows → common (placed (choices_of plan) rows j) (placed (choices_of plan) rows k) ≡ n → (j < k) ⊎ (k ≤ j) → (j ≡ k) ⊎ (j ≢ k) → ⊥
        one j h1 h2 h3 h4 = grind (arith, less_before, common_same)
