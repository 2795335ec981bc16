-- Where the chains of the schedules of a row end.
use Rattle.bx_plan.proofs.Words.{◌≡◌, ◌≢◌, ◌⊎◌, inl, inr, ℕ, zero, suc, ◌+◌, ◌-◌, ◌<◌, ◌≤◌, min, List, [], ◌∷◌, ◌++◌, length, get_or, refl, sym, ap, subst, ◌∙◌, arith, append_assoc, nat_lt, Contains, cases_eq, deepest, Rise, cases_lt}
use Rattle.bx_plan.proofs.Words.{cond_both, ltb-true, ltb-false, Contains-append_cases, Contains-append_left, Contains-append_right, Contains-push_cases, Choice, Row, marked, AllCuts, AreCuts, IsCutBy, common, placed, row_at, AreRows}
use Rattle.std.proofs.lemmas.List.{append-nil}
use Rattle.bx_plan.proofs.Commons.{common_short, common_turned}
use Rattle.bx_plan.proofs.Counting.{before, before_is, passed}

-- ---- depths that rise

pub deepest_push : (m : ℕ) (xs : List ℕ) (x : ℕ) → deepest m (xs ++ x ∷ []) ≡ x
deepest_push m [] x = refl
deepest_push m (y ∷ xs) x = deepest_push y xs x

pub deepest_last : (m : ℕ) (xs : List ℕ) (n d : ℕ) → n + 1 ≡ length xs → get_or xs n d ≡ deepest m xs
deepest_last m [] n d e = absurd (omega (arith, e))
deepest_last m (x ∷ []) zero d e = refl
deepest_last m (x ∷ []) (suc n) d e = absurd (omega (arith, e))
deepest_last m (x ∷ y ∷ xs) zero d e = absurd (omega (arith, e))
deepest_last m (x ∷ y ∷ xs) (suc n) d e = deepest_last x (y ∷ xs) n d (omega (arith, e))

rise_push : (m : ℕ) (xs : List ℕ) (x : ℕ) → Rise m xs → deepest m xs < x → Rise m (xs ++ x ∷ [])
rise_push m [] x r l = (l, tt)
rise_push m (y ∷ xs) x r l = (r.0, rise_push y xs x r.1 l)

pub rise_apart : (m : ℕ) (xs ys : List ℕ) → Rise m (xs ++ ys) → Rise m xs × Rise (deepest m xs) ys
rise_apart m [] ys r = (tt, r)
rise_apart m (x ∷ xs) ys r = let more = rise_apart x xs ys r.1 in ((r.0, more.0), more.1)

rise_far : (m : ℕ) (xs : List ℕ) → Rise m xs → m ≤ deepest m xs
rise_far m [] r = omega arith
rise_far m (x ∷ xs) r = omega (arith, r.0, rise_far x xs r.1)

rise_in : (m : ℕ) (xs : List ℕ) (n : ℕ) → Rise m xs → Contains xs n → (m < n) × (n ≤ deepest m xs)
rise_in m [] n r (i, h, e) = absurd (omega (arith, h))
rise_in m (x ∷ xs) n r (zero, h, e) = (omega (arith, r.0, e), omega (arith, e, rise_far x xs r.1))
rise_in m (x ∷ xs) n r (suc i, h, e) = let rest = rise_in x xs n r.1 (i, omega (arith, h), e) in (omega (arith, r.0, rest.0), rest.1)

deepest_there : (m : ℕ) (xs : List ℕ) → Rise m xs → m < deepest m xs → Contains xs (deepest m xs)
deepest_there m [] r h = absurd (omega (arith, h))
deepest_there m (x ∷ xs) r h = one (deepest_there x xs r.1) (cases_lt x (deepest x xs)) where
  one : (x < deepest x xs → Contains xs (deepest x xs)) → (x < deepest x xs) ⊎ (deepest x xs ≤ x) → Contains (x ∷ xs) (deepest x xs)
  one later (inl l) = Contains-append_right (x ∷ []) xs (deepest x xs) (later l)
  one later (inr l) = (0, omega arith, omega (arith, l, rise_far x xs r.1))

-- ---- one more depth, where it is below all others

module _ (marks : List ℕ) (rise : Rise 0 marks) (d : ℕ) where
  pub marked_rise : Rise 0 (marked marks d)
  marked_rise = cond_both (nat_lt (deepest 0 marks) d) (marks ++ d ∷ []) marks (Rise 0) (λ t. rise_push 0 marks d rise (ltb-true (deepest 0 marks) d t)) (λ f. rise)

  in_marked : (m : ℕ) → Contains (marked marks d) m → Contains marks m ⊎ (d ≡ m)
  in_marked m = cond_both (nat_lt (deepest 0 marks) d) (marks ++ d ∷ []) marks (λ xs. Contains xs m → Contains marks m ⊎ (d ≡ m)) (λ t. Contains-push_cases marks d m) (λ f h. inl h)

  marked_has : (m : ℕ) → Contains marks m → Contains (marked marks d) m
  marked_has m h = cond_both (nat_lt (deepest 0 marks) d) (marks ++ d ∷ []) marks (λ xs. Contains xs m) (λ t. Contains-append_left marks (d ∷ []) m h) (λ f. h)

  module _ (deep : deepest 0 marks ≤ d) where
    marked_top : deepest 0 (marked marks d) ≡ d
    marked_top = cond_both (nat_lt (deepest 0 marks) d) (marks ++ d ∷ []) marks (λ xs. deepest 0 xs ≡ d) (λ t. deepest_push 0 marks d) (λ f. omega (arith, deep, ltb-false (deepest 0 marks) d f))

    marked_itself : 0 < d → Contains (marked marks d) d
    marked_itself some = subst (Contains (marked marks d)) marked_top (deepest_there 0 (marked marks d) marked_rise (omega (arith, some, marked_top)))

-- ---- marks that are taken off

pub record AreTaken (least : ℕ) (all marks cuts done : List ℕ) : Type 0 where
  pub taken : List ℕ
  pub whole : all ≡ marks ++ taken
  pub above : Rise least taken
  pub order : done ≡ taken ++ cuts

pub taken_next : (least mark : ℕ) (all marks rest cuts done more : List ℕ) → Rise 0 all → AreTaken least all marks cuts done → least < mark → marks ≡ rest ++ mark ∷ [] → more ≡ mark ∷ done → AreTaken least all rest cuts more
taken_next least mark all marks rest cuts done more rise is l e f = grind (arith, append_assoc, deepest_push, rise_apart)

-- ---- the marks of schedules

-- where the schedules from a place on part from one before them
pub record AreMarks (schedules : List (List Choice)) (rows : List Row) (s : List Choice) (k : ℕ) (marks : List ℕ) : Type 0 where
  pub rise : Rise 0 marks
  pub each : (m : ℕ) → Contains marks m → (j : ℕ) × (k ≤ j) × (j < length rows) × (common (placed schedules rows j) s ≡ m)
  pub all : (j : ℕ) → k ≤ j → j < length rows → 0 < common (placed schedules rows j) s → Contains marks (common (placed schedules rows j) s)

module _ (schedules : List (List Choice)) (rows : List Row) (are : AreRows schedules rows) where
  module _ (k : ℕ) (h : k < length rows) (marks cuts next done : List ℕ) (is : AreMarks schedules rows (placed schedules rows k) (k + 1) marks)
      (cut : IsCutBy (row_at rows k).common (length (placed schedules rows k)) marks cuts next done) where
    abbrev s : List Choice
    s = placed schedules rows k

    abbrev whole : List ℕ
    whole = marked marks (length s)

    -- what a schedule and this one begin with alike
    abbrev shared : ℕ → ℕ
    shared j = common (placed schedules rows j) s

    abbrev back : ℕ → ℕ
    back j = common (placed schedules rows j) (before schedules rows k)

    deep : deepest 0 marks ≤ length s
    deep = one (cases_lt 0 (deepest 0 marks)) where
      one : (0 < deepest 0 marks) ⊎ (deepest 0 marks ≤ 0) → deepest 0 marks ≤ length s
      one (inl l) = let at = is.each (deepest 0 marks) (deepest_there 0 marks is.rise l) in omega (arith, at.3, (common_short (placed schedules rows at.0) s).1)
      one (inr l) = omega (arith, l)

    rise : Rise 0 (cut.kept ++ cut.taken)
    rise = subst (Rise 0) cut.all (marked_rise marks is.rise (length s))

    shallow : (m : ℕ) → Contains whole m → m ≤ length s
    shallow m c = omega (arith, (rise_in 0 whole m (marked_rise marks is.rise (length s)) c).1, marked_top marks is.rise (length s) deep)

    steps : (first : ℕ) (low high : List ℕ) → whole ≡ low ++ high → Rise 0 low → deepest 0 low ≤ first → Rise first high → first ≤ length s → AreCuts schedules rows k first high
    steps first low [] e r below above short = one (cases_lt first (length s)) where
      one : (first < length s) ⊎ (length s ≤ first) → first ≡ length s
      one (inl l) =
          let last = subst (λ xs. Contains xs (length s)) (e ∙ append-nil low) (marked_itself marks is.rise (length s) deep (omega (arith, l))) in
          absurd (omega (arith, l, below, (rise_in 0 low (length s) r last).1))
      one (inr l) = omega (arith, l, short)
    steps first low (c ∷ high) e r below above short =
        let all : whole ≡ (low ++ c ∷ []) ++ high = e ∙ sym (append_assoc low (c ∷ []) high) in
        let front = (rise_apart 0 (low ++ c ∷ []) high (subst (Rise 0) all (marked_rise marks is.rise (length s)))).0 in
        let rest = steps c (low ++ c ∷ []) high all front (omega (arith, deepest_push 0 low c)) above.1 (shallow c here) in
        (above.0, ends (in_marked marks is.rise (length s) c here), between, rest)
      where
        here : Contains whole c
        here = subst (λ xs. Contains xs c) (sym e) (Contains-append_right low (c ∷ high) c (0, omega arith, refl))

        ends : Contains marks c ⊎ (length s ≡ c) → (c ≡ length s) ⊎ ((j : ℕ) × (k < j) × (j < length rows) × (shared j ≡ c))
        ends (inl m) = let at = is.each c m in inr (at.0, omega (arith, at.1), at.2, at.3)
        ends (inr f) = inl (sym f)

        between : (j : ℕ) → k < j → j < length rows → first < shared j → shared j < c → ⊥
        between j a b p q = one (Contains-append_cases low (c ∷ high) (shared j) (subst (λ xs. Contains xs (shared j)) e (marked_has marks is.rise (length s) (shared j) (is.all j (omega (arith, a)) b (omega (arith, p)))))) where
          one : Contains low (shared j) ⊎ Contains (c ∷ high) (shared j) → ⊥
          one (inl m) = omega (arith, p, below, (rise_in 0 low (shared j) r m).1)
          one (inr (zero, _, f)) = omega (arith, q, f)
          one (inr (suc i, m, f)) = omega (arith, q, (rise_in c high (shared j) above.1 (i, omega (arith, m), f)).0)

    own : back k ≡ (row_at rows k).common
    own = common_turned s (before schedules rows k) ∙ sym (before_is schedules rows are k h)

    short : (row_at rows k).common ≤ length s
    short = omega (arith, before_is schedules rows are k h, (common_short (before schedules rows k) s).1)

    back_is : (j : ℕ) → k < j → j < length rows → back j ≡ min (row_at rows k).common (shared j)
    back_is j a b = omega (arith, common_turned (placed schedules rows j) (before schedules rows k), common_turned (placed schedules rows j) s, passed schedules rows are k j (omega (arith, a)) b)

    kept : Rise 0 cut.kept
    kept = (rise_apart 0 cut.kept cut.taken rise).0

    marks_before : AreMarks schedules rows (before schedules rows k) k next
    marks_before = record { rise = subst (Rise 0) (sym cut.after) (marked_rise cut.kept kept (row_at rows k).common); each = λ m c. one m (in_marked cut.kept kept (row_at rows k).common m (subst (λ xs. Contains xs m) cut.after c)); all = λ j a b c. three j a b c (cases_eq k j) (cases_lt (shared j) (row_at rows k).common) } where
      one : (m : ℕ) → Contains cut.kept m ⊎ ((row_at rows k).common ≡ m) → (j : ℕ) × (k ≤ j) × (j < length rows) × (back j ≡ m)
      one m (inr e) = (k, omega arith, h, own ∙ e)
      one m (inl c) = two (in_marked marks is.rise (length s) m (subst (λ xs. Contains xs m) (sym cut.all) (Contains-append_left cut.kept cut.taken m c))) where
        low : m ≤ (row_at rows k).common
        low = omega (arith, cut.below, (rise_in 0 cut.kept m kept c).1)

        two : Contains marks m ⊎ (length s ≡ m) → (j : ℕ) × (k ≤ j) × (j < length rows) × (back j ≡ m)
        two (inl d) = let at = is.each m d in (at.0, omega (arith, at.1), at.2, omega (arith, at.3, low, back_is at.0 (omega (arith, at.1)) at.2))
        two (inr e) = (k, omega arith, h, omega (arith, e, low, own, short))

      itself : (m : ℕ) → m ≡ (row_at rows k).common → 0 < m → Contains next m
      itself m e some = subst (λ xs. Contains xs m) (sym cut.after) (subst (Contains (marked cut.kept (row_at rows k).common)) (sym e) (marked_itself cut.kept kept (row_at rows k).common cut.below (omega (arith, some, e))))

      three : (j : ℕ) → k ≤ j → j < length rows → 0 < back j → (k ≡ j) ⊎ (k ≢ j) → (shared j < (row_at rows k).common) ⊎ ((row_at rows k).common ≤ shared j) → Contains next (back j)
      three j a b some (inl e) _ = itself (back j) (ap back (sym e) ∙ own) some
      three j a b some (inr n) (inr l) = itself (back j) (omega (arith, l, back_is j (omega (arith, a, n)) b)) some
      three j a b some (inr n) (inl l) = subst (λ xs. Contains xs (back j)) (sym cut.after) (marked_has cut.kept kept (row_at rows k).common (back j) (subst (Contains cut.kept) (sym same) (four (Contains-append_cases cut.kept cut.taken (shared j) (subst (λ xs. Contains xs (shared j)) cut.all (marked_has marks is.rise (length s) (shared j) (is.all j (omega (arith, a, n)) b (omega (arith, some, same))))))))) where
        same : back j ≡ shared j
        same = omega (arith, l, back_is j (omega (arith, a, n)) b)

        four : Contains cut.kept (shared j) ⊎ Contains cut.taken (shared j) → Contains cut.kept (shared j)
        four (inl c) = c
        four (inr c) = absurd (omega (arith, l, (rise_in (row_at rows k).common cut.taken (shared j) cut.above c).0))

    pub cuts_here : (m : ℕ) → AllCuts schedules rows m (k + 1) cuts → AllCuts schedules rows (suc m) k done
    cuts_here m rest = (cut.taken, cuts, steps (row_at rows k).common cut.kept cut.taken cut.all kept cut.below cut.above short, rest, cut.order)

  -- one place more, from the last on
  pub row_before : (n k : ℕ) (marks cuts after done : List ℕ) → n ≡ suc k → n ≤ length rows → AreMarks schedules rows (before schedules rows n) n marks → AllCuts schedules rows (length rows - n) n cuts
      → IsCutBy (row_at rows k).common (length (placed schedules rows k)) marks cuts after done → AreMarks schedules rows (before schedules rows k) k after × AllCuts schedules rows (length rows - k) k done
  row_before n k marks cuts after done e h is rest cut =
      let next : n ≡ k + 1 = omega (arith, e) in
      let low : k < length rows = omega (arith, e, h) in
      let marks_here : AreMarks schedules rows (placed schedules rows k) (k + 1) marks = subst (λ m. AreMarks schedules rows (placed schedules rows k) m marks) next (subst (λ m. AreMarks schedules rows (before schedules rows m) n marks) e is) in
      let cuts_there : AllCuts schedules rows (length rows - n) (k + 1) cuts = subst (λ m. AllCuts schedules rows (length rows - n) m cuts) next rest in
      let count : suc (length rows - n) ≡ length rows - k = omega (arith, e, h) in
      (marks_before k low marks cuts after done marks_here cut, subst (λ m. AllCuts schedules rows m k done) count (cuts_here k low marks cuts after done marks_here cut (length rows - n) cuts_there))

  -- ---- the cuts, taken one after another

  pub cuts_within : (k first : ℕ) (cuts : List ℕ) → AreCuts schedules rows k first cuts → first ≤ length (placed schedules rows k)
  cuts_within k first [] e = omega (arith, e)
  cuts_within k first (c ∷ cuts) (l, _, _, rest) = omega (arith, l, cuts_within k c cuts rest)

  pub no_cuts : (k first : ℕ) (cuts rest all : List ℕ) → AreCuts schedules rows k first cuts → all ≡ cuts ++ rest → length all ≡ 0 → first ≡ length (placed schedules rows k)
  no_cuts k first [] rest all e f z = e
  no_cuts k first (c ∷ cuts) rest all is f z = absurd (omega (arith, ap length f, z))

  pub cuts_over : (k first : ℕ) (cuts rest : List ℕ) → AreCuts schedules rows k first cuts → length (placed schedules rows k) ≤ first → cuts ++ rest ≡ rest
  cuts_over k first [] rest is l = refl
  cuts_over k first (c ∷ cuts) rest (m, _, _, is) l = absurd (omega (arith, l, m, cuts_within k c cuts is))

  -- the next one
  abbrev pub NextCut : ℕ → ℕ → ℕ → List ℕ → List ℕ → Type 0
  NextCut k first past rest left =
      (first < past) × ((past ≡ length (placed schedules rows k)) ⊎ ((j : ℕ) × (k < j) × (j < length rows) × (common (placed schedules rows j) (placed schedules rows k) ≡ past)))
      × ((j : ℕ) → k < j → j < length rows → first < common (placed schedules rows j) (placed schedules rows k) → common (placed schedules rows j) (placed schedules rows k) < past → ⊥)
      × (more : List ℕ) × AreCuts schedules rows k past more × (left ≡ more ++ rest)

  pub next_cut : (k first past : ℕ) (cuts rest left : List ℕ) → first < length (placed schedules rows k) → AreCuts schedules rows k first cuts → past ∷ left ≡ cuts ++ rest → NextCut k first past rest left
  next_cut k first past [] rest left l e f = absurd (omega (arith, l, e))
  next_cut k first past (c ∷ cuts) rest left l (m, at, between, is) f =
      let same : c ≡ past = cc in
      let others : left ≡ cuts ++ rest = cc in
      subst (λ p. NextCut k first p rest left) same (m, at, between, cuts, is, others)
