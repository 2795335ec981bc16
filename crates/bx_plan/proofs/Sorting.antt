-- Rows in order, and how two of them are merged.
use Rattle.bx_plan.proofs.Words.{⊎_elim, ◌≡◌, ℕ, zero, suc, ◌+◌, ◌<◌, ◌≤◌, Bool, true, false, cond, List, [], ◌∷◌, ◌++◌, Option, None, Some, length, get_or, refl, sym, ap, subst, ◌∙◌, arith, add-one, nat_eq, common_steps, is_lt}
use Rattle.bx_plan.proofs.Words.{IsStrictWeakOrder, IsSortedBy, ranks_by, sorted_far, sum_by-cons, headed, GoOn, slice_get, Ordering, ordering_reverse, is_gt, cases_lt, eqb-true, eq-eqb, cond-true, lists_total, sum_by-append, Choice}
use Rattle.bx_plan.proofs.Words.{Row, choices_cmp, common, common_before, no_row, placed, row_at, AreRows, at_row, rows_at, AreFrom, AreInOrder, AreMerged, Takes}
use Rattle.bx_plan.specs.Ordered.{Stands, TakesFirst}
use Rattle.bx_plan.proofs.Commons.{common_least, common_turned}
use Rattle.bx_plan.proofs.Ordering.{between, choice_total, more_first}

-- ---- rows without their first, and with another number at their first

pub rows_push : (line : ℕ) (rows : List Row) (row : Row) → rows_at line (rows ++ row ∷ []) ≡ rows_at line rows + rows_at line (row ∷ [])
rows_push line rows row = sum_by-append (λ (r : Row). cond (nat_eq r.line line) 1 0) rows (row ∷ [])

module _ (schedules : List (List Choice)) where
  pub first_stands : (last : List Choice) (rows : List Row) (row : Row) → AreFrom schedules last rows → slice_get rows 0 ≡ Some row → Stands schedules last row
  first_stands last [] row are e = cc
  first_stands last (r ∷ rows) row are e = let same : r ≡ row = cc in subst (Stands schedules last) same are.0

  -- the last schedule of rows, or that one
  abbrev pub last_of : List Choice → List Row → List Choice
  last_of last [] = last
  last_of last (row ∷ rows) = last_of (at_row schedules row) rows

  pub last_push : (last : List Choice) (rows : List Row) (row : Row) → last_of last (rows ++ row ∷ []) ≡ at_row schedules row
  last_push last [] row = refl
  last_push last (r ∷ rows) row = last_push (at_row schedules r) rows row

  pub from_push : (last : List Choice) (rows : List Row) (row : Row) → AreFrom schedules last rows → Stands schedules (last_of last rows) row → AreFrom schedules last (rows ++ row ∷ [])
  from_push last [] row are next = (next, tt)
  from_push last (r ∷ rows) row are next = (are.0, from_push (at_row schedules r) rows row are.1 next)

  -- rows of lines in order, and the last of them
  pub record IsRun (first next : ℕ) (rows : List Row) : Type 0 where
    pub are : AreInOrder schedules first next rows
    pub last : (k : ℕ) → k + 1 ≡ next → last_of [] rows ≡ get_or schedules k []

  pub run_push : (first next : ℕ) (rows : List Row) (row : Row) → AreInOrder schedules first next rows → Stands schedules (last_of [] rows) row → row.line ≡ next → IsRun first (next + 1) (rows ++ row ∷ [])
  run_push first next rows row are stands e = record {
    are = record {
      from = from_push [] rows row are.from stands;
      all = λ line h l. ⊎_elim (λ (low : line < next). omega (arith, rows_push line rows row, are.all line h low)) (λ (high : next ≤ line). omega (arith, rows_push line rows row, here line (omega arith))) (cases_lt line next);
    };
    last = λ k f. last_push [] rows row ∙ ap (λ n. get_or schedules n []) (omega arith);
  } where
    here : (line : ℕ) → row.line ≡ line → rows_at line (row ∷ []) ≡ 1
    here line same = omega (arith, sum_by-cons (λ (r : Row). cond (nat_eq r.line line) 1 0) row [], cond-true {A = ℕ} (nat_eq row.line line) 1 0 (eq-eqb row.line line same))

  -- ---- a row is taken

  pub taken_turned : (xs ys xs_left ys_left : List Row) (o : Option Row) → Takes schedules xs ys xs_left ys_left o → Takes schedules ys xs ys_left xs_left o
  taken_turned xs ys xs_left ys_left o h5 = grind (arith)

  line_first : (xs left : List Row) (row : Row) → xs ≡ row ∷ left → (line : ℕ) → rows_at line xs ≡ rows_at line (row ∷ []) + rows_at line left
  line_first xs left row e line = ap (rows_at line) e ∙ sum_by-append (λ (r : Row). cond (nat_eq r.line line) 1 0) (row ∷ []) left

  -- where there is no other
  pub taken_alone : (xs ys left : List Row) (o : Option Row) → slice_get ys 0 ≡ None → TakesFirst xs left o → Takes schedules xs ys left ys o
  taken_alone xs (y ∷ ys) left o none is = cc
  taken_alone xs [] left None none is = (is.0, refl)
  taken_alone xs [] left (Some row) none is = grind (arith, common_steps, line_first)

  -- it begins with more choices as the last one than the other does
  -- ---- the same by what is taken off the first of both

  opened : (xs left : List Row) (row : Row) (o : Option Row) → slice_get xs 0 ≡ Some row → TakesFirst xs left o → (o ≡ Some row) × (xs ≡ row ∷ left)
  opened xs left row o h4 h5 = grind (arith)

  -- it begins with more choices as the last one than the other does
  pub takes_more : (xs ys left : List Row) (row y : Row) (o : Option Row) → slice_get xs 0 ≡ Some row → slice_get ys 0 ≡ Some y → TakesFirst xs left o → y.common < row.common → Takes schedules xs ys left ys o
  takes_more xs [] left row y o first second is less = cc
  takes_more xs (z ∷ zs) left row y o first second is less =
      let both = opened xs left row o first is in
      let same : z ≡ y = cc in
      subst (Takes schedules xs (z ∷ zs) left (z ∷ zs)) (sym both.0) (record {
        fewer = omega (arith, ap length both.1);
        lines = λ line. omega (arith, line_first xs left row both.1 line);
        order = λ last a b.
            let here = subst (AreFrom schedules last) both.1 a in
            let more = more_first last (at_row schedules row) (at_row schedules z) here.0.behind b.0.behind (omega (arith, less, here.0.common, b.0.common, ap (λ (r : Row). r.common) same)) in
            (here.0, here.1, (record { within = b.0.within; behind = more.0; common = b.0.common ∙ sym more.1 }, b.1));
      })

  -- the other one does not stand before it
  pub takes_level : (xs ys left ys_left : List Row) (row y : Row) (n : ℕ) (o : Option Row) → slice_get xs 0 ≡ Some row → slice_get ys 0 ≡ Some y → TakesFirst xs left o → ys_left ≡ headed n ys
      → is_gt (choices_cmp (at_row schedules row) (at_row schedules y)) ≡ false → n ≡ common (at_row schedules row) (at_row schedules y) → Takes schedules xs ys left ys_left o
  takes_level xs [] left ys_left row y n o first second is rest behind e = cc
  takes_level xs (z ∷ zs) left ys_left row y n o first second is rest behind e = grind (arith, common_steps, opened, line_first)

  pub level_alike : (xs ys : List Row) (row y : Row) → GoOn schedules xs ys → slice_get xs 0 ≡ Some row → slice_get ys 0 ≡ Some y → row.common ≡ y.common → row.common ≤ common (at_row schedules row) (at_row schedules y)
  level_alike xs ys row y next first second level =
      let one = (first_stands next.0 xs row next.1 first).common in
      let other = (first_stands next.0 ys y next.2 second).common in
      common_least (at_row schedules row) next.0 (at_row schedules y) row.common (omega (arith, one, common_turned next.0 (at_row schedules row))) (omega (arith, other, level))

  -- ---- rows of all lines

  -- the rows of two rows of lines
  pub both_orders : (first middle past : ℕ) (xs ys rows : List Row) → AreInOrder schedules first middle xs → AreInOrder schedules middle past ys → AreMerged schedules xs ys rows → AreInOrder schedules first past rows
  both_orders first middle past xs ys rows one other is = record {
    from = is.from;
    all = λ line h l. ⊎_elim (λ (low : line < middle). omega (arith, is.lines line, one.all line h low)) (λ (high : middle ≤ line). omega (arith, is.lines line, other.all line high l)) (cases_lt line middle);
  }

  abbrev stands_first : Row → Row → Bool
  stands_first x y = is_lt (choices_cmp (at_row schedules x) (at_row schedules y))

  ranked : IsStrictWeakOrder stands_first
  ranked = ranks_by (lists_total choice_total) (at_row schedules)

  flipped : (o p : Ordering) → o ≡ ordering_reverse p → is_gt p ≡ false → is_lt o ≡ false
  flipped o p e h = grind arith

  flipped_back : (o p : Ordering) → o ≡ ordering_reverse p → is_lt p ≡ false → is_gt o ≡ false
  flipped_back o p e h = grind arith

  pub stands_at : (last : List Choice) (rows : List Row) → AreFrom schedules last rows → (k : ℕ) (d : Row) → k < length rows → (get_or rows k d).line < length schedules
  stands_at last [] are k d h = absurd (omega (arith, h))
  stands_at last (row ∷ rows) are zero d h = are.0.within
  stands_at last (row ∷ rows) are (suc k) d h = stands_at (at_row schedules row) rows are.1 k d (omega (arith, h))

  adjacent : (last : List Choice) (rows : List Row) → AreFrom schedules last rows → (k : ℕ) (d : Row) → suc k < length rows → Stands schedules (at_row schedules (get_or rows k d)) (get_or rows (suc k) d)
  adjacent last [] are k d h = absurd (omega (arith, h))
  adjacent last (row ∷ []) are k d h = absurd (omega (arith, h))
  adjacent last (row ∷ next ∷ rows) are zero d h = are.1.0
  adjacent last (row ∷ next ∷ rows) are (suc k) d h = adjacent (at_row schedules row) (next ∷ rows) are.1 k d (omega (arith, h))

  found : (line : ℕ) (rows : List Row) → 0 < rows_at line rows → (k : ℕ) × (k < length rows) × ((row_at rows k).line ≡ line)
  found line [] some = absurd (omega (arith, some))
  found line (row ∷ rows) some = one (nat_eq row.line line) refl (omega (arith, some, sum_by-cons (λ (r : Row). cond (nat_eq r.line line) 1 0) row rows)) (found line rows) where
    one : (b : Bool) → nat_eq row.line line ≡ b → 0 < cond b 1 0 + rows_at line rows → (0 < rows_at line rows → (k : ℕ) × (k < length rows) × ((row_at rows k).line ≡ line))
        → (k : ℕ) × (k < suc (length rows)) × ((row_at (row ∷ rows) k).line ≡ line)
    one true t some later = (0, omega arith, eqb-true row.line line t)
    one false f some later = let rest = later (omega (arith, some)) in (suc rest.0, omega (arith, rest.1), rest.2)

  module _ (rows : List Row) (is : AreInOrder schedules 0 (length schedules) rows) where
    stands_next : (k : ℕ) (d : Row) → k + 1 < length rows → is_gt (choices_cmp (at_row schedules (get_or rows k d)) (at_row schedules (get_or rows (k + 1) d))) ≡ false
    stands_next k d h = rw add-one (adjacent [] rows is.from k d (omega (arith, h))).behind

    sorted : IsSortedBy stands_first rows
    sorted = λ k d low h. flipped _ _ ((lists_total choice_total).antisymm (at_row schedules (get_or rows (k + 1) d)) (at_row schedules (get_or rows k d))) (stands_next k d h)

    behind : (i j : ℕ) → i ≤ j → j < length rows → is_gt (choices_cmp (placed schedules rows i) (placed schedules rows j)) ≡ false
    behind i j a h = flipped_back _ _ ((lists_total choice_total).antisymm (placed schedules rows i) (placed schedules rows j)) (sorted_far stands_first ranked rows sorted i j no_row a h)

    commons : (k : ℕ) → k < length rows → (row_at rows k).common ≡ common_before schedules rows k
    commons k h1 = grind (arith, common_steps, adjacent)

    pub rows_are : AreRows schedules rows
    rows_are = record {
      within = λ k h. stands_at [] rows is.from k no_row h;
      all = λ i h. found i rows (is.all i (omega arith) h);
      gathered = λ i j k a b h. between (placed schedules rows i) (placed schedules rows j) (placed schedules rows k) (behind i j a (omega arith)) (behind j k b h);
      commons = commons;
    }
