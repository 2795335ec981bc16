-- Rows of queues, seen as channels.
use Rattle.std.proofs.Common.{◌≡◌, ◌≢◌, ℕ, zero, suc, ◌+◌, ◌-◌, ◌==◌, ◌<◌, ◌≤◌, List, [], ◌∷◌, ◌++◌, length, take, get_or, true, cond, refl, sym, ap, ◌∙◌, arith}
use Rattle.std.specs.Prelude.{Option, Some, None, slice_set, ◌&&◌}
use Rattle.std.specs.Ordering.{nat_cmp, eq_by_cmp, is_eq}
use Rattle.std.specs.Cmp.{IsTotalOrder, nat_cmp_total, on_total, then_total, unsigned_tied, tied_then}
use Rattle.std.specs.FinMap as map
use Rattle.std.specs.FinMap.{get-insert, get-remove, get-empty, same_map, IsAntisymmetric}
use Rattle.std.proofs.lemmas.Bool.{and_parts}
use Rattle.std.proofs.lemmas.Bool.Decides.{nat_tests, Decides-eqb}
use Rattle.std.proofs.lemmas.List.{length-append, take_at, take_more}
use Rattle.std.proofs.lemmas.Option.{slice_get_past, slice_get_read}
use Rattle.bx_share.proofs.Places.{get_set_same, get_set_other}
use Rattle.bx_signals.specs.Waiting.{front}
use Rattle.bx_signals.specs.Channels.{pair_cmp, Channels, in_order, waiting, with_waiting, put, taken_back, put_to_all, taken_back_all}
use Rattle.bx_signals.specs.Rows.{Row, AllRising, CoversAll, or_empty, queue_in, queue_at, row_map, rows_map, Replaced, SameRow}

pub pair_cmp_total : IsTotalOrder pair_cmp
pair_cmp_total = then_total (on_total (λ (r : ℕ × ℕ). r.0) nat_cmp_total) (on_total (λ (r : ℕ × ℕ). r.1) nat_cmp_total)

-- two pairs tie where both numbers are equal
pub tied : (x y : ℕ × ℕ) → eq_by_cmp pair_cmp x y ≡ ((x.0 == y.0) && (x.1 == y.1))
tied x y = sym (tied_then (nat_cmp x.0 y.0) (nat_cmp x.1 y.1)) ∙ (λ i. unsigned_tied x.0 y.0 i && unsigned_tied x.1 y.1 i)

pub equal_pair : (r k : ℕ × ℕ) → ((r.0 == k.0) && (r.1 == k.1)) ≡ true → r ≡ k
equal_pair r k e = let parts = and_parts (r.0 == k.0) (r.1 == k.1) e in λ i. ((Decides-eqb r.0 k.0).0 parts.0 i, (Decides-eqb r.1 k.1).0 parts.1 i)

pair_cmp-IsAntisymmetric : IsAntisymmetric pair_cmp
pair_cmp-IsAntisymmetric x y e = equal_pair x y (sym (tied x y) ∙ ap is_eq e)

module _ {S : Type 0} where
  -- what waits in a channel after a change of one
  pub waiting_with : (k : ℕ × ℕ) (ss : List S) (m : Channels S) (r : ℕ × ℕ) → waiting (with_waiting k ss m) r ≡ cond ((r.0 == k.0) && (r.1 == k.1)) ss (waiting m r)
  waiting_with k [] m r = rw (get-remove pair_cmp_total m k r, tied r k) (grind arith)
  waiting_with k (s ∷ ss) m r = rw (get-insert pair_cmp_total m k (s, ss) r, tied r k) (grind arith)

  pub waiting_empty : (r : ℕ × ℕ) → waiting (map.empty {X = S × List S} {R = pair_cmp}) r ≡ []
  waiting_empty r = ap in_order (get-empty {X = S × List S} pair_cmp r)

  abbrev parted : List S → Option (S × List S)
  parted [] = None
  parted (s ∷ ss) = Some (s, ss)

  part_again : (o : Option (S × List S)) → parted (in_order o) ≡ o
  part_again None = refl
  part_again (Some ss) = refl

  -- channels in which the same signals wait are the same
  pub same_channels : (m n : Channels S) → ((r : ℕ × ℕ) → waiting m r ≡ waiting n r) → m ≡ n
  same_channels m n same = same_map pair_cmp_total pair_cmp-IsAntisymmetric m n (λ r. sym (part_again (map.get m r)) ∙ ap parted (same r) ∙ part_again (map.get n r))

  pub waiting_same : (p q : ℕ) (ss : List S) (m : Channels S) → waiting (with_waiting (p, q) ss m) (p, q) ≡ ss
  waiting_same p q ss m = let with_it = waiting_with (p, q) ss m (p, q) in grind (arith, nat_tests)

  -- the later change counts
  with_with : (k : ℕ × ℕ) (xs ys : List S) (m : Channels S) → with_waiting k xs (with_waiting k ys m) ≡ with_waiting k xs m
  with_with k xs ys m = same_channels _ _ (λ r. rw (waiting_with k xs (with_waiting k ys m) r, waiting_with k ys m r, waiting_with k xs m r) (grind arith))

  -- what waits, put there again
  pub with_own : (k : ℕ × ℕ) (m : Channels S) → with_waiting k (waiting m k) m ≡ m
  with_own k m = same_channels _ _ (λ r. let same = equal_pair r k in rw (waiting_with k (waiting m k) m r) (grind arith))

  -- what was put last is taken back
  pub taken_back_put : (p q : ℕ) (s : S) (m : Channels S) → taken_back (p, q) (put (p, q) s m) ≡ m
  taken_back_put p q s m =
      let all : List S = waiting m (p, q) ++ s ∷ [] in
      rw (waiting_same p q all m, with_with (p, q) (front all) all m, take_at (waiting m (p, q)) (s ∷ []) (length all - 1) (omega (arith, length-append (waiting m (p, q)) (s ∷ [])))) (with_own (p, q) m)

  -- a change of another channel
  pub apart_below : (p n q : ℕ) (ss : List S) (m : Channels S) → q < n → waiting (with_waiting (p, n) ss m) (p, q) ≡ waiting m (p, q)
  apart_below p n q ss m h = let with_it = waiting_with (p, n) ss m (p, q) in grind (arith, nat_tests)

  row_else : (p : ℕ) (row : Row S) (m : Channels S) (a b : ℕ) → a ≢ p → waiting (row_map p row m) (a, b) ≡ waiting m (a, b)
  row_else p [] m a b e = refl
  row_else p (line ∷ row) m a b e = grind (arith, nat_tests, waiting_with (p, line.0) line.1 (row_map p row m) (a, b), row_else p row m a b e)

  row_here : (p : ℕ) (row : Row S) (m : Channels S) (a b : ℕ) → a ≡ p → waiting m (a, b) ≡ [] → waiting (row_map p row m) (a, b) ≡ queue_in row b
  row_here p [] m a b e none = none
  row_here p (line ∷ row) m a b e none = grind (arith, nat_tests, waiting_with (p, line.0) line.1 (row_map p row m) (a, b), row_here p row m a b e none)

  pub rows_below : (p : ℕ) (rows : List (Row S)) (a b : ℕ) → a < p → waiting (rows_map p rows) (a, b) ≡ []
  rows_below p [] a b h = waiting_empty (a, b)
  rows_below p (row ∷ rows) a b h = row_else p row _ a b (omega arith) ∙ rows_below (p + 1) rows a b (omega arith)

  rows_here : (p : ℕ) (rows : List (Row S)) (a b k : ℕ) → a ≡ p + k → waiting (rows_map p rows) (a, b) ≡ queue_at rows k b
  rows_here p [] a b k e = waiting_empty (a, b)
  rows_here p (row ∷ rows) a b zero e = row_here p row _ a b (omega arith) (rows_below (p + 1) rows a b (omega arith))
  rows_here p (row ∷ rows) a b (suc k) e = row_else p row _ a b (omega arith) ∙ rows_here (p + 1) rows a b k (omega arith)

  -- what waits from p to q is the queue of q in the row of p
  pub waiting_rows : (rows : List (Row S)) (p q : ℕ) → waiting (rows_map 0 rows) (p, q) ≡ queue_at rows p q
  waiting_rows rows p q = rows_here 0 rows p q p (omega arith)

  -- a row without queues more at the end changes nothing
  pub rows_more : (p : ℕ) (rows : List (Row S)) → rows_map p (rows ++ [] ∷ []) ≡ rows_map p rows
  rows_more p [] = refl
  rows_more p (row ∷ rows) = ap (row_map p row) (rows_more (p + 1) rows)

  pub row_waits : (rows : List (Row S)) (p q : ℕ) (row : Row S) → p < length rows → row ≡ get_or rows p row → waiting (rows_map 0 rows) (p, q) ≡ queue_in row q
  row_waits rows p q row here is = waiting_rows rows p q ∙ ap (λ o. queue_in (or_empty o) q) (slice_get_read rows (length rows) p row refl here is)

  -- what waits where a row is replaced
  waiting_set : (rows : List (Row S)) (p : ℕ) (row' : Row S) (r : ℕ × ℕ) → p < length rows → waiting (rows_map 0 (slice_set rows p row')) r ≡ cond (r.0 == p) (queue_in row' r.1) (waiting (rows_map 0 rows) r)
  waiting_set rows p row' r here =
      rw (waiting_rows (slice_set rows p row') r.0 r.1, waiting_rows rows r.0 r.1) (grind (arith, nat_tests, get_set_same rows p row' here, get_set_other rows p r.0 row'))

  -- a row is replaced by one in which only the queue at q is another, made of what waited
  pub set_row_by : (rows : List (Row S)) (p q : ℕ) (row row' : Row S) (f : List S → List S) → p < length rows → row ≡ get_or rows p row → Replaced row row' q (f (queue_in row q))
      → rows_map 0 (slice_set rows p row') ≡ with_waiting (p, q) (f (waiting (rows_map 0 rows) (p, q))) (rows_map 0 rows)
  set_row_by rows p q row row' f here is new = rw (row_waits rows p q row here is) (same_channels _ _ (λ r.
      let own = row_waits rows p r.1 row here is in
      rw (waiting_set rows p row' r here, waiting_with (p, q) (f (queue_in row q)) (rows_map 0 rows) r) (grind (arith, nat_tests, new r.1))))

  -- a row with the same queues
  pub set_same_row : (rows : List (Row S)) (p : ℕ) (row row' : Row S) → p < length rows → row ≡ get_or rows p row → SameRow row row' → rows_map 0 (slice_set rows p row') ≡ rows_map 0 rows
  set_same_row rows p row row' here is same = same_channels _ _ (λ r. let own = row_waits rows p r.1 row here is in rw (waiting_set rows p row' r here) (grind (arith, nat_tests, same r.1)))

  -- nothing waits from a process that has no row
  pub nothing_waits : (rows : List (Row S)) (p q : ℕ) → length rows ≤ p → waiting (rows_map 0 rows) (p, q) ≡ []
  nothing_waits rows p q h = rw (waiting_rows rows p q, slice_get_past rows p h)

  pub nothing_changed : (rows : List (Row S)) (p q : ℕ) (f : List S → List S) → length rows ≤ p → f [] ≡ [] → rows_map 0 rows ≡ with_waiting (p, q) (f (waiting (rows_map 0 rows) (p, q))) (rows_map 0 rows)
  nothing_changed rows p q f h none =
      let empty = nothing_waits rows p q h in sym (ap (λ ss. with_waiting (p, q) ss (rows_map 0 rows)) (ap f empty ∙ none ∙ sym empty) ∙ with_own (p, q) (rows_map 0 rows))

  -- one receiver more
  put_one_more : (p q : ℕ) (qs : List ℕ) (s : S) (m : Channels S) → put_to_all p (qs ++ q ∷ []) s m ≡ put (p, q) s (put_to_all p qs s m)
  put_one_more p q [] s m = refl
  put_one_more p q (x ∷ qs) s m = put_one_more p q qs s (put (p, x) s m)

  pub put_further : (p : ℕ) (qs : List ℕ) (i q : ℕ) (s : S) (m new : Channels S) → i < length qs → q ≡ get_or qs i 0 → new ≡ put (p, q) s (put_to_all p (take i qs) s m) → new ≡ put_to_all p (take (i + 1) qs) s m
  put_further p qs i q s m new h at is = rw (take_more qs i 0 h, ← at, put_one_more p q (take i qs) s m) is

  -- what was put to all of these is taken back from all of them
  pub all_taken_back : (p : ℕ) (qs : List ℕ) (s : S) (m : Channels S) → taken_back_all p qs (put_to_all p qs s m) ≡ m
  all_taken_back p [] s m = refl
  all_taken_back p (q ∷ qs) s m = ap (taken_back (p, q)) (all_taken_back p qs s (put (p, q) s m)) ∙ taken_back_put p q s m

  pub rising_more : (rows : List (Row S)) → AllRising rows → AllRising (rows ++ [] ∷ [])
  rising_more [] rising zero here = λ j k lt there. absurd (omega (arith, there))
  rising_more [] rising (suc p) here = absurd (omega (arith, here))
  rising_more (row ∷ rows) rising zero here = rising zero (omega arith)
  rising_more (row ∷ rows) rising (suc p) here = rising_more rows (λ j there. rising (suc j) (omega (arith, there))) p (omega (arith, here))

  -- channels that cover one another are the same
  covered : (xs ys : List S) → (xs ≢ [] → ys ≡ xs) → (ys ≢ [] → xs ≡ ys) → xs ≡ ys
  covered [] [] f g = refl
  covered [] (y ∷ ys) f g = g (λ e. cc)
  covered (x ∷ xs) ys f g = sym (f (λ e. cc))

  pub covers_both : (xs ys : List (Row S)) → CoversAll xs ys → CoversAll ys xs → rows_map 0 xs ≡ rows_map 0 ys
  covers_both xs ys f g = same_channels _ _ (λ r. waiting_rows xs r.0 r.1 ∙ covered (queue_at xs r.0 r.1) (queue_at ys r.0 r.1) (f r.0 r.1) (g r.0 r.1) ∙ sym (waiting_rows ys r.0 r.1))

  pub covers_same : (xs ys : List (Row S)) → rows_map 0 xs ≡ rows_map 0 ys → CoversAll xs ys
  covers_same xs ys e p q some = sym (waiting_rows ys p q) ∙ sym (ap (λ m. waiting m (p, q)) e) ∙ waiting_rows xs p q
