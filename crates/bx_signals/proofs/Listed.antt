-- The channels of rows, listed by rising pair.
use Rattle.std.proofs.Common.{suc, ◌≡◌, ℕ, ◌+◌, ◌<◌, List, [], ◌∷◌, ◌++◌, refl, sym, ap, ◌∙◌, append_assoc, arith, length}
use Rattle.std.specs.declared.cmp.Ordering.TheVariants.{Less}
use Rattle.std.specs.FinMap as map
use Rattle.std.specs.FinMap.Entries.{put, by_order}
use Rattle.std.specs.Prelude.{map as list_map}
use Rattle.std.proofs.lemmas.List.{map-append, nil_from_length}
use Rattle.std.proofs.lemmas.Bool.Decides.{nat_tests}
use Rattle.std.specs.FinMap.{entries-insert, len-entries, len-empty}
use Rattle.bx_signals.specs.Channels.{pair_cmp, Channels, waiting, with_waiting, pairs}
use Rattle.bx_signals.specs.Rows.{Row, to_at, IsRising, AllRising, row_map, rows_map, pair_if, row_pairs, rows_pairs}
use Rattle.bx_signals.proofs.Maps.{pair_cmp_total, with_own, apart_below, rows_below}

-- the key of a channel, and what waits there
abbrev pub Entry : Type 0 → Type 0
Entry S = (ℕ × ℕ) × (S × List S)

-- the first key, where there is one, is above k
abbrev Above : {S : Type 0} → ℕ × ℕ → List (Entry S) → Type 0
Above k [] = Unit {0}
Above k (e ∷ es) = pair_cmp k e.0 ≡ Less

module _ {S : Type 0} where
  abbrev pub entry_if : ℕ → ℕ → List S → List (Entry S)
  entry_if p q [] = []
  entry_if p q (s ∷ ss) = ((p, q), (s, ss)) ∷ []

  abbrev pub row_entries : ℕ → Row S → List (Entry S)
  row_entries p [] = []
  row_entries p (line ∷ more) = entry_if p line.0 line.1 ++ row_entries p more

  abbrev pub rows_entries : ℕ → List (Row S) → List (Entry S)
  rows_entries p [] = []
  rows_entries p (row ∷ rows) = row_entries p row ++ rows_entries (p + 1) rows

  put_first : (k : ℕ × ℕ) (v : S × List S) (es : List (Entry S)) → Above k es → put pair_cmp k v es ≡ (k, v) ∷ es
  put_first k v [] a = refl
  put_first k v (e ∷ es) a = ap (λ o. by_order o ((k, v) ∷ e ∷ es) ((e.0, v) ∷ es) (e ∷ put pair_cmp k v es)) a

  above_entry : (p n r q : ℕ) (ss : List S) (es : List (Entry S)) → pair_cmp (p, n) (r, q) ≡ Less → Above (p, n) es → Above (p, n) (entry_if r q ss ++ es)
  above_entry p n r q [] es less a = a
  above_entry p n r q (s ∷ ss) es less a = less

  above_row : (p n r : ℕ) (row : Row S) (es : List (Entry S)) → ((k : ℕ) → k < length row → pair_cmp (p, n) (r, to_at row k) ≡ Less) → Above (p, n) es → Above (p, n) (row_entries r row ++ es)
  above_row p n r [] es less a = a
  above_row p n r (line ∷ row) es less a =
      rw (append_assoc (entry_if r line.0 line.1) (row_entries r row) es)
      (above_entry p n r line.0 line.1 (row_entries r row ++ es) (less 0 (omega arith)) (above_row p n r row es (λ k here. less (suc k) (omega (arith, here))) a))

  above_rows : (p n r : ℕ) (rows : List (Row S)) → p < r → Above (p, n) (rows_entries r rows)
  above_rows p n r [] h = tt
  above_rows p n r (row ∷ rows) h = above_row p n r row (rows_entries (r + 1) rows) (λ k here. grind (arith, nat_tests)) (above_rows p n (r + 1) rows (omega (arith, h)))

  -- what waits to receivers below those of a row
  row_below : (p : ℕ) (row : Row S) (m : Channels S) (q : ℕ) → ((k : ℕ) → k < length row → q < to_at row k) → waiting m (p, q) ≡ [] → waiting (row_map p row m) (p, q) ≡ []
  row_below p [] m q over none = none
  row_below p (line ∷ row) m q over none =
      apart_below p line.0 q line.1 (row_map p row m) (over 0 (omega arith)) ∙ row_below p row m q (λ k here. over (suc k) (omega (arith, here))) none

  one_listed : (p q : ℕ) (ss : List S) (m : Channels S) (es : List (Entry S)) → map.entries m ≡ es → Above (p, q) es → waiting m (p, q) ≡ [] → map.entries (with_waiting (p, q) ss m) ≡ entry_if p q ss ++ es
  one_listed p q [] m es is above none = ap map.entries (ap (λ ss. with_waiting (p, q) ss m) (sym none) ∙ with_own (p, q) m) ∙ is
  one_listed p q (s ∷ ss) m es is above none = entries-insert pair_cmp_total m (p, q) (s, ss) ∙ ap (put pair_cmp (p, q) (s, ss)) is ∙ put_first (p, q) (s, ss) es above

  -- the entries of a row before those of the rows behind
  row_listed : (p : ℕ) (row : Row S) (m : Channels S) (es : List (Entry S)) → IsRising row → map.entries m ≡ es → ((k : ℕ) → Above (p, k) es) → ((k : ℕ) → waiting m (p, k) ≡ [])
      → map.entries (row_map p row m) ≡ row_entries p row ++ es
  row_listed p [] m es rising is above none = is
  row_listed p (line ∷ row) m es rising is above none =
      let over : (k : ℕ) → k < length row → line.0 < to_at row k = λ k here. rising 0 (suc k) (omega arith) (omega (arith, here)) in
      let rest = row_listed p row m es (λ j k lt here. rising (suc j) (suc k) (omega (arith, lt)) (omega (arith, here))) is above none in
      one_listed p line.0 line.1 (row_map p row m) (row_entries p row ++ es) rest
      (above_row p line.0 p row es (λ k here. let lt = over k here in grind (arith, nat_tests)) (above line.0)) (row_below p row m line.0 over (none line.0))
      ∙ sym (append_assoc (entry_if p line.0 line.1) (row_entries p row) es)

  -- the channels of rows are listed by rising pair
  pub rows_listed : (p : ℕ) (rows : List (Row S)) → AllRising rows → map.entries (rows_map p rows) ≡ rows_entries p rows
  rows_listed p [] rising = nil_from_length _ (sym (len-entries map.empty) ∙ len-empty pair_cmp (S × List S))
  rows_listed p (row ∷ rows) rising =
      row_listed p row (rows_map (p + 1) rows) (rows_entries (p + 1) rows) (rising 0 (omega arith)) (rows_listed (p + 1) rows (λ r here. rising (suc r) (omega (arith, here))))
      (λ k. above_rows p k (p + 1) rows (omega arith)) (λ k. rows_below (p + 1) rows p k (omega arith))

  -- and so are their pairs
  entry_pair : (p q : ℕ) (ss : List S) → list_map (λ (e : Entry S). e.0) (entry_if p q ss) ≡ pair_if p q ss
  entry_pair p q [] = refl
  entry_pair p q (s ∷ ss) = refl

  row_paired : (p : ℕ) (row : Row S) → list_map (λ (e : Entry S). e.0) (row_entries p row) ≡ row_pairs p row
  row_paired p [] = refl
  row_paired p (line ∷ row) =
      map-append (λ (e : Entry S). e.0) (entry_if p line.0 line.1) (row_entries p row) ∙ (λ i. entry_pair p line.0 line.1 i ++ row_paired p row i)

  rows_paired : (p : ℕ) (rows : List (Row S)) → list_map (λ (e : Entry S). e.0) (rows_entries p rows) ≡ rows_pairs p rows
  rows_paired p [] = refl
  rows_paired p (row ∷ rows) =
      map-append (λ (e : Entry S). e.0) (row_entries p row) (rows_entries (p + 1) rows) ∙ (λ i. row_paired p row i ++ rows_paired (p + 1) rows i)

  pub pairs_listed : (rows : List (Row S)) → AllRising rows → pairs (rows_map 0 rows) ≡ rows_pairs 0 rows
  pairs_listed rows rising = ap (list_map (λ (e : Entry S). e.0)) (rows_listed 0 rows rising) ∙ rows_paired 0 rows
