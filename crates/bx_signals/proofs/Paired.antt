-- The pairs of the channels in which something waits, as they are found one after the other.
use Rattle.std.proofs.Common.{◌≡◌, ◌≢◌, ℕ, ◌+◌, ◌<◌, ◌≤◌, List, [], ◌∷◌, ◌++◌, length, get_or, drop, Result, Ok, Err, refl, ap, arith}
use Rattle.std.proofs.lemmas.List.{length-append, nil_from_length}
use Rattle.std.specs.Prelude.{OnErr}
use Rattle.bx_share.specs.Rows.{rest_at}
use Rattle.bx_signals.specs.Rows.{Row, pair_if, row_pairs, rows_pairs}

pub on_err : {A E : Type 0} (r : Result A E) (P : Type 0) → P → OnErr r P
on_err (Ok x) P p = tt
on_err (Err e) P p = p

-- what goes on behind what was there is not nothing
pub goes_on : {A : Type 0} (old all done rest : List A) (x : A) → length old ≤ length done → done ++ x ∷ rest ≡ old ++ all → all ≢ []
goes_on old all done rest x longer is none = omega (arith, ap length is, length-append done (x ∷ rest), length-append old all, ap length none, longer)

module _ {S : Type 0} where
  pair_some : (p q : ℕ) (ss : List S) → ss ≢ [] → pair_if p q ss ≡ (p, q) ∷ []
  pair_some p q [] some = absurd (some refl)
  pair_some p q (s ∷ ss) some = refl

  -- a queue in which something waits
  pub pair_found : (p at : ℕ) (row : Row S) (line : ℕ × List S) (done all : List (ℕ × ℕ)) → at < length row → line ≡ get_or row at line → line.1 ≢ [] → done ++ row_pairs p (drop at row) ≡ all
      → done ++ (p, line.0) ∷ row_pairs p (drop (at + 1) row) ≡ all
  pair_found p at row line done all here is some whole = rw (rest_at row at line here is, pair_some p line.0 line.1 some) at whole

  -- where a row has some, there are some
  pub row_some : (at : ℕ) (rows : List (Row S)) (row : Row S) (old done all : List (ℕ × ℕ)) → at < length rows → row ≡ get_or rows at row → row_pairs at row ≢ []
      → length old ≤ length done → done ++ rows_pairs at (drop at rows) ≡ old ++ all → all ≢ []
  row_some at rows row old done all here is some longer whole none =
      let left = rows_pairs (at + 1) (drop (at + 1) rows) in
      let parts = ap length (rw (rest_at rows at row here is) at whole) in
      some (nil_from_length _ (omega (arith, longer, parts, length-append done (row_pairs at row ++ left), length-append (row_pairs at row) left, length-append old all, ap length none)))
