-- Registers that lie in a row by their numbers: what is read, and what a write makes of their map.
use Rattle.std.proofs.Common.{◌≡◌, ℕ, zero, suc, ◌+◌, ◌<◌, ◌≤◌, ◌≢◌, List, [], ◌∷◌, ◌++◌, length, refl, ap, sym, ◌∙◌, arith, inl, inr, ◌↔◌, get_or, take}
use Rattle.std.proofs.lemmas.List.{take_more, map-append}
use Rattle.bx_terms.specs.Tree.{Tree}
use Rattle.bx_cells.specs.declared.values.Value.TheVariants.{Term}
use Rattle.bx_cells.specs.Held.{all_held}
use Rattle.std.specs.Prelude.{Option, Some, None, slice_set}
use Rattle.std.specs.Ordering.{nat_cmp}
use Rattle.std.specs.Cmp.{nat_cmp_total, unsigned_tied}
use Rattle.std.proofs.lemmas.Option.{slice_get_past}
use Rattle.std.proofs.lemmas.Bool.{cases_eq, cases_lt, eq-eqb, ne_eqb}
use Rattle.bx_share.proofs.Places.{get_set_same, get_set_other}
use Rattle.std.specs.FinMap as map
use Rattle.std.specs.FinMap.{get-insert, get-empty, same_map, nat_cmp-IsAntisymmetric}
use Rattle.bx_cells.specs.Indexed.{indexed, cell_at, held_in}

-- two numbers tie exactly where they are equal
pub put_here : {A : Type 0} (m : map.FinMap nat_cmp A) (n q : ℕ) (v : A) → q ≡ n → map.get (map.insert m n v) q ≡ Some v
put_here m n q v e = rw (get-insert nat_cmp_total m n v q, unsigned_tied q n, eq-eqb q n e)

pub put_elsewhere : {A : Type 0} (m : map.FinMap nat_cmp A) (n q : ℕ) (v : A) → q ≢ n → map.get (map.insert m n v) q ≡ map.get m q
put_elsewhere m n q v e = rw (get-insert nat_cmp_total m n v q, unsigned_tied q n, ne_eqb q n e)

-- a row that begins at n holds nothing below n
below : {A : Type 0} (n : ℕ) (cells : List (Option A)) (q : ℕ) → q < n → map.get (indexed n cells) q ≡ None
below n [] q h = get-empty nat_cmp q
below n (None ∷ cells) q h = below (n + 1) cells q (omega arith)
below n (Some v ∷ cells) q h = put_elsewhere _ n q v (omega arith) ∙ below (n + 1) cells q (omega arith)

pub get_from : {A : Type 0} (n : ℕ) (cells : List (Option A)) (k q : ℕ) → q ≡ n + k → map.get (indexed n cells) q ≡ cell_at cells k
get_from n [] k q e = get-empty nat_cmp q
get_from n (None ∷ cells) zero q e = below (n + 1) cells q (omega arith)
get_from n (None ∷ cells) (suc k) q e = get_from (n + 1) cells k q (omega arith)
get_from n (Some v ∷ cells) zero q e = put_here _ n q v (omega arith)
get_from n (Some v ∷ cells) (suc k) q e = put_elsewhere _ n q v (omega arith) ∙ get_from (n + 1) cells k q (omega arith)

pub get_indexed : {A : Type 0} (cells : List (Option A)) (q : ℕ) → map.get (indexed 0 cells) q ≡ cell_at cells q
get_indexed cells q = get_from 0 cells q q (omega arith)

-- a register that holds nothing more at the end of the row changes nothing
pub indexed_more : {A : Type 0} (n : ℕ) (cells : List (Option A)) → indexed n (cells ++ None ∷ []) ≡ indexed n cells
indexed_more n [] = refl
indexed_more n (None ∷ cells) = indexed_more (n + 1) cells
indexed_more n (Some v ∷ cells) = ap (λ m. map.insert m n v) (indexed_more (n + 1) cells)

-- a write at a register of the row is the map's
pub indexed_set : {A : Type 0} (cells : List (Option A)) (at : ℕ) (v : A) → at < length cells → indexed 0 (slice_set cells at (Some v)) ≡ map.insert (indexed 0 cells) at v
indexed_set cells at v h = same_map nat_cmp_total nat_cmp-IsAntisymmetric _ _ (λ q. elim (cases_eq q at) [
  | inl same ↦ get_indexed _ q ∙ ap (cell_at (slice_set cells at (Some v))) same ∙ ap held_in (get_set_same cells at (Some v) h) ∙ sym (put_here (indexed 0 cells) at q v same)
  | inr other ↦ get_indexed _ q ∙ ap held_in (get_set_other cells at q (Some v) other) ∙ sym (put_elsewhere (indexed 0 cells) at q v other ∙ get_indexed cells q)
])

-- rows that hold the same at each number are the same map, and the other way round
pub indexed_same : {A : Type 0} (xs ys : List (Option A)) → ((k : ℕ) → cell_at xs k ≡ cell_at ys k) ↔ (indexed 0 xs ≡ indexed 0 ys)
indexed_same xs ys = (
  (λ same. same_map nat_cmp_total nat_cmp-IsAntisymmetric _ _ (λ q. get_indexed xs q ∙ same q ∙ sym (get_indexed ys q))),
  (λ same k. sym (get_indexed xs k) ∙ ap (λ m. map.get m k) same ∙ get_indexed ys k),
)

-- nothing stands past a row's end
pub cell_past : {A : Type 0} (cells : List (Option A)) (k : ℕ) → length cells ≤ k → cell_at cells k ≡ None
cell_past cells k h = ap held_in (slice_get_past cells k h)

-- two rows that hold the same below the longer one's end hold the same everywhere
pub same_below : {A : Type 0} (xs ys : List (Option A)) (n : ℕ) → length xs ≤ n → length ys ≤ n → ((k : ℕ) → k < n → cell_at xs k ≡ cell_at ys k) → (k : ℕ) → cell_at xs k ≡ cell_at ys k
same_below xs ys n hx hy same k = elim (cases_lt k n) [ inl lt ↦ same k lt | inr far ↦ cell_past xs k (omega arith) ∙ sym (cell_past ys k (omega arith)) ]

-- a row has no register past its end
pub nothing_past : {A : Type 0} (cells : List (Option A)) (k : ℕ) → length cells ≤ k → map.get (indexed 0 cells) k ≡ None
nothing_past cells k h = get_indexed cells k ∙ cell_past cells k h

-- one term more is one register more
pub all_held_next : (terms : List Tree) (i : ℕ) (d : Tree) → i < length terms → all_held (take (i + 1) terms) ≡ all_held (take i terms) ++ Some (Term (get_or terms i d)) ∷ []
all_held_next terms i d h = ap all_held (take_more terms i d h) ∙ map-append _ (take i terms) (get_or terms i d ∷ [])
