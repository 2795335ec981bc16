-- The registers that hold something, listed by rising number.
use Rattle.std.proofs.Common.{◌≡◌, ℕ, ◌+◌, ◌<◌, ◌≤◌, List, [], ◌∷◌, length, refl, ap, sym, ◌∙◌, arith}
use Rattle.std.specs.Prelude.{Option, Some, None}
use Rattle.std.specs.declared.cmp.Ordering.TheVariants.{Less}
use Rattle.std.specs.Ordering.{nat_cmp}
use Rattle.std.specs.Cmp.{nat_cmp_total}
use Rattle.std.specs.FinMap as map
use Rattle.std.specs.FinMap.{entries-insert, len-entries, len-empty}
use Rattle.std.specs.FinMap.Entries.{put, by_order}
use Rattle.std.proofs.lemmas.Bool.Decides.{nat_tests}
use Rattle.std.proofs.lemmas.List.{nil_from_length}
use Rattle.bx_cells.specs.Indexed.{indexed, listed}

-- the first number, where there is one, is above k
abbrev Above : {A : Type 0} → ℕ → List (ℕ × A) → Type 0
Above k [] = Unit {0}
Above k (e ∷ es) = k < e.0

above_row : {A : Type 0} (k n : ℕ) (cells : List (Option A)) → k < n → Above k (listed n cells)
above_row k n [] h = tt
above_row k n (None ∷ cells) h = above_row k (n + 1) cells (omega arith)
above_row k n (Some v ∷ cells) h = h

put_first : {A : Type 0} (k : ℕ) (v : A) (es : List (ℕ × A)) → Above k es → put nat_cmp k v es ≡ (k, v) ∷ es
put_first k v [] a = refl
put_first k v (e ∷ es) a = let less : nat_cmp k e.0 ≡ Less = grind (arith, nat_tests) in ap (λ o. by_order o ((k, v) ∷ e ∷ es) ((e.0, v) ∷ es) (e ∷ put nat_cmp k v es)) less

pub entries_listed : {A : Type 0} (n : ℕ) (cells : List (Option A)) → map.entries (indexed n cells) ≡ listed n cells
entries_listed {A} n [] = nil_from_length _ (sym (len-entries map.empty) ∙ len-empty nat_cmp A)
entries_listed n (None ∷ cells) = entries_listed (n + 1) cells
entries_listed n (Some v ∷ cells) =
    entries-insert nat_cmp_total (indexed (n + 1) cells) n v ∙ ap (put nat_cmp n v) (entries_listed (n + 1) cells)
    ∙ put_first n v (listed (n + 1) cells) (above_row n (n + 1) cells (omega arith))

-- no more are listed than lie in the row
listed_within : {A : Type 0} (n : ℕ) (cells : List (Option A)) → length (listed n cells) ≤ length cells
listed_within n [] = omega arith
listed_within n (None ∷ cells) = omega (arith, listed_within (n + 1) cells)
listed_within n (Some v ∷ cells) = omega (arith, listed_within (n + 1) cells)

pub within_row : {A : Type 0} (cells : List (Option A)) → length (map.entries (indexed 0 cells)) ≤ length cells
within_row cells = omega (arith, listed_within 0 cells, ap length (entries_listed 0 cells))
