-- Frames in a row, the topmost last, and the registers of one frame.
use Rattle.std.proofs.Common.{◌≡◌, ℕ, ◌+◌, ◌<◌, List, [], ◌∷◌, length, get_or, take, drop, reverse, ap, sym, ◌∙◌, arith, add-one, drop-cons}
use Rattle.std.proofs.lemmas.List.{take_more, take_all, reverse-append}
use Rattle.std.specs.Prelude.{Option}
use Rattle.bx_cells.specs.declared.values.Value.{Value}
use Rattle.bx_cells.specs.Stack.{lowest_tag}

-- what is left of a row begins with its element at that place
pub lowest_from : (cells : List (Option Value)) (i : ℕ) (d : Option Value) → i < length cells → lowest_tag (drop i cells) ≡ lowest_tag (get_or cells i d ∷ drop (i + 1) cells)
lowest_from cells i d h = let e : drop i cells ≡ get_or cells i d ∷ drop (i + 1) cells = rw (add-one, drop-cons cells i d) in ap lowest_tag e

-- one frame more is one more on top
pub reverse_next : {A : Type 0} (xs : List A) (i : ℕ) (d : A) → i < length xs → reverse (take (i + 1) xs) ≡ get_or xs i d ∷ reverse (take i xs)
reverse_next xs i d h = ap reverse (take_more xs i d h) ∙ reverse-append (take i xs) (get_or xs i d ∷ [])

-- the last of a row is the first of it turned round
pub reverse_last : {A : Type 0} (xs : List A) (n : ℕ) (d : A) → length xs ≡ n + 1 → reverse xs ≡ get_or xs n d ∷ reverse (take n xs)
reverse_last xs n d h = ap reverse (sym (take_all (n + 1) xs (omega arith))) ∙ reverse_next xs n d (omega arith)
