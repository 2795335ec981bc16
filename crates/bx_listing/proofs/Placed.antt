-- Items with their lines.
use Rattle.bx_listing.proofs.Known.{◌≡◌, ℕ, suc, ◌+◌, ◌<◌, List, [], ◌∷◌, ◌++◌, map, length, take, get_or, option_map, slice_get, refl, ap, sym, ◌∙◌, arith}
use Rattle.bx_listing.proofs.Known.{slice_get-map, take_more, map-append, ListedFunction, function_code_of, Item, PlacedItem, placed}

pub placed_more : (ls : List ℕ) (is : List Item) (l : ℕ) (i : Item) → length ls ≡ length is
    → placed (ls ++ l ∷ []) (is ++ i ∷ []) ≡ placed ls is ++ record { line = l; item = i } ∷ []
placed_more [] [] l i e = refl
placed_more (k ∷ ls) (j ∷ is) l i e = ap (λ t. record { line = k; item = j } ∷ t) (placed_more ls is l i (omega arith))
placed_more _ _ l i e = absurd (omega arith)

pub placed_length : (ls : List ℕ) (is : List Item) → length ls ≡ length is → length (placed ls is) ≡ length ls
placed_length [] is e = refl
placed_length (k ∷ ls) [] e = absurd (omega arith)
placed_length (k ∷ ls) (j ∷ is) e = ap suc (placed_length ls is (omega arith))

pub placed_items : (ls : List ℕ) (is : List Item) → length ls ≡ length is → map (λ (p : PlacedItem). p.item) (placed ls is) ≡ is
placed_items [] [] e = refl
placed_items (k ∷ ls) (j ∷ is) e = ap (λ t. j ∷ t) (placed_items ls is (omega arith))
placed_items _ _ e = absurd (omega arith)

pub placed_lines : (ls : List ℕ) (is : List Item) → length ls ≡ length is → map (λ (p : PlacedItem). p.line) (placed ls is) ≡ ls
placed_lines [] is e = refl
placed_lines (k ∷ ls) [] e = absurd (omega arith)
placed_lines (k ∷ ls) (j ∷ is) e = ap (λ t. k ∷ t) (placed_lines ls is (omega arith))

-- the item and the line of each number
pub placed_item_at : (ls : List ℕ) (is : List Item) (n : ℕ) → length ls ≡ length is → option_map (λ (p : PlacedItem). p.item) (slice_get (placed ls is) n) ≡ slice_get is n
placed_item_at ls is n e = sym (slice_get-map (λ (p : PlacedItem). p.item) (placed ls is) n) ∙ ap (λ xs. slice_get xs n) (placed_items ls is e)

-- code forms of functions, one more of them
pub codes_more : (fs : List ListedFunction) (i : ℕ) (f : ListedFunction) → i < length fs → f ≡ get_or fs i f
    → map function_code_of (take (i + 1) fs) ≡ map function_code_of (take i fs) ++ function_code_of f ∷ []
codes_more fs i f h at =
    ap (map function_code_of) (take_more fs i f h)
    ∙ map-append function_code_of (take i fs) (get_or fs i f ∷ [])
    ∙ ap (λ g. map function_code_of (take i fs) ++ function_code_of g ∷ []) (sym at)

placed_whole : (ps : List PlacedItem) → placed (map (λ (p : PlacedItem). p.line) ps) (map (λ (p : PlacedItem). p.item) ps) ≡ ps
placed_whole [] = refl
placed_whole (p ∷ ps) = ap (λ t. p ∷ t) (placed_whole ps)

-- functions are told apart by their code and by the lines of their items
pub listed_same : (f g : ListedFunction) → map (λ (p : PlacedItem). p.line) f.items ≡ map (λ (p : PlacedItem). p.line) g.items → function_code_of f ≡ function_code_of g → f ≡ g
listed_same f g lines code =
    let own : map (λ (p : PlacedItem). p.item) f.items ≡ map (λ (p : PlacedItem). p.item) g.items = λ k. (code k).items in
    let items : f.items ≡ g.items =
    sym (placed_whole f.items) ∙ ap (λ ls. placed ls (map (λ (p : PlacedItem). p.item) f.items)) lines ∙ ap (placed (map (λ (p : PlacedItem). p.line) g.items)) own ∙ placed_whole g.items in
    λ k. record { name = (code k).name; arity = (code k).arity; entry = (code k).entry; items = items k }
