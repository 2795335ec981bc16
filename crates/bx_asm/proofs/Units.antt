-- The items of a unit, found by their numbers.
use Rattle.std.proofs.Common.{◌≡◌, ℕ, ◌<◌, ◌≤◌, List, [], ◌∷◌, ◌++◌, length, map, take, drop, get_or, refl, ap, sym, ◌∙◌, arith, length-drop, length-append}
use Rattle.std.specs.Prelude.{Some, None, option_map, slice_get}
use Rattle.std.specs.List.{flat_map}
use Rattle.std.proofs.lemmas.List.{take-append-drop, length-take-le, length-map}
use Rattle.std.proofs.lemmas.Option.{slice_get-map, slice_get-get_or, slice_get_past}
use Rattle.bx_listing.specs.Items.{Item, PlacedItem}
use Rattle.bx_listing.specs.ListedCode.{ListedFunction}
use Rattle.bx_listing.specs.Code.{function_code_of, items_of}
use Rattle.bx_asm.specs.declared.operands.NumberedItem.{NumberedItem}
use Rattle.bx_asm.specs.declared.unit.Head.{Head}
use Rattle.bx_asm.specs.Drafts.{Spells, head_of, all_items}
use Rattle.bx_asm.specs.Limits.{count}
use Rattle.bx_asm.specs.Operands.{Tables}
use Rattle.bx_asm.specs.Spelling.{spelled_item}
use Rattle.bx_asm.specs.Unit.{functions, IsUnit, total, code_head}
use Rattle.bx_asm.proofs.Growth.{row_spelled}

-- shared out among the functions and taken together again, the items are what they were
pub items-functions : (hs : List Head) (is : List Item) → total hs ≡ length is → flat_map (λ f. f.items) (functions hs is) ≡ is
items-functions [] [] e = refl
items-functions [] (i ∷ is) e = absurd (omega arith)
items-functions (h ∷ hs) is e =
    ap (λ (xs : List Item). take h.count is ++ xs) (items-functions hs (drop h.count is) (omega (arith, length-drop h.count is)))
    ∙ take-append-drop h.count is

-- what stands at a number spells the item of that number
pub item_at : (t : Tables) (hs : List Head) (is : List NumberedItem) (k : ℕ) (i : NumberedItem) → IsUnit hs is → k < length is → i ≡ get_or is k i
    → slice_get (flat_map (λ f. f.items) (functions hs (map (spelled_item t) is))) k ≡ Some (spelled_item t i)
item_at t hs is k i unit within here =
    ap (λ xs. slice_get xs k) (items-functions hs (map (spelled_item t) is) (unit.shared_out ∙ sym (length-map is (spelled_item t))))
    ∙ slice_get-map (spelled_item t) is k
    ∙ ap (option_map (spelled_item t)) (slice_get-get_or is k i within ∙ ap Some (sym here))

-- nothing stands past the last
pub no_item_at : (t : Tables) (hs : List Head) (is : List NumberedItem) (k : ℕ) → IsUnit hs is → length is ≤ k
    → slice_get (flat_map (λ f. f.items) (functions hs (map (spelled_item t) is))) k ≡ None
no_item_at t hs is k unit past =
    ap (λ xs. slice_get xs k) (items-functions hs (map (spelled_item t) is) (unit.shared_out ∙ sym (length-map is (spelled_item t))))
    ∙ slice_get_past _ k (omega (arith, length-map is (spelled_item t)))

-- there are as many items as are stored
pub length_of_items : (t : Tables) (hs : List Head) (is : List NumberedItem) → IsUnit hs is → length (flat_map (λ f. f.items) (functions hs (map (spelled_item t) is))) ≡ length is
length_of_items t hs is unit =
    ap length (items-functions hs (map (spelled_item t) is) (unit.shared_out ∙ sym (length-map is (spelled_item t))))
    ∙ length-map is (spelled_item t)

heads-of : (hs : List Head) (is : List Item) → total hs ≡ length is → map code_head (functions hs is) ≡ hs
heads-of [] is e = refl
heads-of (h ∷ hs) is e =
    let own : length (take h.count is) ≡ h.count = length-take-le h.count is (omega arith) in
    let rest = heads-of hs (drop h.count is) (omega (arith, length-drop h.count is)) in
    λ k. record { name = h.name; arity = h.arity; entry = h.entry; count = own k } ∷ rest k

-- the stored heads are those of the functions
pub heads_of_functions : (t : Tables) (hs : List Head) (is : List NumberedItem) → IsUnit hs is → map code_head (functions hs (map (spelled_item t) is)) ≡ hs
heads_of_functions t hs is unit = heads-of hs (map (spelled_item t) is) (unit.shared_out ∙ sym (length-map is (spelled_item t)))

pub take_front : {A : Type 0} (xs ys : List A) → take (length xs) (xs ++ ys) ≡ xs
take_front [] ys = refl
take_front (x ∷ xs) ys = ap (λ (zs : List _). x ∷ zs) (take_front xs ys)

pub drop_front : {A : Type 0} (xs ys : List A) → drop (length xs) (xs ++ ys) ≡ ys
drop_front [] ys = refl
drop_front (x ∷ xs) ys = drop_front xs ys

-- what every item of a row spells is what the row spells
unwrapped : (t : Tables) (ns : List NumberedItem) (is : List Item) → Spells t ns is → map (spelled_item t) ns ≡ is
unwrapped t [] [] e = refl
unwrapped t [] (i ∷ is) e = absurd e
unwrapped t (n ∷ ns) [] e = absurd e
unwrapped t (n ∷ ns) (i ∷ is) e =
    let row = row_spelled t n.operands.items i.operands e.0.row in
    let tail = unwrapped t ns is e.1 in
    λ k. record { op = e.0.op k; operands = row k } ∷ tail k

-- the items of each function are its own, and there are as many as there are items
functions-of : (fs : List ListedFunction) → functions (map head_of fs) (all_items fs) ≡ map function_code_of fs
functions-of [] = refl
functions-of (f ∷ fs) =
    let own : take (length f.items) (items_of f.items ++ all_items fs) ≡ items_of f.items =
    ap (λ n. take n (items_of f.items ++ all_items fs)) (sym (length-map f.items (λ (q : PlacedItem). q.item))) ∙ take_front (items_of f.items) (all_items fs) in
    let rest : drop (length f.items) (items_of f.items ++ all_items fs) ≡ all_items fs =
    ap (λ n. drop n (items_of f.items ++ all_items fs)) (sym (length-map f.items (λ (q : PlacedItem). q.item))) ∙ drop_front (items_of f.items) (all_items fs) in
    let tail = ap (functions (map head_of fs)) rest ∙ functions-of fs in
    λ k. record { name = f.name; arity = f.arity; entry = f.entry; items = own k } ∷ tail k

total-of : (fs : List ListedFunction) → total (map head_of fs) ≡ length (all_items fs)
total-of [] = refl
total-of (f ∷ fs) = omega (arith, total-of fs, length-append (items_of f.items) (all_items fs), length-map f.items (λ (q : PlacedItem). q.item))

count-of : (fs : List ListedFunction) → count fs ≡ length (all_items fs)
count-of [] = refl
count-of (f ∷ fs) = omega (arith, count-of fs, length-append (items_of f.items) (all_items fs), length-map f.items (λ (q : PlacedItem). q.item))

pub unit_of : (t : Tables) (ns : List NumberedItem) (fs : List ListedFunction) → count fs ≤ 1000000 → Spells t ns (all_items fs) → IsUnit (map head_of fs) ns
unit_of t ns fs few e = record {
  few = omega (arith, few, count-of fs, ap length (sym (unwrapped t ns (all_items fs) e)), length-map ns (spelled_item t));
  shared_out = total-of fs ∙ ap length (sym (unwrapped t ns (all_items fs) e)) ∙ length-map ns (spelled_item t);
}

pub code_of_unit : (t : Tables) (ns : List NumberedItem) (fs : List ListedFunction) → Spells t ns (all_items fs) → functions (map head_of fs) (map (spelled_item t) ns) ≡ map function_code_of fs
code_of_unit t ns fs e = ap (functions (map head_of fs)) (unwrapped t ns (all_items fs) e) ∙ functions-of fs
