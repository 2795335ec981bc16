-- Items that are stored in one row of operands.
use Rattle.bx_listing.proofs.Known.{◌≡◌, ℕ, ◌+◌, ◌-◌, ◌<◌, ◌≤◌, List, [], ◌∷◌, ◌++◌, length, take, drop, sym, ap, ◌∙◌, refl, arith, slice_get, unwrap_or, All}
use Rattle.bx_listing.proofs.Known.{unwrap_or-slice_get, take-length, drop-append_seam, append-nil, map-append, All-tail, Op, Operand, Item}
use Rattle.std.proofs.lemmas.List.{take_more_same, take-append-le, drop-append-le, length-drop}
use Rattle.std.proofs.lemmas.Grind.{flat_map-append}
use Rattle.bx_ops.specs.declared.opcode.Op.TheVariants.{Line}
use Rattle.bx_listing.specs.{declared.code_form.Stored.Stored, Stored.stored_item, Stored.stored_items, Stored.IsWithin, Stored.operands_in, Stored.AreStored}

-- operands that come behind are none of an item's that is there
share_kept : (os more : List Operand) (r : Stored) → IsWithin os r → take r.count (drop r.from (os ++ more)) ≡ take r.count (drop r.from os)
share_kept os more r h =
    let begins : r.from ≤ length os = omega arith in
    let rest : length (drop r.from os) ≡ length os - r.from = length-drop r.from os in
    let ends : r.count ≤ length (drop r.from os) = omega arith in
    ap (take r.count) (drop-append-le r.from os more begins) ∙ take-append-le r.count (drop r.from os) more ends

pub items_kept : (os more : List Operand) (rs : List Stored) → All (IsWithin os) rs → stored_items (os ++ more) rs ≡ stored_items os rs
items_kept os more [] h = refl
items_kept os more (r ∷ rs) h =
    let this : take r.count (drop r.from (os ++ more)) ≡ take r.count (drop r.from os) = share_kept os more r (h 0 r (omega arith)) in
    let others : stored_items (os ++ more) rs ≡ stored_items os rs = items_kept os more rs (All-tail (IsWithin os) r rs h) in
    cc

-- an item whose operands are all that come behind
pub item_stored : (os more : List Operand) (rs : List Stored) (op : Op) → All (IsWithin os) rs
    → stored_items (os ++ more) (rs ++ record { op = op; from = length os; count = length more } ∷ []) ≡ stored_items os rs ++ record { op = op; operands = more } ∷ []
item_stored os more rs op h =
    let last : Stored = record { op = op; from = length os; count = length more } in
    let split : stored_items (os ++ more) (rs ++ last ∷ []) ≡ stored_items (os ++ more) rs ++ stored_item (os ++ more) last ∷ [] = map-append (stored_item (os ++ more)) rs (last ∷ []) in
    let kept : stored_items (os ++ more) rs ≡ stored_items os rs = items_kept os more rs h in
    let behind : drop (length os) (os ++ more) ≡ more = drop-append_seam os more in
    let whole : take (length more) more ≡ more = take-length more in
    let share : take (length more) (drop (length os) (os ++ more)) ≡ more = ap (take (length more)) behind ∙ whole in
    cc

-- the same of rows that are known by equations
pub item_added : (os more all : List Operand) (rs new : List Stored) (op : Op) (from count : ℕ) → All (IsWithin os) rs → from ≡ length os → count ≡ length more
    → all ≡ os ++ more → new ≡ rs ++ record { op = op; from = from; count = count } ∷ [] → stored_items all new ≡ stored_items os rs ++ record { op = op; operands = more } ∷ []
item_added os more all rs new op from count h begins counted grown pushed = rw (pushed, grown, begins, counted) (item_stored os more rs op h)

-- rows of items that were the same so far, and whose next items are, are the same one further
pub same_so_far : (xs ys : List Item) (i : ℕ) → i < length xs → i < length ys → take i xs ≡ take i ys → slice_get xs i ≡ slice_get ys i → take (i + 1) xs ≡ take (i + 1) ys
same_so_far xs ys i hx hy so_far next =
    let any : Item = record { op = Line; operands = [] } in
    take_more_same xs ys i any hx hy so_far (sym (unwrap_or-slice_get xs i any) ∙ ap (λ o. unwrap_or o any) next ∙ unwrap_or-slice_get ys i any)

-- an item's operands come behind those of the others
pub operands_added : (is : List Item) (op : Op) (more : List Operand) → operands_in (is ++ record { op = op; operands = more } ∷ []) ≡ operands_in is ++ more
operands_added is op more =
    flat_map-append (λ (i : Item). i.operands) is (record { op = op; operands = more } ∷ []) ∙ ap (λ (os : List Operand). operands_in is ++ os) (append-nil more)

-- a row of shares, and one that takes up all that comes behind
pub whole_added : (os more all : List Operand) (rs new : List Stored) (op : Op) (from count : ℕ) → AreStored os rs → from ≡ length os → count ≡ length more
    → all ≡ os ++ more → new ≡ rs ++ record { op = op; from = from; count = count } ∷ [] → operands_in (stored_items all new) ≡ all
whole_added os more all rs new op from count h begins counted grown pushed =
    ap operands_in (item_added os more all rs new op from count h.within begins counted grown pushed)
    ∙ operands_added (stored_items os rs) op more
    ∙ ap (λ (xs : List Operand). xs ++ more) h.whole
    ∙ sym grown
