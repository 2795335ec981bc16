-- A draft that grows by items.
use Rattle.std.proofs.Common.{◌≡◌, ℕ, zero, suc, ◌+◌, ◌<◌, List, [], ◌∷◌, ◌++◌, length, map, take, drop, get_or, refl, ap, sym, subst, ◌∙◌, arith, add-one, length-append, append_assoc, Bool, true, false, cond}
use Rattle.std.proofs.lemmas.List.{append-nil, map-append, take_more, drop_more}
use Rattle.std.proofs.lemmas.Option.{slice_get-map}
use Rattle.std.proofs.lemmas.Grind.{flat_map-append}
use Rattle.std.specs.Prelude.{Option, Some, None, option_map, option_and_then, slice_get, ◌&&◌}
use Rattle.std.specs.List.{list_all}
use Rattle.bx_listing.specs.Items.{Item, PlacedItem}
use Rattle.bx_listing.specs.Code.{items_of}
use Rattle.bx_listing.specs.ListedCode.{ListedFunction}
use Rattle.bx_asm.specs.declared.numbering.Draft.{Draft}
use Rattle.bx_asm.specs.declared.operands.NumberedItem.{NumberedItem}
use Rattle.bx_asm.specs.declared.unit.Head.{Head}
use Rattle.bx_asm.specs.Drafts.{ExtendsTables, SpellsItem, Spells, Grows, tables_of, head_of, all_items, as_list, at_number}
use Rattle.bx_asm.specs.Limits.{first, or_else, register_fault, is_register, count}
use Rattle.bx_asm.specs.Operands.{Tables}
use Rattle.bx_asm.proofs.Firsts.{first_at}
use Rattle.bx_asm.proofs.Growth.{row_more}

spells_more : (t u : Tables) → ExtendsTables t u → (ns : List NumberedItem) (is : List Item) → Spells t ns is → Spells u ns is
spells_more t u more [] [] e = tt
spells_more t u more [] (i ∷ is) e = e
spells_more t u more (n ∷ ns) [] e = e
spells_more t u more (n ∷ ns) (i ∷ is) e = (
  record { op = e.0.op; row = row_more t u more n.operands.items i.operands e.0.row },
  spells_more t u more ns is e.1,
)

spells_push : (t : Tables) (ns : List NumberedItem) (is : List Item) (n : NumberedItem) (i : Item) → Spells t ns is → SpellsItem t n i → Spells t (ns ++ n ∷ []) (is ++ i ∷ [])
spells_push t [] [] n i e here = (here, tt)
spells_push t [] (j ∷ is) n i e here = absurd e
spells_push t (m ∷ ns) [] n i e here = absurd e
spells_push t (m ∷ ns) (j ∷ is) n i e here = (e.0, spells_push t ns is n i e.1 here)

pub grows_none : (d : Draft) → Grows d d []
grows_none d = record {
  spells = λ code e. subst (Spells (tables_of d) d.items.items) (sym (append-nil code)) e;
  length_is = omega arith;
}

pub grows_then : (a b c : Draft) (xs ys : List Item) → Grows a b xs → Grows b c ys → Grows a c (xs ++ ys)
grows_then a b c xs ys one two = record {
  spells = λ code e. subst (Spells (tables_of c) c.items.items) (append_assoc code xs ys) (two.spells (code ++ xs) (one.spells code e));
  length_is = omega (arith, one.length_is, two.length_is, length-append xs ys);
}

pub grows_by : (a b : Draft) (n : NumberedItem) (i : Item) → ExtendsTables (tables_of a) (tables_of b) → b.items.items ≡ a.items.items ++ n ∷ []
    → SpellsItem (tables_of b) n i → Grows a b (i ∷ [])
grows_by a b n i more items here = record {
  spells = λ code e. subst (λ (ns : List NumberedItem). Spells (tables_of b) ns (code ++ i ∷ [])) (sym items)
      (spells_push (tables_of b) a.items.items code n i (spells_more (tables_of a) (tables_of b) more a.items.items code e) here);
  length_is = ap length items ∙ length-append a.items.items (n ∷ []);
}

take_suc : {A : Type 0} (xs : List A) (k : ℕ) → take (suc k) xs ≡ take k xs ++ at_number k xs
take_suc [] zero = refl
take_suc [] (suc k) = refl
take_suc (x ∷ xs) zero = refl
take_suc (x ∷ xs) (suc k) = ap (λ (ys : List _). x ∷ ys) (take_suc xs k)

-- what stands at a number comes behind what stands before it
pub take_at : {A : Type 0} (xs : List A) (k : ℕ) → take (k + 1) xs ≡ take k xs ++ at_number k xs
take_at xs k = ap (λ (n : ℕ). take n xs) (add-one k) ∙ take_suc xs k

pub grows_next : (a b c : Draft) (is : List Item) (k : ℕ) → Grows a b (take k is) → Grows b c (at_number k is) → Grows a c (take (k + 1) is)
grows_next a b c is k one two = subst (Grows a c) (sym (take_at is k)) (grows_then a b c (take k is) (at_number k is) one two)

-- a function without a fault has none at a number, and none behind
pub none_at : (ps : List PlacedItem) (k : ℕ) → first register_fault (drop k ps) ≡ None
    → (option_and_then register_fault (slice_get ps k) ≡ None) × (first register_fault (drop (k + 1) ps) ≡ None)
none_at ps k none = by (option_and_then register_fault (slice_get ps k)) (sym (first_at register_fault ps k) ∙ none)
  where
    by : (o : Option ℕ) → or_else o (first register_fault (drop (k + 1) ps)) ≡ None → (o ≡ None) × (first register_fault (drop (k + 1) ps) ≡ None)
    by (Some b) e = absurd (cc)
    by None e = (refl, e)

both : (a b : Bool) (line : ℕ) → cond (a && b) None (Some line) ≡ None → a ≡ true
both true b line e = refl
both false b line e = absurd (cc)

-- the item there has its registers in range
pub registers_there : (ps : List PlacedItem) (k : ℕ) (i : Item) → Some i ≡ option_map (λ (p : PlacedItem). p.item) (slice_get ps k)
    → option_and_then register_fault (slice_get ps k) ≡ None → list_all is_register i.operands ≡ true
registers_there ps k i is none = by (slice_get ps k) is none
  where
    by : (o : Option PlacedItem) → Some i ≡ option_map (λ (p : PlacedItem). p.item) o → option_and_then register_fault o ≡ None → list_all is_register i.operands ≡ true
    by None is none = absurd (cc)
    by (Some p) is none = let same : i ≡ p.item = cc in ap (λ (j : Item). list_all is_register j.operands) same ∙ both _ _ p.line none

pub grows_there : (a b : Draft) (ps : List PlacedItem) (k : ℕ) (i : Item) → Some i ≡ option_map (λ (p : PlacedItem). p.item) (slice_get ps k) → Grows a b (i ∷ []) → Grows a b (at_number k (items_of ps))
grows_there a b ps k i is more =
    let here : slice_get (items_of ps) k ≡ Some i = slice_get-map (λ (p : PlacedItem). p.item) ps k ∙ sym is in
    subst (Grows a b) (sym (ap as_list here)) more

pub grows_nowhere : (d : Draft) (ps : List PlacedItem) (k : ℕ) → None ≡ option_map (λ (p : PlacedItem). p.item) (slice_get ps k) → Grows d d (at_number k (items_of ps))
grows_nowhere d ps k is =
    let here : slice_get (items_of ps) k ≡ None = slice_get-map (λ (p : PlacedItem). p.item) ps k ∙ sym is in
    subst (Grows d d) (sym (ap as_list here)) (grows_none d)

pub count_next : (fs : List ListedFunction) (i : ℕ) (f : ListedFunction) → i < length fs → f ≡ get_or fs i f → count (drop i fs) ≡ length f.items + count (drop (i + 1) fs)
count_next fs i f h here = ap count (drop_more fs i f h) ∙ ap (λ (g : ListedFunction). length g.items + count (drop (i + 1) fs)) (sym here)

-- a row that shows nothing shows nothing here, and nothing behind
pub first_none : {A B : Type 0} (f : A → Option B) (xs : List A) (i : ℕ) (x : A) → i < length xs → x ≡ get_or xs i x → first f (drop i xs) ≡ None
    → (f x ≡ None) × (first f (drop (i + 1) xs) ≡ None)
first_none {B = B} f xs i x h here none =
    by (f x) (sym (ap (first f) (drop_more xs i x h) ∙ ap (λ y. or_else (f y) (first f (drop (i + 1) xs))) (sym here)) ∙ none)
  where
    by : (o : Option B) → or_else o (first f (drop (i + 1) xs)) ≡ None → (o ≡ None) × (first f (drop (i + 1) xs) ≡ None)
    by (Some b) e = absurd (cc)
    by None e = (refl, e)

all_items_next : (fs : List ListedFunction) (i : ℕ) (f : ListedFunction) → i < length fs → f ≡ get_or fs i f → all_items (take (i + 1) fs) ≡ all_items (take i fs) ++ items_of f.items
all_items_next fs i f h here =
    ap all_items (take_more fs i f h) ∙ flat_map-append (λ (g : ListedFunction). items_of g.items) (take i fs) (get_or fs i f ∷ [])
    ∙ ap (λ (g : ListedFunction). all_items (take i fs) ++ (items_of g.items ++ [])) (sym here)
    ∙ ap (λ (is : List Item). all_items (take i fs) ++ is) (append-nil (items_of f.items))

-- the items of one function more
pub grows_function : (a b c : Draft) (fs : List ListedFunction) (i : ℕ) (f : ListedFunction) → i < length fs → f ≡ get_or fs i f
    → Grows a b (all_items (take i fs)) → Grows b c (items_of f.items) → Grows a c (all_items (take (i + 1) fs))
grows_function a b c fs i f h here one two =
    subst (Grows a c) (sym (all_items_next fs i f h here)) (grows_then a b c (all_items (take i fs)) (items_of f.items) one two)

-- the head of one function more
pub heads_next : (hs : List Head) (fs : List ListedFunction) (i : ℕ) (f : ListedFunction) → i < length fs → f ≡ get_or fs i f
    → hs ++ map head_of (take (i + 1) fs) ≡ (hs ++ map head_of (take i fs)) ++ head_of f ∷ []
heads_next hs fs i f h here =
    ap (λ gs. hs ++ map head_of gs) (take_more fs i f h)
    ∙ ap (λ (xs : List Head). hs ++ xs) (map-append head_of (take i fs) (get_or fs i f ∷ []))
    ∙ ap (λ (g : ListedFunction). hs ++ (map head_of (take i fs) ++ head_of g ∷ [])) (sym here)
    ∙ sym (append_assoc hs (map head_of (take i fs)) (head_of f ∷ []))
