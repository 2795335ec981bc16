-- The parts of a form, as slices of them.
use Rattle.bx_listing.proofs.Known.{◌≡◌, ℕ, ◌≤◌, ◌-◌, length, take, drop, get_or, List, ◌∷◌, false, Option, Some, refl, ap, ◌∙◌, arith, take-length, Tree}
use Rattle.bx_listing.proofs.Known.{guard_bif_with, Op, word, list_elements, is_raise, bif_op, bif_found, bif_form, bif_called, gc_bif_op, gc_bif_form}
use Rattle.bx_listing.proofs.Known.{gc_bif_called}

all_left : (n k : ℕ) (ts : List Tree) → n ≡ length ts → take n ts ≡ ts
all_left n k ts e = ap (λ n. take n ts) e ∙ take-length ts

pub bif_parts : (ts : List Tree) (b a : Tree) → 3 ≤ length ts → b ≡ get_or ts 0 b → a ≡ get_or ts 2 a
    → bif_form ts ≡ bif_called (take 2 ts) (take 1 (drop 1 ts)) (take (length ts - 3) (drop 3 ts)) (word b) (list_elements a)
bif_parts (x ∷ y ∷ z ∷ ts) b a h p q =
    let n : length (x ∷ y ∷ z ∷ ts) - 3 ≡ length ts = omega arith in
    rw (p, q, all_left _ 0 ts n) refl
bif_parts _ b a h p q = absurd (omega (arith, h))

pub gc_bif_parts : (ts : List Tree) (b a : Tree) → 4 ≤ length ts → b ≡ get_or ts 0 b → a ≡ get_or ts 3 a
    → gc_bif_form ts ≡ gc_bif_called (take 3 ts) (take (length ts - 4) (drop 4 ts)) (word b) (list_elements a)
gc_bif_parts (x ∷ y ∷ z ∷ w ∷ ts) b a h p q =
    let n : length (x ∷ y ∷ z ∷ w ∷ ts) - 4 ≡ length ts = omega arith in
    rw (p, q, all_left _ 0 ts n) refl
gc_bif_parts _ b a h p q = absurd (omega (arith, h))

-- a BIF by its name and the list of its arguments
pub bif_listed : (ts : List Tree) (b a : Tree) (text : List ℕ) (list : List Tree) (op : Option Op) → 3 ≤ length ts → b ≡ get_or ts 0 b → a ≡ get_or ts 2 a
    → Some text ≡ word b → Some list ≡ list_elements a → false ≡ is_raise text list → op ≡ bif_op (length list)
    → bif_form ts ≡ bif_found text op (take 2 ts) list (take (length ts - 3) (drop 3 ts)) (guard_bif_with text (length list))
bif_listed ts b a text list op h p q e k plain o =
    rw (bif_parts ts b a h p q, ← e, ← k, ← plain, o) refl

pub gc_bif_listed : (ts : List Tree) (b a : Tree) (text : List ℕ) (list : List Tree) (op : Option Op) → 4 ≤ length ts → b ≡ get_or ts 0 b → a ≡ get_or ts 3 a
    → Some text ≡ word b → Some list ≡ list_elements a → op ≡ gc_bif_op (length list)
    → gc_bif_form ts ≡ bif_found text op (take 3 ts) list (take (length ts - 4) (drop 4 ts)) (guard_bif_with text (length list))
gc_bif_listed ts b a text list op h p q e k o =
    rw (gc_bif_parts ts b a h p q, ← e, ← k, o) refl
