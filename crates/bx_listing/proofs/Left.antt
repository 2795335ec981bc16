-- Items that are left behind those that were looked at.
use Rattle.bx_listing.proofs.Known.{drop_more, drop_all, slice_get_within, get_or_from_slice_get, slice_get_cases, ◌<◌, ◌≤◌, length, get_or, inl, inr, sym}
use Rattle.bx_listing.proofs.Known.{arith, slice_get, ◌≡◌, ℕ, ◌+◌, List, ◌∷◌, ◌++◌, drop, Some, None, Result, Ok, Err, ap, ◌∙◌, append_assoc, OnOk}

pub next_member : {A : Type 0} (xs : List A) (i : ℕ) (x : A) → i < length xs → x ≡ get_or xs i x → drop i xs ≡ x ∷ drop (i + 1) xs
next_member xs i x here at = drop_more xs i x here ∙ ap (λ y. y ∷ drop (i + 1) xs) (sym at)

-- an item that is there is the next of those that are left
pub item_left : {A : Type 0} (is : List A) (n : ℕ) (i : A) → Some i ≡ slice_get is n → drop n is ≡ i ∷ drop (n + 1) is
item_left is n i e = next_member is n i (slice_get_within is n i (sym e)) (sym (get_or_from_slice_get is n i i (sym e)))

-- where none is there, none is left
pub none_past : {A : Type 0} (is : List A) (n : ℕ) → None ≡ slice_get is n → length is ≤ n
none_past is n e = elim ((slice_get_cases is n).1) [ inl w ↦ absurd (cc (e, w.2)) | inr w ↦ w.0 ]

pub no_item_left : {A : Type 0} (is : List A) (n : ℕ) → None ≡ slice_get is n → drop n is ≡ drop (n + 1) is
no_item_left is n e =
    let past : length is ≤ n = none_past is n e in
    drop_all n is past ∙ sym (drop_all (n + 1) is (omega arith))

-- what was written of the rest, and what is left of it
pub one_written : {T E : Type 0} (r : Result T E) (old new text rest more : List ℕ) → OnOk r (new ≡ old ++ text) → rest ≡ text ++ more → OnOk r (new ++ more ≡ old ++ rest)
one_written (Ok x) old new text rest more e q = ap (λ t. t ++ more) e ∙ append_assoc old text more ∙ ap (λ t. old ++ t) (sym q)
one_written (Err x) old new text rest more e q = tt
