-- A module's functions, each with its share of the items.
use Rattle.std.proofs.Common.{◌≡◌, ℕ, zero, suc, ◌+◌, ◌<◌, ◌≤◌, List, [], ◌∷◌, ◌++◌, length, map, take, drop, get_or, refl, ap, sym, ◌∙◌, arith, append_assoc}
use Rattle.std.specs.List.{flat_map}
use Rattle.std.specs.Prelude.{slice_get}
use Rattle.std.proofs.lemmas.List.{drop_more, drop-drop, drop_all, append-nil}
use Rattle.bx_listing.specs.Code.{CodeFunction}
use Rattle.bx_listing.specs.Items.{Item}
use Rattle.bx_asm.specs.declared.unit.Head.{Head}
use Rattle.bx_asm.specs.Drafts.{at_number}
use Rattle.bx_asm.specs.Unit.{functions, total, code_head}
use Rattle.bx_asm.proofs.Growing.{take_at}
use Rattle.bx_asm.proofs.Units.{take_front, drop_front}

-- shared out by their heads, the items of all functions are those of each
pub functions_again : (fs : List CodeFunction) → functions (map code_head fs) (flat_map (λ f. f.items) fs) ≡ fs
functions_again [] = refl
functions_again (f ∷ fs) =
    let own = take_front f.items (flat_map (λ (g : CodeFunction). g.items) fs) in
    let rest = ap (functions (map code_head fs)) (drop_front f.items (flat_map (λ (g : CodeFunction). g.items) fs)) ∙ functions_again fs in
    λ k. record { name = f.name; arity = f.arity; entry = f.entry; items = own k } ∷ rest k

-- one function more
pub functions_next : (done new : List CodeFunction) (hs : List Head) (is : List Item) (i from : ℕ) (h : Head) (f : CodeFunction) → i < length hs → h ≡ get_or hs i h
    → f ≡ record { name = h.name; arity = h.arity; entry = h.entry; items = take h.count (drop from is) } → new ≡ done ++ f ∷ []
    → new ++ functions (drop (i + 1) hs) (drop (from + h.count) is) ≡ done ++ functions (drop i hs) (drop from is)
functions_next done new hs is i from h f within here made pushed =
    ap (λ (fs : List CodeFunction). fs ++ functions (drop (i + 1) hs) (drop (from + h.count) is)) pushed
    ∙ append_assoc done (f ∷ []) (functions (drop (i + 1) hs) (drop (from + h.count) is))
    ∙ ap (λ (ys : List Item). done ++ (f ∷ functions (drop (i + 1) hs) ys)) (sym (drop-drop h.count from is))
    ∙ ap (λ (g : CodeFunction). done ++ (g ∷ functions (drop (i + 1) hs) (drop h.count (drop from is)))) made
    ∙ ap (λ (j : Head). done ++ functions (j ∷ drop (i + 1) hs) (drop from is)) here
    ∙ ap (λ (gs : List Head). done ++ functions gs (drop from is)) (sym (drop_more hs i h within))

pub total_next : (hs : List Head) (i : ℕ) (h : Head) → i < length hs → h ≡ get_or hs i h → total (drop i hs) ≡ h.count + total (drop (i + 1) hs)
total_next hs i h within here = ap total (drop_more hs i h within) ∙ ap (λ (j : Head). j.count + total (drop (i + 1) hs)) (sym here)

pub functions_end : (done : List CodeFunction) (hs : List Head) (is : List Item) (i : ℕ) → length hs ≤ i → done ≡ done ++ functions (drop i hs) is
functions_end done hs is i past = sym (append-nil done) ∙ ap (λ (gs : List Head). done ++ functions gs is) (sym (drop_all i hs past))

at_suc : {A : Type 0} (xs : List A) (from k : ℕ) → at_number k (drop from xs) ≡ at_number (from + k) xs
at_suc [] zero k = let same : k ≡ 0 + k = omega arith in ap (λ (n : ℕ). at_number n []) same
at_suc [] (suc from) k = refl
at_suc (x ∷ xs) zero k = let same : k ≡ 0 + k = omega arith in ap (λ (n : ℕ). at_number n (x ∷ xs)) same
at_suc (x ∷ xs) (suc from) k = let same : suc (from + k) ≡ suc from + k = omega arith in at_suc xs from k ∙ ap (λ (n : ℕ). at_number n (x ∷ xs)) same

-- one item more, from a number on
pub share_next : (is : List Item) (from k : ℕ) → take (k + 1) (drop from is) ≡ take k (drop from is) ++ at_number (from + k) is
share_next is from k = take_at (drop from is) k ∙ ap (λ (ys : List Item). take k (drop from is) ++ ys) (at_suc is from k)
