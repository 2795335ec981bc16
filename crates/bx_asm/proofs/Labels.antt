-- Labels that stand twice, in two rows one after the other.
use Rattle.std.proofs.Common.{◌≡◌, ℕ, List, [], ◌∷◌, ◌++◌, Bool, true, false, cond, length, get_or, drop, ◌+◌, ◌<◌, ap, sym, ◌∙◌, append_assoc}
use Rattle.std.proofs.lemmas.List.{append-nil}
use Rattle.std.specs.Prelude.{Some, None, nat_eq}
use Rattle.std.specs.List.{list_any}
use Rattle.bx_listing.specs.ListedCode.{ListedFunction}
use Rattle.bx_asm.specs.Limits.{again, labels, all_labels, operands_of}
use Rattle.std.proofs.lemmas.List.{drop_more}

-- where none of the first row stands twice, the second is looked at behind it
pub again_none : (seen xs ys : List ℕ) → again seen xs ≡ None → again seen (xs ++ ys) ≡ again (seen ++ xs) ys
again_none seen [] ys e = ap (λ ks. again ks ys) (sym (append-nil seen))
again_none seen (x ∷ xs) ys e =
    by (list_any (nat_eq x) seen) e (again_none (seen ++ x ∷ []) xs ys) ∙ ap (λ ks. again ks ys) (append_assoc seen (x ∷ []) xs)
  where
    by : (b : Bool) → cond b (Some x) (again (seen ++ x ∷ []) xs) ≡ None
        → (again (seen ++ x ∷ []) xs ≡ None → again (seen ++ x ∷ []) (xs ++ ys) ≡ again ((seen ++ x ∷ []) ++ xs) ys)
        → cond b (Some x) (again (seen ++ x ∷ []) (xs ++ ys)) ≡ again ((seen ++ x ∷ []) ++ xs) ys
    by true e ih = absurd (cc)
    by false e ih = ih e

-- the first label of the first row that stands twice is the first of both
pub again_some : (seen xs ys : List ℕ) (n : ℕ) → again seen xs ≡ Some n → again seen (xs ++ ys) ≡ Some n
again_some seen [] ys n e = absurd (cc)
again_some seen (x ∷ xs) ys n e = by (list_any (nat_eq x) seen) e (again_some (seen ++ x ∷ []) xs ys n)
  where
    by : (b : Bool) → cond b (Some x) (again (seen ++ x ∷ []) xs) ≡ Some n
        → (again (seen ++ x ∷ []) xs ≡ Some n → again (seen ++ x ∷ []) (xs ++ ys) ≡ Some n)
        → cond b (Some x) (again (seen ++ x ∷ []) (xs ++ ys)) ≡ Some n
    by true e ih = e
    by false e ih = ih e

labels_from : (fs : List ListedFunction) (i : ℕ) (f : ListedFunction) → i < length fs → f ≡ get_or fs i f → all_labels (drop i fs) ≡ labels (operands_of f) ++ all_labels (drop (i + 1) fs)
labels_from fs i f h here = ap all_labels (drop_more fs i f h) ∙ ap (λ (g : ListedFunction). labels (operands_of g) ++ all_labels (drop (i + 1) fs)) (sym here)

-- the labels of one function more: none of them stood, so the rest is looked at behind them
pub again_next : (fs : List ListedFunction) (i : ℕ) (f : ListedFunction) (seen : List ℕ) → i < length fs → f ≡ get_or fs i f → again seen (labels (operands_of f)) ≡ None
    → again seen (all_labels (drop i fs)) ≡ again (seen ++ labels (operands_of f)) (all_labels (drop (i + 1) fs))
again_next fs i f seen h here none = ap (again seen) (labels_from fs i f h here) ∙ again_none seen (labels (operands_of f)) _ none

pub keys_next : (fs : List ListedFunction) (i : ℕ) (f : ListedFunction) (seen : List ℕ) → i < length fs → f ≡ get_or fs i f
    → seen ++ all_labels (drop i fs) ≡ (seen ++ labels (operands_of f)) ++ all_labels (drop (i + 1) fs)
keys_next fs i f seen h here = ap (λ (ls : List ℕ). seen ++ ls) (labels_from fs i f h here) ∙ sym (append_assoc seen (labels (operands_of f)) _)

-- one of them stood
pub again_here : (fs : List ListedFunction) (i : ℕ) (f : ListedFunction) (seen : List ℕ) (n : ℕ) → i < length fs → f ≡ get_or fs i f → again seen (labels (operands_of f)) ≡ Some n
    → again seen (all_labels (drop i fs)) ≡ Some n
again_here fs i f seen n h here some = ap (again seen) (labels_from fs i f h here) ∙ again_some seen (labels (operands_of f)) _ n some
