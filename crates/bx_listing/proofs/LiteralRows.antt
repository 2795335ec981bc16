-- The row of a literal's elements, read one after another: what was kept so far stands before what is still read.
use Rattle.bx_listing.proofs.Known.{◌≡◌, List, [], ◌∷◌, ◌++◌, Option, refl, ap, kept_cons, kept_before, Begins-refl, ℕ, ◌+◌, ◌<◌, ◌≤◌, zero, suc, Some, None}
use Rattle.bx_listing.proofs.Known.{length, get_or, drop, sym, ◌∙◌, append_assoc, arith, append-nil, drop_of_length-le, Tree, nil, cons, chain, nodes, Table}
use Rattle.bx_listing.proofs.Known.{Outcome, read, refused, table_of, Reading, and_then, ◌>>=◌, give, stored, Row, with_first, longer, parts, literal, IsNode}
use Rattle.bx_listing.proofs.{Known.ended, Lemmas.takes_first, Lemmas.next_member, Loops.Left, Loops.IsView, Loops.left_next}
use Rattle.bx_listing.specs.LiteralRows.{with_last}
use Rattle.bx_terms.specs.Tree as term

abbrev pub Kept : Type 0
Kept = Option (List term.Tree)

abbrev pub joined : Kept → Kept → Kept
joined (Some xs) (Some ys) = Some (xs ++ ys)
joined _ _ = None

abbrev pub with_front : Kept → Outcome Row → Outcome Row
with_front front (read t r) = read t (record { elements = joined front r.elements; tail = r.tail })
with_front front (refused t fault) = refused t fault

-- the row of these elements before that tail
abbrev pub row : List Tree → Tree → Reading Row
row es u = (parts (chain es u)).row

joined-nil : (front : Kept) → joined front (Some []) ≡ front
joined-nil (Some xs) = ap Some (append-nil xs)
joined-nil None = refl

joined-first : (front : Kept) (x : Option term.Tree) (more : Kept) → joined front (with_first x more) ≡ joined (with_last front x) more
joined-first (Some xs) (Some x) (Some ys) = ap Some (sym (append_assoc xs (x ∷ []) ys))
joined-first _ _ _ = refl

front_longer : (front : Kept) (x : Option term.Tree) (o : Outcome Row) → with_front front (and_then o (λ r. give (longer x r))) ≡ with_front (with_last front x) o
front_longer front x (read t r) = ap (λ es. read t (record { elements = es; tail = r.tail })) (joined-first front x r.elements)
front_longer front x (refused t fault) = refl

pub front_view : (front : Kept) → IsView (with_front front)
front_view front = record { table = by; refusal = λ t fault. refl }
  where
    by : (o : Outcome Row) → table_of (with_front front o) ≡ table_of o
    by (read t r) = refl
    by (refused t fault) = refl

-- what is done with the elements behind the first
abbrev pub row_behind : List Tree → Tree → Option term.Tree → Reading Row
row_behind es u x = row es u >>= λ r. give (longer x r)

pub element_left : (es : List Tree) (u : Tree) (i : ℕ) (e : Tree) → i < length es → e ≡ get_or es i e → row (drop i es) u ≡ (stored (literal e) >>= row_behind (drop (i + 1) es) u)
element_left es u i e here at = ap (λ ts. row ts u) (next_member es i e here at)

pub element_next : (es : List Tree) (u : Tree) (i : ℕ) (e : Tree) (front : Kept) (x : Option term.Tree) (old t mid : Table) → i < length es → e ≡ get_or es i e
    → Left (with_front front) (row (drop i es) u) t (row es u) old → (literal e).run t ≡ read mid x → Left (with_front (with_last front x)) (row (drop (i + 1) es) u) mid (row es u) old
element_next es u i e front x old t mid here at l h =
    left_next l (stored (literal e)) (row_behind (drop (i + 1) es) u) mid x (with_front (with_last front x)) (row (drop (i + 1) es) u) (element_left es u i e here at) h
    (front_longer front x ((row (drop (i + 1) es) u).run mid)) (takes_first mid (row (drop (i + 1) es) u) (λ r. give (longer x r)))

row_of_node : (u : Tree) → IsNode u → (parts u).row ≡ (literal u >>= λ x. give (ended x))
row_of_node nil h = absurd h
row_of_node (cons t rest) h = absurd h
row_of_node _ h = refl

-- at the end of the elements, what is left is the tail
pub tail_left : (es : List Tree) (u : Tree) (i : ℕ) → length es ≤ i → IsNode u → row (drop i es) u ≡ (literal u >>= λ x. give (ended x))
tail_left es u i past node = ap (λ ts. row ts u) (drop_of_length-le es past) ∙ row_of_node u node

pub ends_without : (es : List Tree) (i : ℕ) (front : Kept) (old t : Table) → length es ≤ i → with_front front ((row (drop i es) nil).run t) ≡ (row es nil).run old → (row es nil).run old ≡ read t (record { elements = front; tail = Some term.nil })
ends_without es i front old t past so_far =
    sym so_far ∙ ap (λ ts. with_front front ((row ts nil).run t)) (drop_of_length-le es past) ∙ ap (λ f. read t (record { elements = f; tail = Some term.nil })) (joined-nil front)

pub ends_with : (es : List Tree) (u : Tree) (i : ℕ) (front : Kept) (x : Option term.Tree) (old t new : Table) → length es ≤ i → IsNode u → with_front front ((row (drop i es) u).run t) ≡ (row es u).run old → (literal u).run t ≡ read new x
    → (row es u).run old ≡ read new (record { elements = front; tail = x })
ends_with es u i front x old t new past node so_far h =
    sym so_far ∙ ap (λ r. with_front front (r.run t)) (tail_left es u i past node) ∙ ap (λ o. with_front front (and_then o (λ y. give (ended y)))) h
    ∙ ap (λ f. read new (record { elements = f; tail = x })) (joined-nil front)

-- the parts of a row are smaller than the row
pub element_falls : (es : List Tree) (u : Tree) (i : ℕ) (e : Tree) → i < length es → e ≡ get_or es i e → nodes e < nodes (chain es u)
element_falls [] u i e here at = absurd (omega (arith, here))
element_falls (x ∷ es) u zero e here at = omega (arith, ap nodes at)
element_falls (x ∷ es) u (suc i) e here at = omega (arith, element_falls es u i e (omega (arith, here)) at)

pub tail_le : (es : List Tree) (u : Tree) → nodes u ≤ nodes (chain es u)
tail_le [] u = omega arith
tail_le (x ∷ es) u = omega (arith, tail_le es u)

pub row_starts : (es : List Tree) (u : Tree) (t : Table) → Left (with_front (Some [])) (row es u) t (row es u) t
row_starts es u t = record { so_far = by ((row es u).run t); wants = λ k. k; grown = Begins-refl t }
  where
    all : (more : Kept) → joined (Some []) more ≡ more
    all (Some ys) = refl
    all None = refl

    by : (o : Outcome Row) → with_front (Some []) o ≡ o
    by (read t r) = ap (λ es. read t (record { elements = es; tail = r.tail })) (all r.elements)
    by (refused t fault) = refl

-- Lists are built from their last element on.
pub last_before : (ts : List term.Tree) (t : term.Tree) (tail : Option term.Tree) → kept_before (ts ++ t ∷ []) tail ≡ kept_before ts (kept_cons t tail)
last_before [] t tail = refl
last_before (u ∷ ts) t tail = ap (kept_cons u) (last_before ts t tail)
