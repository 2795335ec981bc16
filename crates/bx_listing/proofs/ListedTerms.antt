-- What is read of a literal is its term, where that is not too high, and is read so.
use Rattle.bx_listing.proofs.Known.{◌≡◌, ℕ, ℤ, ◌≤◌, Bool, true, false, List, [], ◌∷◌, Option, Some, None, refl, sym, ap, ◌∙◌, arith, if◌then◌else◌, nat_le}
use Rattle.bx_listing.proofs.Known.{nat_tests, naming, is_large, Tree, integer, atom, tuple, list, nil, cons, Table, read, and_then, ◌>>=◌, give, refuse, named}
use Rattle.bx_listing.proofs.Known.{outcome, no_line, kept, kept_cons, kept_before, kept_list, kept_tuple, with_first, Row, ended, longer, parts, literal}
use Rattle.bx_listing.proofs.Lemmas.{given, after_read, outcome_read, Written, an_integer_term, an_atom_term, a_tuple_term, a_list_term, an_other_term}
use Rattle.bx_listing.proofs.Lemmas.{Elements, no_elements, an_element_first, Rest, no_rest, a_last, a_first}
use Rattle.bx_terms.specs.Tree.{height, highest, listed}
use Rattle.bx_listing.specs.ListedTerms.{IsTerm, an_int, a_name, a_tuple, a_list, AreElements, no_element, an_element, IsRow, an_end, a_tail, a_cell}
use Rattle.bx_terms.specs.declared.faults.Fault.TheVariants as faults
use Rattle.bx_terms.specs.Tree as term

low_is : (n : ℕ) → nat_le n 10000 ≡ true → n ≤ 10000
low_is n h = grind (arith, nat_tests)

kept_low : (t : term.Tree) → height t ≤ 10000 → kept t ≡ Some t
kept_low t h = grind (arith, nat_tests)

abbrev IsLow : Table → Tree → Option term.Tree → Table → Type 0
IsLow b t None c = Unit {0}
IsLow b t (Some x) c = IsTerm b t x c × (height x ≤ 10000)

abbrev HasElements : Table → Tree → Option (List term.Tree) → Table → Type 0
HasElements b row None c = Unit {0}
HasElements b row (Some ts) c = AreElements b row (listed ts) c

abbrev IsLowRow : Table → Tree → Option term.Tree → Table → Type 0
IsLowRow b row None c = Unit {0}
IsLowRow b row (Some x) c = IsRow b row x c × (height x ≤ 10000)

kept_so : (P : Option term.Tree → Type 0) (t : term.Tree) → P None → (height t ≤ 10000 → P (Some t)) → P (kept t)
kept_so P t none some = by (nat_le (height t) 10000) (low_is (height t))
  where
    by : (low : Bool) → (low ≡ true → height t ≤ 10000) → P (if low then Some t else None)
    by true is = some (is refl)
    by false is = none

row_alone : {t : Tree} → Written t → (parts t).row ≡ (parts t).alone >>= λ x. give (ended x)
row_alone an_integer_term = refl
row_alone _ = refl

tuple_low : (b c : Table) (t : Tree) (row : Tree) (o : Option (List term.Tree)) → HasElements b row o c → ((x : term.Tree) → AreElements b row x c → IsTerm b t (term.tuple x) c) → IsLow b t (kept_tuple o) c
tuple_low b c t row None h make = tt
tuple_low b c t row (Some ts) h make = kept_so (λ o. IsLow b t o c) (term.tuple (listed ts)) tt (λ low. (make (listed ts) h, low))

list_low : (b c : Table) (t : Tree) (row : Tree) (o : Option term.Tree) → IsLowRow b row o c → ((x : term.Tree) → IsRow b row x c → IsTerm b t x c) → IsLow b t o c
list_low b c t row None h make = tt
list_low b c t row (Some x) h make = (make x h.0, h.1)

first_has : (b c d : Table) (t rest : Tree) (o : Option term.Tree) (ts : Option (List term.Tree)) → IsLow b t o c → HasElements c rest ts d → HasElements b (cons t rest) (with_first o ts) d
first_has b c d t rest (Some x) (Some ts) h g = an_element h.0 g
first_has b c d t rest _ _ h g = tt

first_low : (b c d : Table) (t rest : Tree) (o : Option term.Tree) (ts : Option (List term.Tree)) (tail : Option term.Tree) → IsLow b t o c → IsLowRow c rest (kept_list ts tail) d
    → IsLowRow b (cons t rest) (kept_list (with_first o ts) tail) d
first_low b c d t rest (Some x) (Some ts) tail h g = by (kept_before ts tail) g
  where
    by : (z : Option term.Tree) → IsLowRow c rest z d → IsLowRow b (cons t rest) (kept_cons x z) d
    by None g = tt
    by (Some y) g = kept_so (λ o. IsLowRow b (cons t rest) o d) (term.cons x y) tt (λ low. (a_cell h.0 g.0, low))
first_low b c d t rest _ _ tail h g = tt

last_low : (b c : Table) (t : Tree) (o : Option term.Tree) → IsLow b t o c → IsLowRow b t o c
last_low b c t None h = tt
last_low b c t (Some x) h = (a_tail h.0, h.1)

integer_low : (b c : Table) (t : Tree) (n : ℤ) (o : Option term.Tree) (large : Bool) → is_large n ≡ large → (is_large n ≡ false → IsTerm b t (term.int n) b)
    → ((if large then refuse (faults.LiteralRange no_line) else give n) >>= λ n. give (Some (term.int n))).run b ≡ read c o → IsLow b t o c
integer_low b c t n o true is make h = absurd (cc)
integer_low b c t n o false is make h = given (IsLow b t) (Some (term.int n)) o b c h (make is, omega arith)

mutual
  alone_is : {t : Tree} → Written t → (b c : Table) (o : Option term.Tree) → (literal t).run b ≡ read c o → IsLow b t o c
  alone_is (an_integer_term {s = s} {n = n}) b c o h = integer_low b c (integer s n) n o (is_large n) refl an_int h
  alone_is (an_atom_term {s = s} {w = text}) b c o h =
      after_read ((named text).run b) (λ a. give (Some (term.atom a.0))) c o (λ d a e1 h1.
      given (IsLow b (atom s text)) (Some (term.atom a.0)) o d c h1 (a_name (outcome_read b d (naming b text) a e1), omega arith)) h
  alone_is (a_tuple_term {s = s} {row = row} w) b c o h =
      after_read ((parts row).row.run b) (λ r. give (kept_tuple r.elements)) c o (λ d r e1 h1.
      given (IsLow b (tuple s row)) (kept_tuple r.elements) o d c h1 (tuple_low b d (tuple s row) row r.elements (elements_are w b d r e1) (λ x is. a_tuple is))) h
  alone_is (a_list_term {s = s} {row = row} w) b c o h =
      after_read ((parts row).row.run b) (λ r. give (kept_list r.elements r.tail)) c o (λ d r e1 h1.
      given (IsLow b (list s row)) (kept_list r.elements r.tail) o d c h1 (list_low b d (list s row) row (kept_list r.elements r.tail) (rest_is w b d r e1) (λ x is. a_list is))) h
  alone_is an_other_term b c o h = absurd (cc)

  elements_are : {row : Tree} → Elements row → (b c : Table) (r : Row) → (parts row).row.run b ≡ read c r → HasElements b row r.elements c
  elements_are no_elements b c r h = given (λ r c. HasElements b nil r.elements c) (ended (Some term.nil)) r b c h no_element
  elements_are (an_element_first {t = t} {rest = rest} w ws) b c r h =
      after_read ((literal t).run b) (λ x. (parts rest).row >>= λ r. give (longer x r)) c r (λ d x e1.
      after_read ((parts rest).row.run d) (λ r. give (longer x r)) c r (λ m q e2 h2.
      given (λ r c. HasElements b (cons t rest) r.elements c) (longer x q) r m c h2
      (first_has b d m t rest x q.elements (alone_is w b d x e1) (elements_are ws d m q e2)))) h

  rest_is : {row : Tree} → Rest row → (b c : Table) (r : Row) → (parts row).row.run b ≡ read c r → IsLowRow b row (kept_list r.elements r.tail) c
  rest_is no_rest b c r h = given (λ r c. IsLowRow b nil (kept_list r.elements r.tail) c) (ended (Some term.nil)) r b c h (an_end, omega arith)
  rest_is (a_last {t = t} w) b c r h =
      after_read ((literal t).run b) (λ x. give (ended x)) c r (λ d x e1 h1.
      given (λ r c. IsLowRow b t (kept_list r.elements r.tail) c) (ended x) r d c h1 (last_low b d t x (alone_is w b d x e1))) (sym (ap (λ q. q.run b) (row_alone w)) ∙ h)
  rest_is (a_first {t = t} {rest = rest} w ws) b c r h =
      after_read ((literal t).run b) (λ x. (parts rest).row >>= λ r. give (longer x r)) c r (λ d x e1.
      after_read ((parts rest).row.run d) (λ r. give (longer x r)) c r (λ m q e2 h2.
      given (λ r c. IsLowRow b (cons t rest) (kept_list r.elements r.tail) c) (longer x q) r m c h2
      (first_low b d m t rest x q.elements q.tail (alone_is w b d x e1) (rest_is ws d m q e2)))) h

pub term_is : (t : Tree) (b c : Table) (x : term.Tree) → Written t → (literal t).run b ≡ read c (Some x) → IsTerm b t x c × (height x ≤ 10000)
term_is t b c x w h = alone_is w b c (Some x) h

abbrev ReadsElements : Table → Tree → term.Tree → Table → Type 0
ReadsElements b row x c = (r : Row) × (ts : List term.Tree) × ((parts row).row.run b ≡ read c r) × (r.elements ≡ Some ts) × (listed ts ≡ x)

abbrev ReadsRow : Table → Tree → term.Tree → Table → Type 0
ReadsRow b row x c = (r : Row) × (ts : List term.Tree) × ((parts row).row.run b ≡ read c r) × (r.elements ≡ Some ts) × (kept_before ts r.tail ≡ Some x)

row_steps : (b d c : Table) (t rest : Tree) (x : term.Tree) (r : Row) → (literal t).run b ≡ read d (Some x) → (parts rest).row.run d ≡ read c r
    → (parts (cons t rest)).row.run b ≡ read c (longer (Some x) r)
row_steps b d c t rest x r e1 e2 = rw (e1, e2)

term_alone : {b c : Table} {t : Tree} {x : term.Tree} → IsTerm b t x c → (parts t).row ≡ (parts t).alone >>= λ x. give (ended x)
term_alone (an_int is) = refl
term_alone _ = refl

mutual
  alone_read : {b c : Table} {t : Tree} {x : term.Tree} → IsTerm b t x c → height x ≤ 10000 → (literal t).run b ≡ read c (Some x)
  alone_read (an_int is) low = rw is
  alone_read (a_name {before = b} e) low = rw (ap (outcome b) e)
  alone_read (a_tuple {behind = c} {x = x} is) low = let (r, ts, e, els, same) = elements_read is (omega arith) in rw (e, els, same) (ap (read c) (kept_low (term.tuple x) low))
  alone_read (a_list is) low = let (r, ts, e, els, same) = row_read is low in rw (e, els, same)

  elements_read : {b c : Table} {row : Tree} {x : term.Tree} → AreElements b row x c → highest x ≤ 10000 → ReadsElements b row x c
  elements_read no_element low = (ended (Some term.nil), [], refl, refl, refl)
  elements_read (an_element {before = b} {between = d} {behind = c} {t = t} {rest = rest} {x = x} {y = y} h hs) low =
      let (r, ts, e, els, same) = elements_read hs (omega arith) in
      (longer (Some x) r, x ∷ ts, row_steps b d c t rest x r (alone_read h (omega arith)) e, ap (with_first (Some x)) els, ap (term.cons x) same)

  row_read : {b c : Table} {row : Tree} {x : term.Tree} → IsRow b row x c → height x ≤ 10000 → ReadsRow b row x c
  row_read an_end low = (ended (Some term.nil), [], refl, refl, refl)
  row_read (a_tail {before = b} {t = t} {x = x} h) low =
      (ended (Some x), [], ap (λ q. q.run b) (term_alone h) ∙ ap (λ o. and_then o (λ x. give (ended x))) (alone_read h low), refl, refl)
  row_read (a_cell {before = b} {between = d} {behind = c} {t = t} {rest = rest} {x = x} {y = y} h hs) low =
      let (r, ts, e, els, same) = row_read hs (omega arith) in
      (longer (Some x) r, x ∷ ts, row_steps b d c t rest x r (alone_read h (omega arith)) e, ap (with_first (Some x)) els, ap (kept_cons x) same ∙ kept_low (term.cons x y) low)

pub term_read : (t : Tree) (b c : Table) (x : term.Tree) → IsTerm b t x c → height x ≤ 10000 → (literal t).run b ≡ read c (Some x)
term_read t b c x is low = alone_read is low
