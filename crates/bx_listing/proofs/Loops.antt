-- Rows that are read one after another: what is still read gives what all gave.
use Rattle.bx_listing.proofs.Known.{drop_more, drop_all, ◌≡◌, ℕ, ◌+◌, ◌<◌, ◌≤◌, List, [], ◌∷◌, ◌++◌, length, get_or, drop, true, Some, None, refl, sym, ap}
use Rattle.bx_listing.proofs.Known.{subst, ◌∙◌, append_assoc, slice_get, append-nil, drop_of_length-le, Tree, Fault, Memory, Sort, Slot, Operand, Table}
use Rattle.bx_listing.proofs.Known.{Outcome, read, refused, table_of, Begins, Begins-refl, Begins-trans, Reading, and_then, ◌>>=◌, give, each, stored, Takes}
use Rattle.bx_listing.proofs.Known.{Refused, simple, members, slot, row}
use Rattle.bx_listing.proofs.Lemmas.{refused_first, grown_after, takes_first, takes_after, wanting_stored, next_member, item_left, none_past}

-- what is left gives, seen so, what the whole gave, and takes memory only where that does
pub record Left {A B : Type 0} (view : Outcome A → Outcome B) (left : Reading A) (t : Table) (whole : Reading B) (old : Table) : Type 0 where
  pub so_far : view (left.run t) ≡ whole.run old
  pub wants : Takes left t → Takes whole old
  pub grown : Begins old t

-- what is read is seen with something put in, a refusal as it is
pub record IsView {A B : Type 0} (view : Outcome A → Outcome B) : Type 0 where
  pub table : (o : Outcome A) → table_of (view o) ≡ table_of o
  pub refusal : (t : Table) (fault : Fault) → view (refused t fault) ≡ refused t fault

pub plain_view : {A : Type 0} → IsView {A = A} (λ o. o)
plain_view = record { table = λ o. refl; refusal = λ t fault. refl }

module _ {A B : Type 0} {view : Outcome A → Outcome B} {left : Reading A} {t : Table} {whole : Reading B} {old : Table} (l : Left view left t whole old) where
  -- the refusal of what is left is the whole's
  pub left_refused : IsView view → (new : Table) (fault : Fault) → Refused t new fault left → Refused old new fault whole
  left_refused is new Memory h = (l.wants h.0, Begins-trans old t new l.grown h.1, subst (λ o. Begins new o) (sym (is.table (left.run t)) ∙ ap table_of l.so_far) h.2)
  left_refused is new fault h = sym l.so_far ∙ ap view h ∙ is.refusal new fault

  -- a step: what is left is the step, and then the rest
  pub left_next : {X C : Type 0} (first : Reading X) (next : X → Reading A) (mid : Table) (x : X) (seen : Outcome C → Outcome B) (rest : Reading C) → left ≡ (first >>= next) → first.run t ≡ read mid x
      → view ((next x).run mid) ≡ seen (rest.run mid) → (Takes rest mid → Takes (next x) mid) → Left seen rest mid whole old
  left_next first next mid x seen rest is h same takes = record {
    so_far = sym same ∙ sym (ap (λ o. view (and_then o next)) h) ∙ sym (ap (λ r. view (r.run t)) is) ∙ l.so_far;
    wants = λ k. l.wants (ap (λ r. r.takes t) is ∙ takes_after t mid first x next h (takes k));
    grown = grown_after first x old t mid l.grown h;
  }

  pub left_refuses : {X : Type 0} → IsView view → (first : Reading X) (next : X → Reading A) (new : Table) (fault : Fault) → left ≡ (first >>= next) → Refused t new fault first → Refused old new fault whole
  left_refuses v first next new fault is h = left_refused v new fault (subst (Refused t new fault) (sym is) (refused_first t new fault first next h))

  -- memory that runs out for what the step read
  pub left_memory : {X : Type 0} → IsView view → (first : Reading X) (next : X → Reading A) (mid : Table) (x : X) → left ≡ (stored first >>= next) → first.run t ≡ read mid x → Refused old mid Memory whole
  left_memory v first next mid x is h = left_refused v mid Memory (subst (Refused t mid Memory) (sym is) (wanting_stored (λ _. true) t mid first x next h refl))

-- members
abbrev pub more_members : List Operand → Sort → Sort → List Tree → ℕ → Operand → Reading (List Operand)
more_members done a b ts i o = members (done ++ o ∷ []) b a (drop (i + 1) ts)

pub members_left : (done : List Operand) (a b : Sort) (ts : List Tree) (i : ℕ) (t : Tree) → i < length ts → t ≡ get_or ts i t
    → members done a b (drop i ts) ≡ (stored (simple a t) >>= more_members done a b ts i)
members_left done a b ts i t h at = ap (members done a b) (next_member ts i t h at)

-- slots
abbrev pub more_slots : List Slot → List Tree → ℕ → List Operand → Reading (List Operand)
more_slots ss ts i more = row more (drop (i + 1) ss) (drop (i + 1) ts)

pub row_left : (done : List Operand) (ss : List Slot) (ts : List Tree) (i : ℕ) (k : Slot) (t : Tree) → i < length ss → slice_get ts i ≡ Some t
    → row done (drop i ss) (drop i ts) ≡ (slot done (get_or ss i k) t >>= more_slots ss ts i)
row_left done ss ts i k t h here =
    ap (λ us. row done us (drop i ts)) (drop_more ss i k h)
    ∙ ap (row done (get_or ss i k ∷ drop (i + 1) ss)) (item_left ts i t (sym here))

pub row_no_more : (done : List Operand) (ss : List Slot) (ts : List Tree) (i : ℕ) (s : Table) (whole : Outcome (List Operand)) → slice_get ts i ≡ None
    → (row done (drop i ss) (drop i ts)).run s ≡ whole → whole ≡ read s done
row_no_more done ss ts i s whole none so_far = sym so_far ∙ ap (λ zs. (row done (drop i ss) zs).run s) (drop_all i ts (none_past ts i (sym none))) ∙ by (drop i ss)
  where
    by : (us : List Slot) → (row done us []).run s ≡ read s done
    by [] = refl
    by (u ∷ us) = refl

-- each of a list: what was read so far stands before what is still read
abbrev pub resumed : {B : Type 0} → List B → Outcome (List B) → Outcome (List B)
resumed front (read texts ys) = read texts (front ++ ys)
resumed front (refused texts fault) = refused texts fault

pub resumed_view : {B : Type 0} (front : List B) → IsView (resumed front)
resumed_view {B = B} front = record { table = by; refusal = λ t fault. refl }
  where
    by : (o : Outcome (List B)) → table_of (resumed front o) ≡ table_of o
    by (read texts ys) = refl
    by (refused texts fault) = refl

resumed-start : {B : Type 0} (o : Outcome (List B)) → resumed [] o ≡ o
resumed-start (read texts ys) = refl
resumed-start (refused texts fault) = refl

resumed_more : {B : Type 0} (front : List B) (y : B) (o : Outcome (List B)) → resumed front (and_then o (λ ys. give (y ∷ ys))) ≡ resumed (front ++ y ∷ []) o
resumed_more front y (read texts ys) = ap (read texts) (sym (append_assoc front (y ∷ []) ys))
resumed_more front y (refused texts fault) = refl

-- what is done with those behind the first
abbrev pub each_behind : {A B : Type 0} → (A → Reading B) → List A → B → Reading (List B)
each_behind f xs y = each f xs >>= λ ys. give (y ∷ ys)

pub each_left : {A B : Type 0} (f : A → Reading B) (xs : List A) (i : ℕ) (x : A) → i < length xs → x ≡ get_or xs i x → each f (drop i xs) ≡ (stored (f x) >>= each_behind f (drop (i + 1) xs))
each_left f xs i x here at = ap (each f) (next_member xs i x here at)

pub each_starts : {A B : Type 0} (f : A → Reading B) (xs : List A) (front : List B) (t : Table) → front ≡ [] → Left (resumed front) (each f xs) t (each f xs) t
each_starts f xs front t none = record { so_far = rw none (resumed-start ((each f xs).run t)); wants = λ k. k; grown = Begins-refl t }

pub each_next : {A B : Type 0} (f : A → Reading B) (xs : List A) (i : ℕ) (x : A) (y : B) (front : List B) (old t mid : Table) → i < length xs → x ≡ get_or xs i x
    → Left (resumed front) (each f (drop i xs)) t (each f xs) old → (f x).run t ≡ read mid y → Left (resumed (front ++ y ∷ [])) (each f (drop (i + 1) xs)) mid (each f xs) old
each_next f xs i x y front old t mid here at l h =
    left_next l (stored (f x)) (each_behind f (drop (i + 1) xs)) mid y (resumed (front ++ y ∷ [])) (each f (drop (i + 1) xs)) (each_left f xs i x here at) h
    (resumed_more front y ((each f (drop (i + 1) xs)).run mid)) (takes_first mid (each f (drop (i + 1) xs)) (λ ys. give (y ∷ ys)))

pub each_ends : {A B : Type 0} (f : A → Reading B) (xs : List A) (i : ℕ) (front : List B) (whole : Outcome (List B)) (t : Table) → length xs ≤ i → resumed front ((each f (drop i xs)).run t) ≡ whole → whole ≡ read t front
each_ends f xs i front whole t past so_far = sym so_far ∙ (ap (λ zs. resumed front ((each f zs).run t)) (drop_of_length-le xs past) ∙ ap (read t) (append-nil front))
