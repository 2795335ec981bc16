-- The text of operands in their places is read as the same operands.
use Rattle.std.proofs.Common.{◌≡◌, ℕ, zero, suc, ◌+◌, ◌%◌, Bool, true, false, ◌&&◌, List, [], ◌∷◌, ◌++◌, map, length, take, drop, Some, refl, sym, ap, ◌∙◌, subst, arith, codes, append_assoc, take-append-drop, leb-true}
use Rattle.std.proofs.lemmas.Bool.{and_parts}
use Rattle.std.specs.Prelude.{nat_le, nat_lt, ◌==◌}
use Rattle.std.proofs.lemmas.List.{length-take-le}
use Rattle.std.specs.List.{AllByRecursion, list_all}
use Rattle.bx_terms.specs.AtomTable.{IsAtomTable}
use Rattle.bx_terms.specs.AtomText.{printed_atom}
use Rattle.bx_text.specs.Tree.{Tree}
use Rattle.bx_ops.specs.declared.sorts.Sort.{Sort}
use Rattle.bx_ops.specs.declared.sorts.Sort.TheVariants as sorts
use Rattle.bx_ops.specs.declared.sorts.Slot.{Slot}
use Rattle.bx_ops.specs.declared.sorts.Slot.TheVariants as slot_kinds
use Rattle.bx_listing.specs.declared.items.Operand.{Operand}
use Rattle.bx_listing.specs.declared.items.Operand.TheVariants as operands
use Rattle.bx_listing.specs.Reading.{Table}
use Rattle.bx_listing.specs.Shape.{list_elements}
use Rattle.bx_listing.specs.ListedItems.{Tuple, AreMembers, no_member, a_member, IsSlot, an_operand, a_list, pairs, a_size, amounts, AreSlots, no_slot, a_slot}
use Rattle.bx_listing.specs.Writing.{operand_text, list_text, slot_text, operand_span, slot_span, slots_text}
use Rattle.bx_listing.specs.Fits.{is_one, are_members, begin_members}
use Rattle.bx_listing_laws.specs.Writable.{IsWritableOperand}
use Rattle.bx_listing_laws.proofs.Rows as rows
use Rattle.bx_listing_laws.proofs.Rows.{IsRow, end, one, many, size}
use Rattle.bx_listing_laws.proofs.Trees.{Printed, PrintedAll, weaker, reworded, behind, between, joined_is, none_printed, more_printed, list_printed, nothing_printed}
use Rattle.bx_listing_laws.proofs.WrittenOperands.{single, suits, operand_printed}

list_text_is : (names : Table) (os : List Operand) → list_text names os ≡ 91 ∷ between (map (operand_text names) os) (93 ∷ [])
list_text_is names [] = refl
list_text_is names (o ∷ os) = ap (λ w. 91 ∷ w) (joined_is (operand_text names) o os (93 ∷ []))

all_taken : (P : Operand → Type 0) (n : ℕ) (os : List Operand) → AllByRecursion P os → AllByRecursion P (take n os)
all_taken P (suc n) (o ∷ os) a = (a.0, all_taken P n os a.1)
all_taken P _ _ a = tt

all_left : (P : Operand → Type 0) (n : ℕ) (os : List Operand) → AllByRecursion P os → AllByRecursion P (drop n os)
all_left P zero os a = a
all_left P (suc n) [] a = tt
all_left P (suc n) (o ∷ os) a = all_left P n os a.1

-- members of a list

members_printed : (d k : ℕ) (names : Table) (this next : Sort) (os : List Operand) → IsAtomTable names → are_members this next os ≡ true → AllByRecursion (IsWritableOperand names k) os
    → suits d k this ≡ true → suits d k next ≡ true → PrintedAll (suc d) (map (operand_text names) os) (λ us. AreMembers names this next us os names)
members_printed d k names this next [] table e a s t = none_printed no_member
members_printed d k names this next (o ∷ os) table e a s t =
    let fit = and_parts (is_one this o) (are_members next this os) e in
    more_printed (operand_printed d k names this o table fit.0 a.0 s) (members_printed d k names next this os table fit.1 a.1 t s) (λ u us is are. a_member is are)

members_length : {b c : Table} {this next : Sort} {ts : List Tree} {os : List Operand} → AreMembers b this next ts os c → length ts ≡ length os
members_length no_member = refl
members_length (a_member x more) = ap suc (members_length more)

-- `[V,..]`
pub list_of : {d : ℕ} (names : Table) (os : List Operand) {Are : List Tree → Type 0} → PrintedAll d (map (operand_text names) os) Are
    → Printed (suc d) (list_text names os) (λ u. (us : List Tree) × (list_elements u ≡ Some us) × Are us)
list_of {d} names os ps = reworded (sym (list_text_is names os)) (list_printed d ps (λ u us is are. (us, is, are)))

-- what stands in one place: its text, and the operands that it is read as
record SlotPrinted (d : ℕ) (names : Table) (s : Slot) (os front : List Operand) : Type 0 where
  text : List ℕ
  is : slot_text names s os ≡ 44 ∷ text
  printed : Printed d text (λ u. IsSlot names s u front names)

mark_is_nil : (o : Operand) → is_one sorts.Mark o ≡ true → o ≡ operands.Nil
mark_is_nil operands.Nil e = refl
mark_is_nil _ e = absurd (cc)

one_slot : (d k : ℕ) (names : Table) (s : Sort) (o : Operand) (os : List Operand) → IsAtomTable names → is_one s o ≡ true → IsWritableOperand names k o → suits d k s ≡ true
    → SlotPrinted (suc d) names (slot_kinds.One s) (o ∷ os) (o ∷ [])
one_slot d k names sorts.Mark o os table e h l = record { text = codes "[]"; is = refl; printed = nothing_printed d (λ u. an_operand (mark_is_nil o e, refl)) }
one_slot d k names s o os table e h l = record { text = operand_text names o; is = refl; printed = weaker (λ u i. an_operand i) (operand_printed d k names s o table e h l) }

-- `{w,[V,..]}`
list_slot : (d k : ℕ) (names : Table) (w : List ℕ) (slot : Slot) (s t : Sort) (n : ℕ) (os : List Operand) → IsAtomTable names → list_all (λ b. nat_lt b 128) w ≡ true
    → slot_text names slot (operands.List n ∷ os) ≡ 44 ∷ 123 ∷ (printed_atom w ++ 44 ∷ (list_text names (take n os) ++ 125 ∷ []))
    → begin_members n s t os ≡ true → AllByRecursion (IsWritableOperand names k) os → suits d k s ≡ true → suits d k t ≡ true
    → ((u v : Tree) (ts : List Tree) → Tuple u w (v ∷ []) → list_elements v ≡ Some ts → length ts ≡ n → AreMembers names s t ts (take n os) names
    → IsSlot names slot u (operands.List (length ts) ∷ take n os) names)
    → SlotPrinted (suc (suc (suc d))) names slot (operands.List n ∷ os) (operands.List n ∷ take n os)
list_slot d k names w slot s t n os table low is fit a l m made =
    let (enough, members) = and_parts (nat_le n (length os)) (are_members s t (take n os)) fit in
    record {
      text = 123 ∷ (printed_atom w ++ 44 ∷ (list_text names (take n os) ++ 125 ∷ []));
      is = is;
      printed = single (suc (suc d)) w low (list_of names (take n os) (members_printed d k names s t (take n os) table members (all_taken (IsWritableOperand names k) n os a) l m)) (λ u v at x.
          let count : length x.0 ≡ n = members_length x.2 ∙ length-take-le n os (leb-true n (length os) enough) in
          subst (λ m. IsSlot names slot u (operands.List m ∷ take n os) names) count (made u v x.0 at x.1 count x.2));
    }

-- a size of the heap that is a number
size_slot : (d k n : ℕ) (names : Table) (os : List Operand) → IsAtomTable names → IsWritableOperand names k (operands.Number n)
    → SlotPrinted (suc d) names slot_kinds.Heap (operands.Number n ∷ os) (operands.Number n ∷ [])
size_slot d k n names os table h =
    record { text = operand_text names (operands.Number n); is = refl; printed = weaker (λ u i. a_size i) (operand_printed d k names sorts.Number (operands.Number n) table refl h refl) }

-- the places of an instruction

pub record RowPrinted (d : ℕ) (names : Table) (ss : List Slot) (os : List Operand) : Type 0 where
  pub texts : List (List ℕ)
  pub is : (end : List ℕ) → slots_text names ss os ++ end ≡ behind texts end
  pub printed : PrintedAll d texts (λ us. AreSlots names ss us os names)

-- one place more, before those behind it
place_ahead : {d : ℕ} {names : Table} {s : Slot} {ss : List Slot} {os front more : List Operand} → SlotPrinted d names s os front → drop (slot_span s os) os ≡ more → front ++ more ≡ os
    → RowPrinted d names ss more → RowPrinted d names (s ∷ ss) os
place_ahead {names = names} {s = s} {ss = ss} {os = os} {front = front} {more = more} p left whole r = record {
  texts = p.text ∷ r.texts;
  is = λ end.
      ap (λ w. (w ++ slots_text names ss (drop (slot_span s os) os)) ++ end) p.is
      ∙ ap (λ w. 44 ∷ w) (append_assoc p.text (slots_text names ss (drop (slot_span s os) os)) end
      ∙ ap (λ w. p.text ++ w) (ap (λ os. slots_text names ss os ++ end) left ∙ r.is end));
  printed = more_printed p.printed r.printed (λ u us i are. subst (λ os. AreSlots names (s ∷ ss) (u ∷ us) os names) whole (a_slot i are));
}

list_ahead : {d n : ℕ} {names : Table} {s : Slot} {ss : List Slot} {os : List Operand} → drop (slot_span s (operands.List n ∷ os)) (operands.List n ∷ os) ≡ drop (1 + n) (operands.List n ∷ os)
    → SlotPrinted d names s (operands.List n ∷ os) (operands.List n ∷ take n os) → RowPrinted d names ss (drop n os) → RowPrinted d names (s ∷ ss) (operands.List n ∷ os)
list_ahead {n = n} {os = os} left p r =
    let count : 1 + n ≡ suc n = omega arith in
    place_ahead p (left ∙ ap (λ k. drop k (operands.List n ∷ os)) count) (ap (λ os. operands.List n ∷ os) (take-append-drop n os)) r

-- which of a row's literals fit where they stand; labels and registers that are no operands stand in no row that is written plainly
abbrev pub suits_slot : ℕ → ℕ → Slot → Bool
suits_slot d k (slot_kinds.One s) = suits (suc (suc d)) k s
suits_slot d k (slot_kinds.Many s) = suits d k s
suits_slot d k (slot_kinds.Pairs s t) = suits d k s && suits d k t
suits_slot d k slot_kinds.Heap = true
suits_slot d k _ = false

abbrev pub suit_all : ℕ → ℕ → List Slot → Bool
suit_all d k [] = true
suit_all d k (s ∷ ss) = suits_slot d k s && suit_all d k ss

one_span : (s : Sort) (o : Operand) (os : List Operand) → is_one s o ≡ true → drop (operand_span (o ∷ os)) (o ∷ os) ≡ os
one_span s o os e = grind arith

pub row_printed : (d k : ℕ) (names : Table) {ss : List Slot} {os : List Operand} → IsAtomTable names → IsRow ss os → AllByRecursion (IsWritableOperand names k) os → suit_all d k ss ≡ true
    → RowPrinted (suc (suc (suc d))) names ss os
row_printed d k names table end a l = record { texts = []; is = λ end. refl; printed = none_printed no_slot }
row_printed d k names table (one {s = s} {o = o} {ss = ss} {os = os} fit row) a l =
    let (room, more) = and_parts (suits (suc (suc d)) k s) (suit_all d k ss) l in
    place_ahead (one_slot (suc (suc d)) k names s o os table fit a.0 room) (one_span s o os fit) refl (row_printed d k names table row a.1 more)
row_printed d k names table (many {s = s} {n = n} {ss = ss} {os = os} fit row) a l =
    let (room, more) = and_parts (suits d k s) (suit_all d k ss) l in
    list_ahead refl (list_slot d k names (codes "list") (slot_kinds.Many s) s s n os table refl refl fit a.1 room room (λ u v ts at listed count are. a_list (v, at, listed) are))
    (row_printed d k names table row (all_left (IsWritableOperand names k) n os a.1) more)
row_printed d k names table (rows.pairs {s = s} {t = t} {n = n} {ss = ss} {os = os} even fit row) a l =
    let (rooms, more) = and_parts (suits d k s && suits d k t) (suit_all d k ss) l in
    let (room, other) = and_parts (suits d k s) (suits d k t) rooms in
    list_ahead refl
    (list_slot d k names (codes "list") (slot_kinds.Pairs s t) s t n os table refl refl fit a.1 room other (λ u v ts at listed count are. pairs (v, at, listed) (ap (λ m. m % 2 == 0) count ∙ even) are))
    (row_printed d k names table row (all_left (IsWritableOperand names k) n os a.1) more)
row_printed d k names table (size {n = n} {os = os} row) a l =
    place_ahead (size_slot (suc (suc d)) k n names os table a.0) refl refl (row_printed d k names table row a.1 l)
row_printed d k names table (rows.amounts {n = n} {os = os} fit row) a l =
    list_ahead refl
    (list_slot d k names (codes "alloc") slot_kinds.Heap sorts.Amount sorts.Amount n os table refl refl fit a.1 refl refl (λ u v ts at listed count are. amounts (v, at, listed) are))
    (row_printed d k names table row (all_left (IsWritableOperand names k) n os a.1) l)
row_printed d k names table _ a l = absurd (cc)
