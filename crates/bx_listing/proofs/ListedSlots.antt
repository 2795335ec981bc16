-- What is read slot by slot stands in the places, and is read so wherever it stands there.
use Rattle.bx_listing.proofs.Known.{ap, Bool, if◌then◌else◌, bad_operand, Tuple, ◌≡◌, ℕ, suc, true, false, List, [], ◌∷◌, ◌++◌, length, drop, Option, Some}
use Rattle.bx_listing.proofs.Known.{None, refl, sym, subst, ◌∙◌, append_assoc, option_map, append-nil, drop-append_seam, Decides-eqb, Tree, integer, Op, Sort}
use Rattle.bx_listing.proofs.Known.{Slot, slots, Operand, OperandWord, Table, Reading, read, give, no_line, tagged, shape, number, proper, list_elements, label}
use Rattle.bx_listing.proofs.Known.{register, simple, members, slot, row, formed_item, Read, IsRegister, IsOperand, AreMembers, no_member, a_member, IsList}
use Rattle.bx_listing.proofs.Known.{IsSlot, an_operand, a_list, pairs, AreAmounts, a_size, no_label, to_x0, AreSlots, no_slot, a_slot}
use Rattle.bx_listing.proofs.Lemmas.{some_then, by_operand_word, given, after_read, after_wanted, Written, AllWritten, parts_written, an_integer_term}
use Rattle.bx_listing.proofs.Lemmas.{a_list_term, Rest, no_rest, a_last, a_first, IsOperandWord}
use Rattle.bx_listing.proofs.ListedOperands.{at_word, operand_is, operand_read, target_is, target_read, register_is, register_read}
use Rattle.bx_listing.specs.Rows.{listed_of, listed_in, listed, is_even, is_label, is_x, list_of, pairs_of, amounts_of, amounts_in, amounts, heap_of, agrees}
use Rattle.bx_listing.specs.{Rows.agreed, ListedItems.amounts as some_amounts}
use Rattle.bx_terms.specs.declared.faults.Fault.TheVariants as faults
use Rattle.bx_ops.specs.declared.sorts.Sort.TheVariants as sorts
use Rattle.bx_ops.specs.declared.sorts.Slot.TheVariants as slot_kinds
use Rattle.bx_listing.specs.declared.items.Operand.TheVariants as operands
use Rattle.bx_listing.specs.declared.words.OperandWord.TheVariants as words

-- so much more was read
abbrev pub Adds : {A : Type 0} → List A → List A → (List A → Type 0) → Type 0
Adds {A} done all P = (os : List A) × (all ≡ done ++ os) × P os

pub members_are : (done : List Operand) (this next : Sort) (ts : List Tree) (b c : Table) (all : List Operand) → AllWritten ts
    → (members done this next ts).run b ≡ read c all → Adds done all (λ os. AreMembers b this next ts os c)
members_are done this next [] b c all w h = given (λ all c. Adds done all (λ os. AreMembers b this next [] os c)) done all b c h ([], sym (append-nil done), no_member)
members_are done this next (t ∷ ts) b c all w h =
    after_read ((simple this t).run b) (λ o. members (done ++ o ∷ []) next this ts) c all (λ d o e1 h1.
    let (os, is, more) = members_are (done ++ o ∷ []) next this ts d c all w.1 h1 in
    (o ∷ os, is ∙ append_assoc done (o ∷ []) os, a_member (operand_is this t b d o w.0 e1) more)) h

pub members_read : (done : List Operand) {this next : Sort} {ts : List Tree} {b c : Table} {os : List Operand} → AreMembers b this next ts os c
    → (members done this next ts).run b ≡ read c (done ++ os)
members_read done (no_member {before = b}) = ap (read b) (sym (append-nil done))
members_read done (a_member {before = b} {between = d} {this = this} {t = t} {o = o} {os = os} x more) =
    rw (operand_read this t b d o x, members_read (done ++ o ∷ []) more, append_assoc done (o ∷ []) os)

list_is : (t : Tree) (ts : List Tree) → listed t ≡ Some ts → IsList t ts
list_is t ts = by_operand_word listed_in listed_of t (Some ts) (λ w us. refl) (λ w h. cc) (λ h. cc) by
  where
    by : (text : List ℕ) (k : OperandWord) (parts : List Tree) → IsOperandWord text k → shape t ≡ tagged text parts → listed_of k parts ≡ Some ts → IsList t ts
    by text words.List (l ∷ []) is e h = (l, at_word t e is, h)
    by text k parts is e h = absurd (cc)

list_read : (t : Tree) (ts : List Tree) → IsList t ts → listed t ≡ Some ts
list_read t ts (l, e, h) = rw (e, h)

amounts_are : (t : Tree) (ts : List Tree) → amounts t ≡ Some ts → AreAmounts t ts
amounts_are t ts = by_operand_word amounts_in amounts_of t (Some ts) (λ w us. refl) (λ w h. cc) (λ h. cc) by
  where
    by : (text : List ℕ) (k : OperandWord) (parts : List Tree) → IsOperandWord text k → shape t ≡ tagged text parts → amounts_of k parts ≡ Some ts → AreAmounts t ts
    by text words.Amounts (l ∷ []) is e h = (l, at_word t e is, h)
    by text k parts is e h = absurd (cc)

amounts_read : (t : Tree) (ts : List Tree) → AreAmounts t ts → amounts t ≡ Some ts
amounts_read t ts (l, e, h) = rw (e, h)

-- a number is no list of amounts
number_alone : (t : Tree) (n : ℕ) → number t ≡ Some n → amounts t ≡ None
number_alone (integer s i) n e = refl
number_alone _ n e = absurd (cc)

size_alone : (t : Tree) (o : Operand) (b c : Table) → IsOperand b sorts.Number t o c → amounts t ≡ None
size_alone t o b c ((n, at, same), eq) = number_alone t n at

proper_written : {row : Tree} (ts : List Tree) → Rest row → proper row ≡ Some ts → AllWritten ts
proper_written ts no_rest e = let same : [] ≡ ts = cc in subst AllWritten same tt
proper_written ts (a_last an_integer_term) e = absurd (cc)
proper_written ts (a_last _) e = absurd (cc)
proper_written ts (a_first {t = t} {rest = rest} w more) e =
    some_then (option_map (λ us. t ∷ us)) (Some ts) (proper rest) (λ h. cc) (λ us is h. let same : t ∷ us ≡ ts = cc in subst AllWritten same (w, proper_written us more is)) e

pub elements_written : (t : Tree) (ts : List Tree) → Written t → list_elements t ≡ Some ts → AllWritten ts
elements_written t ts (a_list_term r) e = proper_written ts r e
elements_written t ts _ e = absurd (cc)

listed_written : {t l : Tree} {word : List ℕ} (ts : List Tree) → Written t → Tuple t word (l ∷ []) → list_elements l ≡ Some ts → AllWritten ts
listed_written {l = l} {word = word} ts w e h = elements_written l ts (parts_written w word (l ∷ []) e).0 h

list_slot_is : (done : List Operand) (this next : Sort) (ts : List Tree) (b c : Table) (all : List Operand) → AllWritten ts
    → (list_of done this next ts).run b ≡ read c all → Adds done all (λ os. (more : List Operand) × (os ≡ operands.List (length ts) ∷ more) × AreMembers b this next ts more c)
list_slot_is done this next ts b c all w h =
    let (os, is, are) = members_are (done ++ operands.List (length ts) ∷ []) this next ts b c all w h in
    (operands.List (length ts) ∷ os, is ∙ append_assoc done (operands.List (length ts) ∷ []) os, (os, refl, are))

is_x_zero : (t : Tree) (o : Option Operand) → register t ≡ o → is_x 0 o ≡ true → IsRegister t (operands.X 0)
is_x_zero t (Some (operands.X n)) e h = register_is t (operands.X 0) (e ∙ ap (λ n. Some (operands.X n)) ((Decides-eqb n 0).0 h))
is_x_zero t _ e h = absurd (cc)

-- a test that held
tested : {A : Type 0} (test : Bool) (good : Reading A) (b c : Table) (all : A) → (if test then good else bad_operand).run b ≡ read c all → (test ≡ true) × (good.run b ≡ read c all)
tested true good b c all h = (refl, h)
tested false good b c all h = absurd (cc)

pub slot_is : (done : List Operand) (s : Slot) (t : Tree) (b c : Table) (all : List Operand) → Written t → (slot done s t).run b ≡ read c all → Adds done all (λ os. IsSlot b s t os c)
slot_is done (slot_kinds.One sort) t b c all w h =
    after_read ((simple sort t).run b) (λ o. give (done ++ o ∷ [])) c all (λ d o e1 h1.
    given (λ all c. Adds done all (λ os. IsSlot b (slot_kinds.One sort) t os c)) (done ++ o ∷ []) all d c h1 (o ∷ [], refl, an_operand (operand_is sort t b d o w e1))) h
slot_is done (slot_kinds.Many sort) t b c all w h =
    after_wanted (faults.BadOperand no_line) (listed t) (list_of done sort sort) b c all (λ ts e h1.
    let at = list_is t ts e in
    let (os, is, (more, same, are)) = list_slot_is done sort sort ts b c all (listed_written ts w at.1 at.2) h1 in
    (operands.List (length ts) ∷ more, is ∙ ap (λ os. done ++ os) same, a_list at are)) h
slot_is done (slot_kinds.Pairs first second) t b c all w h =
    after_wanted (faults.BadOperand no_line) (listed t) (pairs_of done first second) b c all (λ ts e h1.
    let at = list_is t ts e in
    let (even, h2) = tested (is_even ts) (list_of done first second ts) b c all h1 in
    let (os, is, (more, same, are)) = list_slot_is done first second ts b c all (listed_written ts w at.1 at.2) h2 in
    (operands.List (length ts) ∷ more, is ∙ ap (λ os. done ++ os) same, pairs at even are)) h
slot_is done slot_kinds.NoLabel t b c all w h =
    let (zero, h1) = tested (is_label 0 (label t)) (give done) b c all h in
    given (λ all c. Adds done all (λ os. IsSlot b slot_kinds.NoLabel t os c)) done all b c h1 ([], sym (append-nil done), no_label (some_then (is_label 0) true (label t) (λ h. cc) (λ n e h. target_is t 0 (e ∙ ap Some ((Decides-eqb n 0).0 h))) zero))
slot_is done slot_kinds.ToX0 t b c all w h =
    let (zero, h1) = tested (is_x 0 (register t)) (give done) b c all h in
    given (λ all c. Adds done all (λ os. IsSlot b slot_kinds.ToX0 t os c)) done all b c h1 ([], sym (append-nil done), to_x0 (is_x_zero t (register t) refl zero))
slot_is done slot_kinds.Heap t b c all w h = by (amounts t) refl h
  where
    by : (o : Option (List Tree)) → amounts t ≡ o → (heap_of done t o).run b ≡ read c all → Adds done all (λ os. IsSlot b slot_kinds.Heap t os c)
    by (Some ts) e h =
        let at = amounts_are t ts e in
        let (os, is, (more, same, are)) = list_slot_is done sorts.Amount sorts.Amount ts b c all (listed_written ts w at.1 at.2) h in
        (operands.List (length ts) ∷ more, is ∙ ap (λ os. done ++ os) same, some_amounts at are)
    by None e h =
        after_read ((simple sorts.Number t).run b) (λ o. give (done ++ o ∷ [])) c all (λ d o e1 h1.
        given (λ all c. Adds done all (λ os. IsSlot b slot_kinds.Heap t os c)) (done ++ o ∷ []) all d c h1 (o ∷ [], refl, a_size (operand_is sorts.Number t b d o w e1))) h

pub slot_read : (done : List Operand) {s : Slot} {t : Tree} {b c : Table} {os : List Operand} → IsSlot b s t os c → (slot done s t).run b ≡ read c (done ++ os)
slot_read done {b = b} {c = c} (an_operand {sort = sort} {t = t} {o = o} x) = rw (operand_read sort t b c o x)
slot_read done (a_list {t = t} {ts = ts} {os = os} at are) =
    rw (list_read t ts at, members_read (done ++ operands.List (length ts) ∷ []) are, append_assoc done (operands.List (length ts) ∷ []) os)
slot_read done {b = b} {c = c} (pairs {first = first} {second = second} {t = t} {ts = ts} {os = os} at even are) =
    rw (list_read t ts at)
    (ap (λ (test : Bool). (if test then list_of done first second ts else bad_operand).run b) even ∙ members_read (done ++ operands.List (length ts) ∷ []) are
    ∙ ap (read c) (append_assoc done (operands.List (length ts) ∷ []) os))
slot_read done {b = b} {c = c} (a_size {t = t} {o = o} x) = rw (size_alone t o b c x, operand_read sorts.Number t b c o x)
slot_read done (some_amounts {t = t} {ts = ts} {os = os} at are) =
    rw (amounts_read t ts at, members_read (done ++ operands.List (length ts) ∷ []) are, append_assoc done (operands.List (length ts) ∷ []) os)
slot_read done (no_label {t = t} at) = rw (target_read t 0 at, append-nil)
slot_read done (to_x0 at) = rw (register_read at, append-nil)

pub row_is : (done : List Operand) (ss : List Slot) (ts : List Tree) (b c : Table) (all : List Operand) → AllWritten ts → length ts ≡ length ss
    → (row done ss ts).run b ≡ read c all → Adds done all (λ os. AreSlots b ss ts os c)
row_is done [] [] b c all w n h = given (λ all c. Adds done all (λ os. AreSlots b [] [] os c)) done all b c h ([], sym (append-nil done), no_slot)
row_is done (s ∷ ss) (t ∷ ts) b c all w n h =
    after_read ((slot done s t).run b) (λ more. row more ss ts) c all (λ d more e1 h1.
    let (os, is, at) = slot_is done s t b d more w.0 e1 in
    let same : length ts ≡ length ss = cc in
    let (us, is2, are) = row_is more ss ts d c all w.1 same h1 in
    (os ++ us, is2 ∙ ap (λ xs. xs ++ us) is ∙ append_assoc done os us, a_slot at are)) h
row_is done _ _ b c all w n h = absurd (cc)

pub row_read : (done : List Operand) {ss : List Slot} {ts : List Tree} {b c : Table} {os : List Operand} → AreSlots b ss ts os c → (row done ss ts).run b ≡ read c (done ++ os)
row_read done (no_slot {before = b}) = ap (read b) (sym (append-nil done))
row_read done (a_slot {os = os} {more = more} x are) = rw (slot_read done x, row_read (done ++ os) are, append_assoc done os more)

pub slots_length : {ss : List Slot} {ts : List Tree} {b c : Table} {os : List Operand} → AreSlots b ss ts os c → length ts ≡ length ss
slots_length no_slot = refl
slots_length (a_slot x are) = ap suc (slots_length are)

-- the operands of one instruction
pub formed_is : (done : List Operand) (op : Op) (ts : List Tree) (b c : Table) (x : Read) → AllWritten ts → length ts ≡ length (slots op)
    → (formed_item done (op, ts)).run b ≡ read c x → (os : List Operand) × (x ≡ (Some op, done ++ os)) × AreSlots b (slots op) ts os c × (agrees os ≡ true)
formed_is done op ts b c x w n h =
    after_read ((row done (slots op) ts).run b) (agreed op done) c x (λ d all e1 h1.
    let (os, is, are) = row_is done (slots op) ts b d all w n e1 in
    let (agree, h2) = tested (agrees (drop (length done) all)) (give (Some op, all)) d c x h1 in
    let here : drop (length done) all ≡ os = ap (drop (length done)) is ∙ drop-append_seam done os in
    given (λ x c. (os : List Operand) × (x ≡ (Some op, done ++ os)) × AreSlots b (slots op) ts os c × (agrees os ≡ true)) (Some op, all) x d c h2
    (os, ap (λ all. (Some op, all)) is, are, sym (ap agrees here) ∙ agree)) h

pub formed_read : (done : List Operand) (op : Op) (ts : List Tree) (b c : Table) (os : List Operand) → AreSlots b (slots op) ts os c → agrees os ≡ true
    → (formed_item done (op, ts)).run b ≡ read c (Some op, done ++ os)
formed_read done op ts b c os are agree =
    rw (row_read done are) (ap (λ (test : Bool). (if test then give (Some op, done ++ os) else bad_operand).run c) (ap agrees (drop-append_seam done os) ∙ agree))
