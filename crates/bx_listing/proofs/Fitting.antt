-- An item that is read fits its opcode's row of the table.
use Rattle.bx_listing.proofs.Known.{◌≡◌, ℕ, ◌+◌, ◌≤◌, suc, Bool, true, false, List, ◌∷◌, ◌++◌, length, take, drop, Some, refl, ap, ◌∙◌, arith, nat_eq}
use Rattle.bx_listing.proofs.Known.{if◌then◌else◌, ◌==◌, nat_le, Decides-eqb, nat_tests, length-append, drop-append_seam, take-append_seam, Tree, Bif}
use Rattle.bx_listing.proofs.Known.{guard_bif, guard_bif_with, Sort, Slot, Operand, Item, Table, IsRegister, in_typed, IsValue, an_integer, an_atom, IsSource}
use Rattle.bx_listing.proofs.Known.{a_register, a_value, IsPlain, IsOperand, AreMembers, no_member, a_member, IsSlot, an_operand, a_list, pairs, a_size}
use Rattle.bx_listing.proofs.Known.{amounts, no_label, to_x0, AreSlots, no_slot, a_slot, IsItem}
use Rattle.std.specs.Cmp.Derive.{both_true}
use Rattle.bx_ops.proofs.GuardBifLemmas.{guard_bif_finds}
use Rattle.bx_listing.specs.Fits.{is_one, are_members, begin_members, is_row, fits}
use Rattle.bx_ops.specs.declared.sorts.Sort.TheVariants as sorts
use Rattle.bx_ops.specs.declared.sorts.Slot.TheVariants as slot_kinds
use Rattle.bx_listing.specs.declared.items.Operand.TheVariants as operands

register_fits : {t : Tree} {r : Operand} → IsRegister t r → (is_one sorts.Source r ≡ true) × (is_one sorts.Register r ≡ true)
register_fits (in_typed e r) = register_fits r
register_fits _ = (refl, refl)

value_fits : {b c : Table} {t : Tree} {o : Operand} → IsValue b t o c → (is_one sorts.Source o ≡ true) × (is_one sorts.Value o ≡ true)
value_fits (an_integer (s, n, e, is, same)) = (ap (is_one sorts.Source) same, ap (is_one sorts.Value) same)
value_fits (an_atom (u, a, e, h, same)) = (ap (is_one sorts.Source) same, ap (is_one sorts.Value) same)

source_fits : {b c : Table} {t : Tree} {o : Operand} → IsSource b t o c → is_one sorts.Source o ≡ true
source_fits (a_register r) = (register_fits r).0
source_fits (a_value v) = (value_fits v).0
source_fits _ = refl

label_fits : (zero_label : Bool) (n : ℕ) → is_one sorts.Fail (if zero_label then operands.NoLabel else operands.Label n) ≡ true
label_fits true n = refl
label_fits false n = refl

arity_is : (n : ℕ) (text : List ℕ) (bif : Bif) → guard_bif_with text n ≡ Some bif → ((guard_bif bif).arity == n) ≡ true
arity_is n text bif found = (Decides-eqb (guard_bif bif).arity n).1 ((guard_bif_finds text n bif).0 found).1

plain_fits : (s : Sort) (t : Tree) (o : Operand) → IsPlain s t o → is_one s o ≡ true
plain_fits sorts.Register t o r = (register_fits r).1
plain_fits sorts.YRegister t o (n, r, same) = ap (is_one sorts.YRegister) same
plain_fits sorts.Target t o (n, at, same) = ap (is_one sorts.Target) same
plain_fits sorts.Fail t o (n, at, same) = ap (is_one sorts.Fail) same ∙ label_fits (nat_eq n 0) n
plain_fits sorts.Place t o (n, at, same) = ap (is_one sorts.Place) same
plain_fits sorts.Number t o (n, at, same) = ap (is_one sorts.Number) same
plain_fits sorts.Arity t o (n, at, same) = ap (is_one sorts.Arity) same
plain_fits sorts.Bif0 t o (text, bif, w, found, same) = ap (is_one sorts.Bif0) same ∙ arity_is 0 text bif found
plain_fits sorts.Bif1 t o (text, bif, w, found, same) = ap (is_one sorts.Bif1) same ∙ arity_is 1 text bif found
plain_fits sorts.Bif2 t o (text, bif, w, found, same) = ap (is_one sorts.Bif2) same ∙ arity_is 2 text bif found
plain_fits sorts.Mark t o same = ap (is_one sorts.Mark) same
plain_fits s t o h = absurd h

operand_fits : (b c : Table) (s : Sort) (t : Tree) (o : Operand) → IsOperand b s t o c → is_one s o ≡ true
operand_fits b c sorts.Source t o h = source_fits h
operand_fits b c sorts.Value t o h = (value_fits h).1
operand_fits b c sorts.Atom t o (u, a, e, h, same) = ap (is_one sorts.Atom) same
operand_fits b c sorts.Callee t o (m, f, a, d, i, e, x, y, n, same) = ap (is_one sorts.Callee) same
operand_fits b c sorts.Amount t o (kind, n, a, e, x, y, same) = ap (is_one sorts.Amount) same
operand_fits b c s t o h = plain_fits s t o h.0

members_fit : {b c : Table} {this next : Sort} {ts : List Tree} {os : List Operand} → AreMembers b this next ts os c → are_members this next os ≡ true
members_fit no_member = refl
members_fit (a_member {before = b} {between = c} {this = this} {t = t} {o = o} x more) = both_true (operand_fits b c this t o x) (members_fit more)

members_length : {b c : Table} {this next : Sort} {ts : List Tree} {os : List Operand} → AreMembers b this next ts os c → length ts ≡ length os
members_length no_member = refl
members_length (a_member x more) = ap suc (members_length more)

is_le : (n m : ℕ) → n ≤ m → nat_le n m ≡ true
is_le n m h = grind (arith, nat_tests)

-- members of a list, and what comes behind them
begin_fits : (n : ℕ) (this next : Sort) (ms more : List Operand) → n ≡ length ms → are_members this next ms ≡ true → begin_members n this next (ms ++ more) ≡ true
begin_fits n this next ms more count fit =
    let all : length (ms ++ more) ≡ length ms + length more = length-append ms more in
    let there : n ≤ length (ms ++ more) = omega (arith, all, count) in
    let own : take n (ms ++ more) ≡ ms = ap (λ k. take k (ms ++ more)) count ∙ take-append_seam ms more in
    both_true (is_le n (length (ms ++ more)) there) (ap (are_members this next) own ∙ fit)

rest_fits : (n : ℕ) (ss : List Slot) (ms more : List Operand) → n ≡ length ms → is_row ss more ≡ true → is_row ss (drop n (ms ++ more)) ≡ true
rest_fits n ss ms more count fit = ap (λ k. is_row ss (drop k (ms ++ more))) count ∙ ap (is_row ss) (drop-append_seam ms more) ∙ fit

slot_fits : {b c : Table} {s : Slot} {t : Tree} {os : List Operand} → IsSlot b s t os c → (ss : List Slot) (more : List Operand) → is_row ss more ≡ true → is_row (s ∷ ss) (os ++ more) ≡ true
slot_fits (an_operand {sort = s} {t = t} {o = o} {behind = c} x) ss more fit = both_true (operand_fits _ c s t o x) fit
slot_fits (a_list {sort = s} {ts = ts} {os = ms} at are) ss more fit =
    both_true (begin_fits (length ts) s s ms more (members_length are) (members_fit are)) (rest_fits (length ts) ss ms more (members_length are) fit)
slot_fits (pairs {first = a} {second = d} {ts = ts} {os = ms} at even are) ss more fit =
    both_true even (both_true (begin_fits (length ts) a d ms more (members_length are) (members_fit are)) (rest_fits (length ts) ss ms more (members_length are) fit))
slot_fits (no_label at) ss more fit = fit
slot_fits (to_x0 at) ss more fit = fit
slot_fits (a_size {o = o} ((n, at, same), e)) ss more fit = ap (λ o. is_row (slot_kinds.Heap ∷ ss) (o ∷ more)) same ∙ fit
slot_fits (amounts {ts = ts} {os = ms} at are) ss more fit =
    both_true (begin_fits (length ts) sorts.Amount sorts.Amount ms more (members_length are) (members_fit are)) (rest_fits (length ts) ss ms more (members_length are) fit)

row_fits : {b c : Table} {ss : List Slot} {ts : List Tree} {os : List Operand} → AreSlots b ss ts os c → is_row ss os ≡ true
row_fits no_slot = refl
row_fits (a_slot {ss = ss} {more = more} x are) = slot_fits x ss more (row_fits are)

pub item_fits : (b c : Table) (t : Tree) (i : Item) → IsItem b t i c → fits i ≡ true
item_fits b c t i (ts, written, are, agree) = both_true (row_fits are) agree
