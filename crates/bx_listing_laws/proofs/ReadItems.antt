-- An item that was read is one that can be written.
use Rattle.std.proofs.Common.{◌≡◌, ◌≢◌, ℕ, suc, ◌≤◌, Bool, true, false, ◌&&◌, List, [], ◌∷◌, ◌++◌, length, drop, Some, refl, sym, subst, arith, codes, leb-true, length-append, nat_eq, if◌then◌else◌}
use Rattle.std.proofs.lemmas.Bool.{and_parts}
use Rattle.std.specs.Prelude.{nat_le}
use Rattle.std.specs.List.{AllByRecursion}
use Rattle.std.proofs.lemmas.Bool.Decides.{nat_tests}
use Rattle.bx_text.specs.Tree.{Tree}
use Rattle.bx_ops.specs.declared.guard_bif.Bif.{Bif}
use Rattle.bx_ops.specs.declared.opcode.Op.{Op}
use Rattle.bx_ops.specs.declared.opcode.Op.TheVariants as ops
use Rattle.bx_ops.specs.Opcodes.{opcode}
use Rattle.bx_ops.specs.declared.sorts.Sort.{Sort}
use Rattle.bx_ops.specs.declared.sorts.Sort.TheVariants as sorts
use Rattle.bx_ops.specs.declared.sorts.Slot.{Slot}
use Rattle.bx_ops.specs.declared.sorts.Slot.TheVariants as slot_kinds
use Rattle.bx_ops.specs.declared.sorts.Way.TheVariants as ways
use Rattle.bx_ops.specs.Table.{slots, way}
use Rattle.bx_listing.specs.declared.items.Operand.{Operand}
use Rattle.bx_listing.specs.declared.items.Operand.TheVariants as operands
use Rattle.bx_listing.specs.Reading.{Table}
use Rattle.bx_listing.specs.Items.{Item}
use Rattle.bx_listing.specs.Operands.{fail_label}
use Rattle.bx_listing.specs.Ways.{bif_op, gc_bif_op}
use Rattle.bx_listing.specs.ListedItems.{IsSlot, an_operand, a_list, pairs, no_label, a_size, amounts, to_x0, AreSlots, no_slot, a_slot, IsWritten, bare, plain, test, bif, gc_bif, raise, raise_bif, IsItem}
use Rattle.bx_listing.specs.Fits.{is_one, is_row}
use Rattle.bx_listing.specs.Rows.{agrees}
use Rattle.bx_listing.proofs.ListedItems.{no_slots}
use Rattle.bx_listing.proofs.ListedSlots.{slots_length}
use Rattle.bx_listing.proofs.Fitting.{item_fits}
use Rattle.bx_listing_laws.specs.Writable.{IsWritableOperand, FaultIsSaid, depth_left, IsWritableItem}
use Rattle.bx_listing_laws.proofs.Depths.{depth, AreLow, all_both, parts_low, list_low}
use Rattle.bx_listing_laws.proofs.ReadOperands.{Within, Stands, AllStand, operand_writable, members_writable}

-- where a slot's tree has to stand, so that what it holds is read again
abbrev SlotStands : ℕ → Slot → Tree → Type 0
SlotStands k (slot_kinds.One s) t = Stands k s t
SlotStands k (slot_kinds.Many s) t = depth t ≤ suc (suc (suc k))
SlotStands k (slot_kinds.Pairs r s) t = depth t ≤ suc (suc (suc k))
SlotStands k s t = Unit {0}

abbrev AllPlaces : ℕ → List Slot → List Tree → Type 0
AllPlaces k (s ∷ ss) (t ∷ ts) = SlotStands k s t × AllPlaces k ss ts
AllPlaces k _ _ = Unit {0}

stands : (k : ℕ) (s : Sort) (t : Tree) → depth t ≤ suc k → Stands k s t
stands k sorts.Source t h = h
stands k _ t h = tt

all_stand : (k : ℕ) (this next : Sort) (ts : List Tree) → AreLow (suc k) ts → AllStand k this next ts
all_stand k this next [] a = tt
all_stand k this next (t ∷ ts) a = (stands k this t a.0, all_stand k next this ts a.1)

amounts_stand : (k : ℕ) (ts : List Tree) → AllStand k sorts.Amount sorts.Amount ts
amounts_stand k [] = tt
amounts_stand k (t ∷ ts) = (tt, amounts_stand k ts)

abbrev AreWritable : Table → ℕ → List Operand → Type 0
AreWritable last k os = AllByRecursion (IsWritableOperand last k) os

slot_writable : (last : Table) (k : ℕ) (b c : Table) {s : Slot} {t : Tree} {os : List Operand} → IsSlot b s t os c → length c ≤ length last → SlotStands k s t → Within b last (AreWritable last k os)
slot_writable last k b c (an_operand {sort = s} {t = t} {o = o} h) l d = let one = operand_writable last k b c s t o h l d in (one.0, (one.1, tt))
slot_writable last k b c (a_list {sort = s} {t = t} {ts = ts} (u, e, listed) are) l d =
    let inside = (parts_low (suc (suc k)) t (codes "list") (u ∷ []) e d).0 in
    let all = members_writable last k are l (all_stand k s s ts (list_low (suc k) u ts listed inside)) in
    (all.0, (tt, all.1))
slot_writable last k b c (pairs {first = r} {second = s} {t = t} {ts = ts} (u, e, listed) even are) l d =
    let inside = (parts_low (suc (suc k)) t (codes "list") (u ∷ []) e d).0 in
    let all = members_writable last k are l (all_stand k r s ts (list_low (suc k) u ts listed inside)) in
    (all.0, (tt, all.1))
slot_writable last k b c (no_label at) l d = (l, tt)
slot_writable last k b c (a_size {t = t} {o = o} h) l d = let one = operand_writable last k b c sorts.Number t o h l tt in (one.0, (one.1, tt))
slot_writable last k b c (amounts {ts = ts} at are) l d = let all = members_writable last k are l (amounts_stand k ts) in (all.0, (tt, all.1))
slot_writable last k b c (to_x0 r) l d = (l, tt)

slots_writable : (last : Table) (k : ℕ) {b c : Table} {ss : List Slot} {ts : List Tree} {os : List Operand} → AreSlots b ss ts os c → length c ≤ length last → AllPlaces k ss ts
    → Within b last (AreWritable last k os)
slots_writable last k no_slot l a = (l, tt)
slots_writable last k (a_slot {before = b} {between = c} {os = os} {more = more} h hs) l a =
    let rest = slots_writable last k hs l a.1 in
    let first = slot_writable last k b c h rest.0 a.0 in
    (first.0, all_both (IsWritableOperand last k) os more first.1 rest.1)

-- the terms of an instruction stand so

reach : ℕ → ℕ → Slot → Bool
reach d k (slot_kinds.One sorts.Source) = nat_le d (suc k)
reach d k (slot_kinds.Many s) = nat_le d (suc (suc (suc k)))
reach d k (slot_kinds.Pairs r s) = nat_le d (suc (suc (suc k)))
reach d k _ = true

reach_all : ℕ → ℕ → List Slot → Bool
reach_all d k [] = true
reach_all d k (s ∷ ss) = reach d k s && reach_all d k ss

slot_stands : (d k : ℕ) (s : Slot) (t : Tree) → depth t ≤ d → reach d k s ≡ true → SlotStands k s t
unfolding reach
slot_stands d k (slot_kinds.One sorts.Source) t h e = omega (arith, leb-true d (suc k) e)
slot_stands d k (slot_kinds.Many s) t h e = omega (arith, leb-true d (suc (suc (suc k))) e)
slot_stands d k (slot_kinds.Pairs r s) t h e = omega (arith, leb-true d (suc (suc (suc k))) e)
slot_stands d k _ t h e = tt

places : (d k : ℕ) (ss : List Slot) (ts : List Tree) → AreLow d ts → reach_all d k ss ≡ true → AllPlaces k ss ts
unfolding reach_all
places d k (s ∷ ss) (t ∷ ts) a e = let room = and_parts (reach d k s) (reach_all d k ss) e in (slot_stands d k s t a.0 room.0, places d k ss ts a.1 room.1)
places d k _ _ a e = tt

plain_reach : (op : Op) → way op ≡ ways.Plain → reach_all 255 (depth_left op) (slots op) ≡ true
unfolding reach reach_all
plain_reach ops.Label at = refl
plain_reach _ at = cc

target_first : (op : Op) → way op ≡ ways.Test → slots op ≡ slot_kinds.One sorts.Target ∷ drop 1 (slots op)
target_first ops.IsLt at = refl
target_first _ at = cc

test_reach : (op : Op) → way op ≡ ways.Test → reach_all 254 (depth_left op) (drop 1 (slots op)) ≡ true
unfolding reach reach_all
test_reach ops.IsLt at = refl
test_reach _ at = cc

bif_few : (n : ℕ) (op : Op) → 3 ≤ n → bif_op n ≡ Some op → ⊥
bif_few n op h e = grind (arith, nat_tests)

gc_bif_few : (n : ℕ) (op : Op) → 3 ≤ n → gc_bif_op n ≡ Some op → ⊥
gc_bif_few n op h e = grind (arith, nat_tests)

bif_places : (op : Op) (ts : List Tree) (b f d : Tree) → bif_op (length ts) ≡ Some op → AreLow 254 ts → AllPlaces (depth_left op) (slots op) (b ∷ f ∷ (ts ++ d ∷ []))
bif_places op [] b f d e a = let same : ops.Bif0 ≡ op = cc in subst (λ op. AllPlaces (depth_left op) (slots op) (b ∷ f ∷ d ∷ [])) same (tt, (tt, (tt, tt)))
bif_places op (x ∷ []) b f d e a = let same : ops.Bif1 ≡ op = cc in subst (λ op. AllPlaces (depth_left op) (slots op) (b ∷ f ∷ x ∷ d ∷ [])) same (tt, (tt, (a.0, (tt, tt))))
bif_places op (x ∷ y ∷ []) b f d e a = let same : ops.Bif2 ≡ op = cc in subst (λ op. AllPlaces (depth_left op) (slots op) (b ∷ f ∷ x ∷ y ∷ d ∷ [])) same (tt, (tt, (a.0, (a.1.0, (tt, tt)))))
bif_places op (x ∷ y ∷ z ∷ more) b f d e a = absurd (bif_few (length (x ∷ y ∷ z ∷ more)) op (omega arith) e)

gc_bif_places : (op : Op) (ts : List Tree) (b f n d : Tree) → gc_bif_op (length ts) ≡ Some op → AreLow 254 ts → AllPlaces (depth_left op) (slots op) (b ∷ f ∷ n ∷ (ts ++ d ∷ []))
gc_bif_places op [] b f n d e a = absurd (cc)
gc_bif_places op (x ∷ []) b f n d e a =
    let same : ops.GcBif1 ≡ op = cc in subst (λ op. AllPlaces (depth_left op) (slots op) (b ∷ f ∷ n ∷ x ∷ d ∷ [])) same (tt, (tt, (tt, (a.0, (tt, tt)))))
gc_bif_places op (x ∷ y ∷ []) b f n d e a =
    let same : ops.GcBif2 ≡ op = cc in subst (λ op. AllPlaces (depth_left op) (slots op) (b ∷ f ∷ n ∷ x ∷ y ∷ d ∷ [])) same (tt, (tt, (tt, (a.0, (a.1.0, (tt, tt))))))
gc_bif_places op (x ∷ y ∷ z ∷ more) b f n d e a = absurd (gc_bif_few (length (x ∷ y ∷ z ∷ more)) op (omega arith) e)

raise_places : (ts : List Tree) (f d : Tree) → length (f ∷ (ts ++ d ∷ [])) ≡ 4 → AreLow 254 ts → AllPlaces 253 (slots ops.Raise) (f ∷ (ts ++ d ∷ []))
raise_places (x ∷ y ∷ []) f d e a = (tt, (a.0, (a.1.0, (tt, tt))))
raise_places ts f d e a = absurd (omega (arith, length-append ts (d ∷ [])))

item_places : {t : Tree} {op : Op} {ts : List Tree} → IsWritten t op ts → length ts ≡ length (slots op) → depth t ≤ 256 → AllPlaces (depth_left op) (slots op) ts
item_places (bare {op = op} at w) n h = subst (λ ss. AllPlaces (depth_left op) ss []) (sym (no_slots op at)) tt
item_places (plain {t = t} {op = op} {ts = ts} at e) n h = places 255 (depth_left op) (slots op) ts (parts_low 255 t (opcode op).name ts e h) (plain_reach op at)
item_places (test {t = t} {n = name} {l = l} {list = args} {op = op} {ts = ts} at e named listed) n h =
    let all = parts_low 255 t (codes "test") (name ∷ l ∷ args ∷ []) e h in
    subst (λ ss. AllPlaces (depth_left op) ss (l ∷ ts)) (sym (target_first op at)) (tt, places 254 (depth_left op) (drop 1 (slots op)) ts (list_low 254 args ts listed all.1.1.0) (test_reach op at))
item_places (bif {t = t} {b = b} {f = f} {list = args} {d = d} {op = op} {ts = ts} e named listed is chosen) n h =
    let all = parts_low 255 t (codes "bif") (b ∷ f ∷ args ∷ d ∷ []) e h in bif_places op ts b f d chosen (list_low 254 args ts listed all.1.1.0)
item_places (gc_bif {t = t} {b = b} {f = f} {n = live} {list = args} {d = d} {op = op} {ts = ts} e named listed is chosen) n h =
    let all = parts_low 255 t (codes "gc_bif") (b ∷ f ∷ live ∷ args ∷ d ∷ []) e h in gc_bif_places op ts b f live d chosen (list_low 254 args ts listed all.1.1.1.0)
item_places (raise {t = t} {f = f} {list = args} {d = d} {ts = ts} e listed) n h =
    let all = parts_low 255 t (codes "raise") (f ∷ args ∷ d ∷ []) e h in raise_places ts f d n (list_low 254 args ts listed all.1.0)
item_places (raise_bif {t = t} {b = b} {f = f} {list = args} {d = d} {ts = ts} e named listed two) n h =
    let all = parts_low 255 t (codes "bif") (b ∷ f ∷ args ∷ d ∷ []) e h in raise_places ts f d n (list_low 254 args ts listed all.1.1.0)

-- a BIF's fault goes to no label with the number 0

label_said : (o : Operand) (n : ℕ) (os : List Operand) → FaultIsSaid (o ∷ fail_label n ∷ os)
label_said (operands.Bif b) n os = by (nat_eq n 0) refl
  where
    by : (z : Bool) → nat_eq n 0 ≡ z → FaultIsSaid (operands.Bif b ∷ (if z then operands.NoLabel else operands.Label n) ∷ os)
    by true e = tt
    by false e = grind (arith, nat_tests)
label_said _ n os = tt

fault_said : {b c : Table} {s : Sort} {rest : List Slot} {ts : List Tree} {os : List Operand} → AreSlots b (slot_kinds.One s ∷ slot_kinds.One sorts.Fail ∷ rest) ts os c → FaultIsSaid os
fault_said (a_slot (an_operand {o = o} h) (a_slot {more = more} (an_operand ((n, at, same), e)) are)) = subst (λ f. FaultIsSaid (o ∷ f ∷ more)) (sym same) (label_said o n more)

by_op : (op : Op) (b c : Table) (ts : List Tree) (named : Bif) (n : ℕ) (os : List Operand) → AreSlots b (slots op) ts (operands.Bif named ∷ operands.Label n ∷ os) c
    → is_row (slots op) (operands.Bif named ∷ operands.Label n ∷ os) ≡ true → n ≢ 0
by_op ops.Bif1 b c ts named n os are e = fault_said are
by_op ops.Bif2 b c ts named n os are e = fault_said are
by_op ops.GcBif1 b c ts named n os are e = fault_said are
by_op ops.GcBif2 b c ts named n os are e = fault_said are
by_op ops.Bif0 b c ts named n os are e = let no = (and_parts (is_one sorts.Bif0 (operands.Bif named)) (is_row (slot_kinds.NoLabel ∷ slot_kinds.One sorts.Register ∷ []) (operands.Label n ∷ os)) e).1 in absurd (cc)
by_op _ b c ts named n os are e = absurd (cc)

item_said : (op : Op) (b c : Table) (ts : List Tree) (os : List Operand) → AreSlots b (slots op) ts os c → is_row (slots op) os ≡ true → FaultIsSaid os
item_said op b c ts (operands.Bif named ∷ operands.Label n ∷ os) are e = by_op op b c ts named n os are e
item_said op b c ts _ are e = tt

pub item_writable : (last b c : Table) (t : Tree) (i : Item) → IsItem b t i c → length c ≤ length last → depth t ≤ 256 → Within b last (IsWritableItem last i)
item_writable last b c t i (ts, written, are, agree) l h =
    let fit = item_fits b c t i (ts, written, are, agree) in
    let all = slots_writable last (depth_left i.op) are l (item_places written (slots_length are) h) in
    (all.0, (fit, all.1, item_said i.op b c ts i.operands are (and_parts (is_row (slots i.op) i.operands) (agrees i.operands) fit).0))
