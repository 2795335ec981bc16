-- The text of an instruction, a label or a line mark is read as the same item.
use Rattle.std.proofs.Common.{◌≡◌, ◌≢◌, ℕ, suc, true, List, [], ◌∷◌, ◌++◌, map, length, drop, Some, refl, sym, ap, ◌∙◌, subst, codes, append_assoc}
use Rattle.std.proofs.Math.Seq.{take-length, drop-length}
use Rattle.std.proofs.lemmas.Bool.{and_parts}
use Rattle.std.specs.Prelude.{nat_lt}
use Rattle.std.specs.List.{AllByRecursion, list_all}
use Rattle.bx_terms.specs.AtomTable.{IsAtomTable}
use Rattle.bx_terms.specs.AtomText.{printed_atom}
use Rattle.bx_text.specs.Tree.{Tree}
use Rattle.bx_ops.specs.declared.guard_bif.Bif.{Bif}
use Rattle.bx_ops.specs.declared.opcode.Op.{Op}
use Rattle.bx_ops.specs.declared.opcode.Op.TheVariants as ops
use Rattle.bx_ops.specs.Opcodes.{opcode}
use Rattle.bx_ops.specs.GuardBifs.{guard_bif_with}
use Rattle.bx_ops.specs.declared.sorts.Sort.{Sort}
use Rattle.bx_ops.specs.declared.sorts.Sort.TheVariants as sorts
use Rattle.bx_ops.specs.declared.sorts.Slot.{Slot}
use Rattle.bx_ops.specs.declared.sorts.Slot.TheVariants as slot_kinds
use Rattle.bx_ops.specs.declared.sorts.Way.{Way}
use Rattle.bx_ops.specs.declared.sorts.Way.TheVariants as ways
use Rattle.bx_ops.specs.Table.{slots, way}
use Rattle.bx_listing.specs.declared.items.Operand.{Operand}
use Rattle.bx_listing.specs.declared.items.Operand.TheVariants as operands
use Rattle.bx_listing.specs.Reading.{Table}
use Rattle.bx_listing.specs.Shape.{word, list_elements}
use Rattle.bx_listing.specs.Items.{Item}
use Rattle.bx_listing.specs.Rows.{agrees}
use Rattle.bx_listing.specs.Ways.{bif_op, gc_bif_op}
use Rattle.bx_listing.specs.ListedItems.{IsBif, IsOperand, AreSlots, no_slot, a_slot, an_operand, no_label, to_x0, bare, plain, test, bif, gc_bif, raise, IsItem}
use Rattle.bx_listing.specs.Writing.{operand_text, added_text, list_text, grouped_text, way_text}
use Rattle.bx_listing.specs.Fits.{is_row}
use Rattle.bx_listing.proofs.ListedItems.{no_slots}
use Rattle.bx_listing.proofs.ListedSlots.{slots_length}
use Rattle.bx_listing_laws.specs.Writable.{IsWritableOperand, FaultIsSaid, depth_left, IsWritableItem}
use Rattle.bx_listing_laws.proofs.Rows as rows
use Rattle.bx_listing_laws.proofs.Rows.{IsRow, end, one, row_is}
use Rattle.bx_listing_laws.proofs.Trees.{Printed, PrintedAll, reworded, behind, commas_are, plain_utf8, word_printed, none_printed, more_printed, tagged_printed, list_printed}
use Rattle.bx_listing_laws.proofs.WrittenOperands.{one_part, part, suits, operand_printed, fail_printed, no_label_printed, to_x0_printed}
use Rattle.bx_listing_laws.proofs.WrittenSlots.{list_of, suit_all, row_printed}

-- an item that a term is, with these operands
abbrev IsOf : Table → Op → List Operand → Tree → Type 0
IsOf names op os u = IsItem names u (record { op = op; operands = os }) names

opcode_ascii : (op : Op) → list_all (λ b. nat_lt b 128) (opcode op).name ≡ true
opcode_ascii ops.Label = refl
opcode_ascii _ = refl

-- `NAME`

none_there : {os : List Operand} → IsRow [] os → os ≡ []
none_there end = refl

bare_item : (names : Table) (op : Op) (os : List Operand) → way op ≡ ways.Bare → IsRow (slots op) os → Printed 256 (printed_atom (opcode op).name) (IsOf names op os)
bare_item names op os at row =
    let none : os ≡ [] = none_there (subst (λ ss. IsRow ss os) (no_slots op at) row) in
    word_printed 256 (opcode op).name (plain_utf8 (opcode op).name (opcode_ascii op))
    (λ u w. subst (λ os. IsOf names op os u) (sym none) ([], bare at w, subst (λ ss. AreSlots names ss [] [] names) (sym (no_slots op at)) no_slot, refl))

-- `{NAME,OPERAND,..}`

plain_suits : (op : Op) → way op ≡ ways.Plain → suit_all 252 (depth_left op) (slots op) ≡ true
plain_suits ops.Label at = refl
plain_suits _ at = cc

plain_item : (names : Table) (op : Op) (os : List Operand) → IsAtomTable names → way op ≡ ways.Plain → IsRow (slots op) os → agrees os ≡ true
    → AllByRecursion (IsWritableOperand names (depth_left op)) os → Printed 256 (way_text names ways.Plain (printed_atom (opcode op).name) (slots op) os) (IsOf names op os)
plain_item names op os table at row agree a =
    let r = row_printed 252 (depth_left op) names table row a (plain_suits op at) in
    reworded (ap (λ w. 123 ∷ w) (sym (append_assoc (printed_atom (opcode op).name) _ (125 ∷ []) ∙ ap (λ w. printed_atom (opcode op).name ++ w) (r.is (125 ∷ [])))))
    (tagged_printed 255 (opcode op).name (plain_utf8 (opcode op).name (opcode_ascii op)) r.printed (λ u us is are. (us, plain at is, are, agree)))

-- operands of which some stand in a list

abbrev ones : List Sort → List Slot
ones ss = map (λ s. slot_kinds.One s) ss

ones_printed : (d k : ℕ) (names : Table) (ss : List Sort) {os : List Operand} → IsAtomTable names → IsRow (ones ss) os → AllByRecursion (IsWritableOperand names k) os → suit_all d k (ones ss) ≡ true
    → PrintedAll (suc (suc (suc d))) (map (operand_text names) os) (λ us. AreSlots names (ones ss) us os names)
ones_printed d k names [] table end a l = none_printed no_slot
ones_printed d k names (s ∷ ss) table (one {o = o} fit row) a l =
    let (room, more) = and_parts (suits (suc (suc d)) k s) (suit_all d k (ones ss)) l in
    more_printed (operand_printed (suc (suc d)) k names s o table fit a.0 room) (ones_printed d k names ss table row a.1 more) (λ u us is are. a_slot (an_operand is) are)

grouped_joined : (a l b last : List ℕ) → (((a ++ 44 ∷ []) ++ l) ++ b) ++ last ≡ a ++ 44 ∷ (l ++ (b ++ last))
grouped_joined a l b last = simp append_assoc

grouped_is : (names : Table) (front mid back : List Operand) (last : List ℕ)
    → behind (map (operand_text names) front) (44 ∷ (list_text names mid ++ behind (map (operand_text names) back) last)) ≡ (added_text names front ++ codes "," ++ list_text names mid ++ added_text names back) ++ last
grouped_is names front mid back last =
    sym (grouped_joined (added_text names front) (list_text names mid) (added_text names back) last
    ∙ ap (λ w. added_text names front ++ 44 ∷ (list_text names mid ++ w)) (commas_are (operand_text names) back last)
    ∙ commas_are (operand_text names) front (44 ∷ (list_text names mid ++ behind (map (operand_text names) back) last)))

-- `{test,NAME,LABEL,[OPERAND,..]}`

sorts_of : List Slot → List Sort
sorts_of (slot_kinds.One s ∷ ss) = s ∷ sorts_of ss
sorts_of ss = []

test_slots : (op : Op) → way op ≡ ways.Test → slots op ≡ slot_kinds.One sorts.Target ∷ ones (sorts_of (drop 1 (slots op)))
unfolding sorts_of
test_slots ops.IsLt at = refl
test_slots _ at = cc

test_suits : (op : Op) → way op ≡ ways.Test → suit_all 251 (depth_left op) (ones (sorts_of (drop 1 (slots op)))) ≡ true
unfolding sorts_of
test_suits ops.IsLt at = refl
test_suits _ at = cc

test_text : (names : Table) (name : List ℕ) (o : Operand) (os : List Operand)
    → codes "{test," ++ (name ++ (44 ∷ (operand_text names o ++ 44 ∷ (list_text names os ++ 125 ∷ [])))) ≡ way_text names ways.Test name [] (o ∷ os)
test_text names name o os =
    ap (λ w. codes "{test," ++ (name ++ w))
    (grouped_is names (o ∷ []) os [] (125 ∷ []) ∙ (λ i. (added_text names (o ∷ []) ++ codes "," ++ list_text names (sym (take-length os) i) ++ added_text names (sym (drop-length os) i)) ++ 125 ∷ []))
    ∙ ap (λ w. codes "{test," ++ w) (sym (append_assoc name (grouped_text names 1 (length (o ∷ os)) (o ∷ os)) (125 ∷ [])))

test_item : (names : Table) (op : Op) (ss : List Sort) {os : List Operand} → IsAtomTable names → way op ≡ ways.Test → slots op ≡ slot_kinds.One sorts.Target ∷ ones ss
    → IsRow (slot_kinds.One sorts.Target ∷ ones ss) os → agrees os ≡ true → AllByRecursion (IsWritableOperand names (depth_left op)) os → suit_all 251 (depth_left op) (ones ss) ≡ true
    → Printed 256 (way_text names ways.Test (printed_atom (opcode op).name) (slots op) os) (IsOf names op os)
test_item names op ss table at are (one {o = o} {os = os} fit row) agree a l =
    reworded (test_text names (printed_atom (opcode op).name) o os)
    (tagged_printed 255 (codes "test") (plain_utf8 (codes "test") refl)
    (part (word_printed 255 (opcode op).name {Is = λ u. word u ≡ Some (opcode op).name} (plain_utf8 (opcode op).name (opcode_ascii op)) (λ u w. w))
    (part (operand_printed 254 (depth_left op) names sorts.Target o table fit a.0 refl) (one_part (list_of names os (ones_printed 251 (depth_left op) names ss table row a.1 l)))))
    (λ u us is x.
    let (n, vs, e, named, (t, ws, f, target, (args, g, (ts, listed, slots_are)))) = x in
    (t ∷ ts, test {list = args} at (cc) named listed, rw are (a_slot (an_operand target) slots_are), agree)))

-- a BIF, and `raise`

-- the label to which a BIF's fault goes
elsewhere : (b : Bif) (f : Operand) (os : List Operand) → FaultIsSaid (operands.Bif b ∷ f ∷ os) → (n : ℕ) → f ≡ operands.Label n → n ≢ 0
elsewhere b (operands.Label m) os h n e z = h (let same : m ≡ n = cc in same ∙ z)
elsewhere b _ os h n e z = absurd (cc)

-- arguments, and what stands behind them
ones_then : {b c e : Table} (ss : List Sort) {rest : List Slot} {ts us : List Tree} {os more : List Operand} → AreSlots b (ones ss) ts os c → AreSlots c rest us more e
    → AreSlots b (ones ss ++ rest) (ts ++ us) (os ++ more) e
ones_then [] no_slot more = more
ones_then (s ∷ ss) (a_slot (an_operand i) are) more = a_slot (an_operand i) (ones_then ss are more)

module _ (names : Table) (table : IsAtomTable names) where
  abbrev Part : Sort → Operand → Type 0
  Part s o = Printed 255 (operand_text names o) (λ u. IsOperand names s u o names)

  abbrev Arguments : List Sort → List Operand → Type 0
  Arguments ss os = Printed 255 (list_text names os) (λ u. (ts : List Tree) × (list_elements u ≡ Some ts) × AreSlots names (ones ss) ts os names)

  arguments : (ss : List Sort) {os : List Operand} → IsRow (ones ss) os → AllByRecursion (IsWritableOperand names 253) os → suit_all 251 253 (ones ss) ≡ true → Arguments ss os
  arguments ss {os} row a room = list_of names os (ones_printed 251 253 names ss table row a room)

  bif_item : (op : Op) (s : Sort) (ss : List Sort) {b f d : Operand} {args : List Operand} → slots op ≡ slot_kinds.One s ∷ slot_kinds.One sorts.Fail ∷ (ones ss ++ slot_kinds.One sorts.Register ∷ [])
      → bif_op (length (ones ss)) ≡ Some op → ((u : Tree) → IsOperand names s u b names → IsBif (length (ones ss)) u b) → Part s b → Part sorts.Fail f → Arguments ss args → Part sorts.Register d
      → agrees (b ∷ f ∷ (args ++ d ∷ [])) ≡ true
      → Printed 256 (codes "{bif" ++ behind (operand_text names b ∷ operand_text names f ∷ list_text names args ∷ operand_text names d ∷ []) (125 ∷ [])) (IsOf names op (b ∷ f ∷ (args ++ d ∷ [])))
  bif_item op s ss {b} {f} {d} {args} are chosen named name fault list register agree =
      tagged_printed 255 (codes "bif") (plain_utf8 (codes "bif") refl) (part name (part fault (part list (one_part register)))) (λ u us is x.
      let (n, r0, e0, name_is, (at, r1, e1, fault_is, (l, r2, e2, (ts, listed, sources), (to, e3, register_is)))) = x in
      let (text, bif_is, word_is, found, same) = named n name_is in (
        n ∷ at ∷ (ts ++ to ∷ []),
        bif {list = l} (cc) word_is listed (ap (guard_bif_with text) (slots_length sources) ∙ found) (ap bif_op (slots_length sources) ∙ chosen),
        rw are (a_slot (an_operand name_is) (a_slot (an_operand fault_is) (ones_then ss sources (a_slot (an_operand register_is) no_slot)))),
        agree,
      ))

  gc_bif_item : (op : Op) (s : Sort) (ss : List Sort) {b f k d : Operand} {args : List Operand}
      → slots op ≡ slot_kinds.One s ∷ slot_kinds.One sorts.Fail ∷ slot_kinds.One sorts.Number ∷ (ones ss ++ slot_kinds.One sorts.Register ∷ []) → gc_bif_op (length (ones ss)) ≡ Some op
      → ((u : Tree) → IsOperand names s u b names → IsBif (length (ones ss)) u b) → Part s b → Part sorts.Fail f → Part sorts.Number k → Arguments ss args → Part sorts.Register d
      → agrees (b ∷ f ∷ k ∷ (args ++ d ∷ [])) ≡ true
      → Printed 256 (codes "{gc_bif" ++ behind (operand_text names b ∷ operand_text names f ∷ operand_text names k ∷ list_text names args ∷ operand_text names d ∷ []) (125 ∷ []))
      (IsOf names op (b ∷ f ∷ k ∷ (args ++ d ∷ [])))
  gc_bif_item op s ss {b} {f} {k} {d} {args} are chosen named name fault live list register agree =
      tagged_printed 255 (codes "gc_bif") (plain_utf8 (codes "gc_bif") refl) (part name (part fault (part live (part list (one_part register))))) (λ u us is x.
      let (n, r0, e0, name_is, (at, r1, e1, fault_is, (m, r2, e2, live_is, (l, r3, e3, (ts, listed, sources), (to, e4, register_is))))) = x in
      let (text, bif_is, word_is, found, same) = named n name_is in (
        n ∷ at ∷ m ∷ (ts ++ to ∷ []),
        gc_bif {list = l} (cc) word_is listed (ap (guard_bif_with text) (slots_length sources) ∙ found) (ap gc_bif_op (slots_length sources) ∙ chosen),
        rw are (a_slot (an_operand name_is) (a_slot (an_operand fault_is) (a_slot (an_operand live_is) (ones_then ss sources (a_slot (an_operand register_is) no_slot))))),
        agree,
      ))

  row_item : (k : Way) (op : Op) (os : List Operand) → way op ≡ k → IsRow (slots op) os → AllByRecursion (IsWritableOperand names (depth_left op)) os → FaultIsSaid os → agrees os ≡ true
      → Printed 256 (way_text names k (printed_atom (opcode op).name) (slots op) os) (IsOf names op os)
  row_item ways.Bare op os at row h said agree = bare_item names op os at row
  row_item ways.Plain op os at row h said agree = plain_item names op os table at row agree h
  row_item ways.Test op os at row h said agree = test_item names op (sorts_of (drop 1 (slots op))) table at (test_slots op at) (subst (λ ss. IsRow ss os) (test_slots op at) row) agree h (test_suits op at)
  row_item ways.Bif ops.Bif0 _ at (one {o = b} p (rows.no_label (one {o = d} q end))) h said agree =
      reworded (simp append_assoc)
      (tagged_printed 255 (codes "bif") (plain_utf8 (codes "bif") refl)
      (part (operand_printed 254 253 names sorts.Bif0 b table p h.0 refl) (part (no_label_printed 254)
      (part (list_printed 254 {Is = λ u. list_elements u ≡ Some []} (none_printed {Are = λ us. us ≡ []} refl) (λ u us is none. is ∙ ap Some none))
      (one_part (operand_printed 254 253 names sorts.Register d table q h.1.0 refl)))))
      (λ u us is x.
      let (n, r0, e0, named, (to, r1, e1, fault, (l, r2, e2, listed, (t, e3, register)))) = x in
      let (text, known, word_is, found, same) = named.0 in
      (n ∷ to ∷ t ∷ [], bif {list = l} {ts = []} (cc) word_is listed found refl, a_slot (an_operand named) (a_slot (no_label fault) (a_slot (an_operand register) no_slot)), agree)))
  row_item ways.Bif ops.Bif1 _ at (one {o = operands.Bif b} p (one {o = f} q (one {o = x} r (one {o = d} s end)))) h said agree =
      reworded (ap (λ w. codes "{bif" ++ w) (grouped_is names (operands.Bif b ∷ f ∷ []) (x ∷ []) (d ∷ []) (125 ∷ [])))
      (bif_item ops.Bif1 sorts.Bif1 (sorts.Source ∷ []) refl refl (λ u i. i.0)
      (operand_printed 254 253 names sorts.Bif1 (operands.Bif b) table p tt refl) (fail_printed 254 253 names f q h.1.0 (elsewhere b f _ said))
      (arguments (sorts.Source ∷ []) (one r end) (h.1.1.0, tt) refl) (operand_printed 254 253 names sorts.Register d table s h.1.1.1.0 refl) agree)
  row_item ways.Bif ops.Bif2 _ at (one {o = operands.Bif b} p (one {o = f} q (one {o = x} r (one {o = y} t (one {o = d} s end))))) h said agree =
      reworded (ap (λ w. codes "{bif" ++ w) (grouped_is names (operands.Bif b ∷ f ∷ []) (x ∷ y ∷ []) (d ∷ []) (125 ∷ [])))
      (bif_item ops.Bif2 sorts.Bif2 (sorts.Source ∷ sorts.Source ∷ []) refl refl (λ u i. i.0)
      (operand_printed 254 253 names sorts.Bif2 (operands.Bif b) table p tt refl) (fail_printed 254 253 names f q h.1.0 (elsewhere b f _ said))
      (arguments (sorts.Source ∷ sorts.Source ∷ []) (one r (one t end)) (h.1.1.0, (h.1.1.1.0, tt)) refl) (operand_printed 254 253 names sorts.Register d table s h.1.1.1.1.0 refl) agree)
  row_item ways.GcBif ops.GcBif1 _ at (one {o = operands.Bif b} p (one {o = f} q (one {o = k} n (one {o = x} r (one {o = d} s end))))) h said agree =
      reworded (ap (λ w. codes "{gc_bif" ++ w) (grouped_is names (operands.Bif b ∷ f ∷ k ∷ []) (x ∷ []) (d ∷ []) (125 ∷ [])))
      (gc_bif_item ops.GcBif1 sorts.Bif1 (sorts.Source ∷ []) refl refl (λ u i. i.0)
      (operand_printed 254 253 names sorts.Bif1 (operands.Bif b) table p tt refl) (fail_printed 254 253 names f q h.1.0 (elsewhere b f _ said))
      (operand_printed 254 253 names sorts.Number k table n h.1.1.0 refl) (arguments (sorts.Source ∷ []) (one r end) (h.1.1.1.0, tt) refl) (operand_printed 254 253 names sorts.Register d table s h.1.1.1.1.0 refl) agree)
  row_item ways.GcBif ops.GcBif2 _ at (one {o = operands.Bif b} p (one {o = f} q (one {o = k} n (one {o = x} r (one {o = y} t (one {o = d} s end)))))) h said agree =
      reworded (ap (λ w. codes "{gc_bif" ++ w) (grouped_is names (operands.Bif b ∷ f ∷ k ∷ []) (x ∷ y ∷ []) (d ∷ []) (125 ∷ [])))
      (gc_bif_item ops.GcBif2 sorts.Bif2 (sorts.Source ∷ sorts.Source ∷ []) refl refl (λ u i. i.0)
      (operand_printed 254 253 names sorts.Bif2 (operands.Bif b) table p tt refl) (fail_printed 254 253 names f q h.1.0 (elsewhere b f _ said))
      (operand_printed 254 253 names sorts.Number k table n h.1.1.0 refl) (arguments (sorts.Source ∷ sorts.Source ∷ []) (one r (one t end)) (h.1.1.1.0, (h.1.1.1.1.0, tt)) refl)
      (operand_printed 254 253 names sorts.Register d table s h.1.1.1.1.1.0 refl) agree)
  row_item ways.Raise ops.Raise _ at (rows.no_label (one {o = x} p (one {o = y} q (rows.to_x0 end)))) h said agree =
      reworded (ap (λ w. codes "{raise,{f,0}" ++ w) (grouped_is names [] (x ∷ y ∷ []) [] (codes ",{x,0}}")))
      (tagged_printed 255 (codes "raise") (plain_utf8 (codes "raise") refl)
      (part (no_label_printed 254) (part (arguments (sorts.Source ∷ sorts.Source ∷ []) (one p (one q end)) (h.0, (h.1.0, tt)) refl) (one_part (to_x0_printed 254))))
      (λ u us is x.
      let (to, r0, e0, fault, (l, r1, e1, (ts, listed, sources), (t, e2, register))) = x in
      (to ∷ (ts ++ t ∷ []), raise {list = l} (cc) listed, a_slot (no_label fault) (ones_then (sorts.Source ∷ sorts.Source ∷ []) sources (a_slot (to_x0 register) no_slot)), agree)))
  row_item _ _ _ at (one p row) h said agree = absurd (cc)
  row_item _ _ _ at row h said agree = absurd (cc)

-- an item, before its full stop
pub item_printed : (names : Table) (i : Item) → IsAtomTable names → IsWritableItem names i
    → Printed 256 (way_text names (way i.op) (printed_atom (opcode i.op).name) (slots i.op) i.operands) (λ u. IsItem names u i names)
item_printed names i table (fit, h, said) =
    let (row, agree) = and_parts (is_row (slots i.op) i.operands) (agrees i.operands) fit in row_item names table (way i.op) i.op i.operands refl (row_is (slots i.op) i.operands row) h said agree
