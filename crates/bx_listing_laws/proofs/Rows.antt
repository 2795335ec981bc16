-- Operands that fit the slots of an opcode, slot by slot. They mean what an instruction looks at, so items that fit are instructions.
use Rattle.std.proofs.Common.{◌≡◌, ℕ, ◌%◌, true, List, [], ◌∷◌, drop, refl, ap, ◌∙◌, ◌&&◌}
use Rattle.std.specs.Prelude.{is_some, not, ◌==◌}
use Rattle.std.proofs.Math.Bool.{and-true}
use Rattle.std.proofs.lemmas.Bool.{and_parts, and_from}
use Rattle.bx_text.specs.Tree.{Tree}
use Rattle.bx_ops.specs.declared.sorts.Sort.{Sort}
use Rattle.bx_ops.specs.declared.sorts.Sort.TheVariants as sorts
use Rattle.bx_ops.specs.declared.sorts.Slot.{Slot}
use Rattle.bx_ops.specs.declared.sorts.Slot.TheVariants as slot_kinds
use Rattle.bx_ops.specs.Table.{slots}
use Rattle.bx_listing.specs.declared.items.Operand.{Operand}
use Rattle.bx_listing.specs.declared.items.Operand.TheVariants as operands
use Rattle.bx_listing.specs.Reading.{Table}
use Rattle.bx_listing.specs.Items.{Item}
use Rattle.bx_listing.specs.ListedItems.{IsItem}
use Rattle.bx_listing.specs.Fits.{is_one, begin_members, is_row}
use Rattle.bx_listing.specs.Rows.{agrees}
use Rattle.bx_listing.proofs.Fitting.{item_fits}
use Rattle.bx_asm.specs.Meaning.{meant, are_there}
use Rattle.bx_asm.specs.Marks.{is_mark, is_instruction}

-- what `is_row` says, to be taken apart
pub data IsRow : List Slot → List Operand → Type 0 where
  end : IsRow [] []
  one : {s : Sort} {o : Operand} {ss : List Slot} {os : List Operand} → is_one s o ≡ true → IsRow ss os → IsRow (slot_kinds.One s ∷ ss) (o ∷ os)
  no_label : {ss : List Slot} {os : List Operand} → IsRow ss os → IsRow (slot_kinds.NoLabel ∷ ss) os
  to_x0 : {ss : List Slot} {os : List Operand} → IsRow ss os → IsRow (slot_kinds.ToX0 ∷ ss) os
  many : {s : Sort} {n : ℕ} {ss : List Slot} {os : List Operand} → begin_members n s s os ≡ true → IsRow ss (drop n os) → IsRow (slot_kinds.Many s ∷ ss) (operands.List n ∷ os)
  pairs : {s t : Sort} {n : ℕ} {ss : List Slot} {os : List Operand} → (n % 2 == 0) ≡ true → begin_members n s t os ≡ true → IsRow ss (drop n os)
      → IsRow (slot_kinds.Pairs s t ∷ ss) (operands.List n ∷ os)
  size : {n : ℕ} {ss : List Slot} {os : List Operand} → IsRow ss os → IsRow (slot_kinds.Heap ∷ ss) (operands.Number n ∷ os)
  amounts : {n : ℕ} {ss : List Slot} {os : List Operand} → begin_members n sorts.Amount sorts.Amount os ≡ true → IsRow ss (drop n os) → IsRow (slot_kinds.Heap ∷ ss) (operands.List n ∷ os)

pub row_is : (ss : List Slot) (os : List Operand) → is_row ss os ≡ true → IsRow ss os
row_is [] [] e = end
row_is (slot_kinds.One s ∷ ss) (o ∷ os) e = let (fit, rest) = and_parts (is_one s o) (is_row ss os) e in one fit (row_is ss os rest)
row_is (slot_kinds.NoLabel ∷ ss) os e = no_label (row_is ss os e)
row_is (slot_kinds.ToX0 ∷ ss) os e = to_x0 (row_is ss os e)
row_is (slot_kinds.Many s ∷ ss) (operands.List n ∷ os) e = let (fit, rest) = and_parts (begin_members n s s os) (is_row ss (drop n os)) e in many fit (row_is ss (drop n os) rest)
row_is (slot_kinds.Pairs s t ∷ ss) (operands.List n ∷ os) e =
    let (even, more) = and_parts (n % 2 == 0) (begin_members n s t os && is_row ss (drop n os)) e in
    let (fit, rest) = and_parts (begin_members n s t os) (is_row ss (drop n os)) more in pairs even fit (row_is ss (drop n os) rest)
row_is (slot_kinds.Heap ∷ ss) (operands.Number n ∷ os) e = size (row_is ss os e)
row_is (slot_kinds.Heap ∷ ss) (operands.List n ∷ os) e =
    let (fit, rest) = and_parts (begin_members n sorts.Amount sorts.Amount os) (is_row ss (drop n os)) e in amounts fit (row_is ss (drop n os) rest)
row_is _ _ e = absurd (cc)

-- what an operand of a sort means
one_is : (s : Sort) (o : Operand) → is_one s o ≡ true → is_some (meant s o) ≡ true
one_is sorts.Value (operands.Integer n) e = refl
one_is sorts.Register (operands.X n) e = refl
one_is sorts.YRegister (operands.Y n) e = refl
one_is sorts.Target (operands.Label n) e = refl
one_is sorts.Fail (operands.Label n) e = refl
one_is sorts.Place (operands.Place n) e = refl
one_is sorts.Atom (operands.Atom a) e = refl
one_is sorts.Callee (operands.Import i) e = refl
one_is sorts.Bif0 (operands.Bif b) e = refl
one_is sorts.Bif1 (operands.Bif b) e = refl
one_is sorts.Bif2 (operands.Bif b) e = refl
one_is _ _ e = cc

-- operands that fit a row are those that are looked at
fitting : {ss : List Slot} {os : List Operand} → IsRow ss os → are_there ss os ≡ true
fitting (one {s = s} {o = o} fit row) = and_from _ _ (one_is s o fit) (fitting row)
fitting (no_label row) = fitting row
fitting (to_x0 row) = fitting row
fitting _ = refl

pub listed_item_is : (before behind : Table) (t : Tree) (i : Item) → IsItem before t i behind → is_instruction i ≡ not (is_mark i)
listed_item_is before behind t i h =
    let row = row_is (slots i.op) i.operands (and_parts (is_row (slots i.op) i.operands) (agrees i.operands) (item_fits before behind t i h)).0 in
    ap (λ b. not (is_mark i) && b) (fitting row) ∙ and-true (not (is_mark i))
