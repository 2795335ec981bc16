-- The operands of an instruction, slot by slot, behind those that were read before it. What stands in a list follows the
-- list's length.
use Rattle.std.specs.Prelude.{ℕ, ◌%◌, Bool, true, false, ◌==◌, List, [], ◌∷◌, ◌++◌, length, drop, Option, Some, None, if◌then◌else◌}
use Rattle.bx_ops.specs.declared.opcode.Op.{Op}
use Rattle.bx_text.specs.Tree.{Tree}
use Rattle.bx_ops.specs.declared.sorts.Sort.{Sort}
use Rattle.bx_ops.specs.declared.sorts.Sort.TheVariants as sorts
use Rattle.bx_ops.specs.declared.sorts.Slot.{Slot}
use Rattle.bx_ops.specs.declared.sorts.Slot.TheVariants as slot_kinds
use Rattle.bx_ops.specs.Table.{slots}
use Rattle.bx_listing.specs.declared.items.Operand.{Operand}
use Rattle.bx_listing.specs.declared.items.Operand.TheVariants as operands
use Rattle.bx_listing.specs.declared.words.OperandWord.{OperandWord}
use Rattle.bx_listing.specs.declared.words.OperandWord.TheVariants as words
use Rattle.bx_listing.specs.declared.words.FormWord.{FormWord}
use Rattle.bx_listing.specs.declared.words.FormWord.TheVariants as forms
use Rattle.bx_listing.specs.Reading.{Reading, ◌>>=◌, give, from_result, stored, after_storing}
use Rattle.bx_listing.specs.Shape.{Shape, tagged, bare, other, shape, list_elements}
use Rattle.bx_listing.specs.Words.{operand_word, form_word}
use Rattle.bx_listing.specs.Operands.{bad_operand, operand, label, register, simple}
use Rattle.bx_listing.specs.Ways.{tuple_form, bare_form}
use Rattle.bx_terms.specs.declared.faults.Fault.TheVariants as faults
use Rattle.bx_listing.specs.Reading.{refuse, no_line}

-- the members of a list, of two sorts in turn
abbrev pub members : List Operand → Sort → Sort → List Tree → Reading (List Operand)
members done this next [] = give done
members done this next (t ∷ ts) = stored (simple this t) >>= λ o. members (done ++ o ∷ []) next this ts

-- `{list,[T,..]}`
abbrev pub listed_of : OperandWord → List Tree → Option (List Tree)
listed_of words.List (t ∷ []) = list_elements t
listed_of _ _ = None

abbrev pub listed_in : Shape → Option (List Tree)
listed_in (tagged text parts) = listed_of (operand_word text) parts
listed_in _ = None

abbrev pub listed : Tree → Option (List Tree)
listed t = listed_in (shape t)

abbrev pub is_even : List Tree → Bool
is_even ts = length ts % 2 == 0

abbrev pub is_label : ℕ → Option ℕ → Bool
is_label n (Some m) = m == n
is_label n None = false

abbrev pub is_x : ℕ → Option Operand → Bool
is_x n (Some (operands.X m)) = m == n
is_x n _ = false

abbrev pub list_of : List Operand → Sort → Sort → List Tree → Reading (List Operand)
list_of done this next ts = after_storing (members (done ++ operands.List (length ts) ∷ []) this next ts)

abbrev pub pairs_of : List Operand → Sort → Sort → List Tree → Reading (List Operand)
pairs_of done this next ts = if is_even ts then list_of done this next ts else bad_operand

-- `{alloc,[T,..]}`
abbrev pub amounts_of : OperandWord → List Tree → Option (List Tree)
amounts_of words.Amounts (t ∷ []) = list_elements t
amounts_of _ _ = None

abbrev pub amounts_in : Shape → Option (List Tree)
amounts_in (tagged text parts) = amounts_of (operand_word text) parts
amounts_in _ = None

abbrev pub amounts : Tree → Option (List Tree)
amounts t = amounts_in (shape t)

-- a heap's size: a number, or the amounts of its parts
abbrev pub heap_of : List Operand → Tree → Option (List Tree) → Reading (List Operand)
heap_of done t (Some ts) = list_of done sorts.Amount sorts.Amount ts
heap_of done t None = stored (simple sorts.Number t) >>= λ o. give (done ++ o ∷ [])

abbrev pub heap : List Operand → Tree → Reading (List Operand)
heap done t = heap_of done t (amounts t)

-- one slot
abbrev pub slot : List Operand → Slot → Tree → Reading (List Operand)
slot done (slot_kinds.One s) t = stored (simple s t) >>= λ o. give (done ++ o ∷ [])
slot done (slot_kinds.Many s) t = operand (listed t) >>= list_of done s s
slot done (slot_kinds.Pairs a b) t = operand (listed t) >>= pairs_of done a b
slot done slot_kinds.NoLabel t = if is_label 0 (label t) then give done else bad_operand
slot done slot_kinds.ToX0 t = if is_x 0 (register t) then give done else bad_operand
slot done slot_kinds.Heap t = heap done t

-- slots, as many as there are terms
abbrev pub row : List Operand → List Slot → List Tree → Reading (List Operand)
row done [] ts = give done
row done (s ∷ ss) [] = give done
row done (s ∷ ss) (t ∷ ts) = slot done s t >>= λ more. row more ss ts

-- a call's own arity is that of the function that it calls
abbrev pub agrees : List Operand → Bool
agrees (operands.Arity a ∷ operands.Import i ∷ os) = a == i.arity
agrees _ = true

-- an item, or an annotation, which is ignored; and the operands so far
abbrev pub Read : Type 0
Read = Option Op × List Operand

abbrev pub agreed : Op → List Operand → List Operand → Reading Read
agreed op done all = if agrees (drop (length done) all) then give (Some op, all) else bad_operand

abbrev pub formed_item : List Operand → Op × List Tree → Reading Read
formed_item done f = row done (slots f.0) f.1 >>= agreed f.0 done

abbrev pub written_item : List Operand → List ℕ → FormWord → List Tree → Reading Read
written_item done text word parts = from_result (tuple_form text word parts) >>= formed_item done

abbrev pub tuple_item : List Operand → List ℕ → FormWord → List Tree → Reading Read
tuple_item done text forms.Annotation (t ∷ []) = give (None, done)
tuple_item done text word parts = written_item done text word parts

-- an instruction that is written as its name alone has no operands
abbrev pub bare_item : List Operand → List ℕ → Reading Read
bare_item done text = from_result (bare_form text (form_word text)) >>= λ f. give (Some f.0, done)

-- what a form adds to the operands so far
abbrev pub item_row : List Operand → Shape → Reading Read
item_row done (tagged text parts) = tuple_item done text (form_word text) parts
item_row done (bare text) = bare_item done text
item_row done other = refuse (faults.BadForm no_line)
