-- Which operands fit an opcode: those that its row of the table wants, in the table's order.
-- Source: `genop.tab` of Erlang/OTP.
use Rattle.std.specs.Prelude.{ℕ, ◌%◌, Bool, true, false, ◌==◌, ◌&&◌, nat_le, List, [], ◌∷◌, length, take, drop}
use Rattle.bx_ops.specs.declared.sorts.Sort.{Sort}
use Rattle.bx_ops.specs.declared.sorts.Sort.TheVariants as sorts
use Rattle.bx_ops.specs.declared.sorts.Slot.{Slot}
use Rattle.bx_ops.specs.declared.sorts.Slot.TheVariants as slot_kinds
use Rattle.bx_ops.specs.GuardBifs.{guard_bif}
use Rattle.bx_ops.specs.Table.{slots}
use Rattle.bx_listing.specs.declared.items.Operand.{Operand}
use Rattle.bx_listing.specs.declared.items.Operand.TheVariants as operands
use Rattle.bx_listing.specs.Items.{Item}
use Rattle.bx_listing.specs.Rows.{agrees}

-- one operand of a sort
abbrev pub is_one : Sort → Operand → Bool
is_one sorts.Source (operands.X n) = true
is_one sorts.Source (operands.Y n) = true
is_one sorts.Source (operands.Integer n) = true
is_one sorts.Source (operands.Atom a) = true
is_one sorts.Source operands.Nil = true
is_one sorts.Source (operands.Literal t) = true
is_one sorts.Value (operands.Integer n) = true
is_one sorts.Value (operands.Atom a) = true
is_one sorts.Register (operands.X n) = true
is_one sorts.Register (operands.Y n) = true
is_one sorts.YRegister (operands.Y n) = true
is_one sorts.Target (operands.Label n) = true
is_one sorts.Fail (operands.Label n) = true
is_one sorts.Fail operands.NoLabel = true
is_one sorts.Place (operands.Place n) = true
is_one sorts.Number (operands.Number n) = true
is_one sorts.Arity (operands.Arity n) = true
is_one sorts.Atom (operands.Atom a) = true
is_one sorts.Callee (operands.Import i) = true
is_one sorts.Bif0 (operands.Bif b) = (guard_bif b).arity == 0
is_one sorts.Bif1 (operands.Bif b) = (guard_bif b).arity == 1
is_one sorts.Bif2 (operands.Bif b) = (guard_bif b).arity == 2
is_one sorts.Mark operands.Nil = true
is_one sorts.Amount (operands.Amount a) = true
is_one _ _ = false

-- members of a list, of two sorts in turn
abbrev pub are_members : Sort → Sort → List Operand → Bool
are_members this next [] = true
are_members this next (o ∷ os) = is_one this o && are_members next this os

-- so many members are there, and are of these sorts
abbrev pub begin_members : ℕ → Sort → Sort → List Operand → Bool
begin_members n this next os = nat_le n (length os) && are_members this next (take n os)

-- the operands, place by place
abbrev pub is_row : List Slot → List Operand → Bool
is_row [] [] = true
is_row (slot_kinds.NoLabel ∷ ss) os = is_row ss os
is_row (slot_kinds.ToX0 ∷ ss) os = is_row ss os
is_row (slot_kinds.One s ∷ ss) (o ∷ os) = is_one s o && is_row ss os
is_row (slot_kinds.Many s ∷ ss) (operands.List n ∷ os) = begin_members n s s os && is_row ss (drop n os)
is_row (slot_kinds.Pairs a b ∷ ss) (operands.List n ∷ os) = (n % 2 == 0) && (begin_members n a b os && is_row ss (drop n os))
is_row (slot_kinds.Heap ∷ ss) (operands.Number n ∷ os) = is_row ss os
is_row (slot_kinds.Heap ∷ ss) (operands.List n ∷ os) = begin_members n sorts.Amount sorts.Amount os && is_row ss (drop n os)
is_row _ _ = false

-- the operands are those that the table wants, and a call's own arity is that of the function that it calls
abbrev pub fits : Item → Bool
fits i = is_row (slots i.op) i.operands && agrees i.operands
