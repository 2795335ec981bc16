-- Items as a listing writes them: an opcode with a row of operands. What stands in a list follows the list's length.
-- Source: `genop.tab` of Erlang/OTP.
use Rattle.std.specs.Prelude.{ℕ, List, refl}
use Rattle.std.specs.Coded.{Coded, code_by, coded×, coded_ℕ, coded_list}
use Rattle.bx_ops.specs.declared.opcode.Op.{Op}
use Rattle.bx_listing.specs.declared.items.Operand.{Operand}
use Rattle.bx_listing.specs.declared.items.Item.{Item as Seen}

-- an instruction, a label or a line mark
pub record Item : Type 0 where
  pub op : Op
  pub operands : List Operand

-- an item, and the line from 1 on which its form begins
pub record PlacedItem : Type 0 where
  pub line : ℕ
  pub item : Item

abbrev pub seen_item : Seen → Item
seen_item i = record { op = i.op; operands = i.operands.now }

-- what a proof tells two of them apart by
abbrev pub item_code : Coded Op → Coded Operand → Coded Item
item_code op operand =
    code_by (Op × List Operand) (coded× op (coded_list operand))
    (λ i. (i.op, i.operands))
    (λ t. record { op = t.0; operands = t.1 })
    (λ _. refl)

abbrev pub placed_code : Coded Item → Coded PlacedItem
placed_code item =
    code_by (ℕ × Item) (coded× coded_ℕ item)
    (λ p. (p.line, p.item))
    (λ t. record { line = t.0; item = t.1 })
    (λ _. refl)
