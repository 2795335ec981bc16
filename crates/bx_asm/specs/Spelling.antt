-- Numbered items, and what they spell by the tables of their unit.
-- Source: `genop.tab` of Erlang/OTP.
use Rattle.bx_listing.specs.Items.{Item}
use Rattle.bx_asm.specs.declared.operands.NumberedItem.{NumberedItem}
use Rattle.bx_asm.specs.Operands.{Tables, row_of}

-- what an item spells
abbrev pub spelled_item : Tables → NumberedItem → Item
spelled_item t i = record { op = i.op; operands = row_of t i.operands.items }
