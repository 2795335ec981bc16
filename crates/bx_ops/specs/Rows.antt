-- What the rows of the code's tables say.
use Rattle.std.specs.Prelude.{ℕ, List, Bool, Option, find, option_map}
use Rattle.std.specs.Borrow.{Bor}
use Rattle.bx_ops.specs.declared.guard_bif.Bif.{Bif}
use Rattle.bx_ops.specs.declared.opcode.Op.{Op}
use Rattle.bx_ops.specs.declared.sorts.Slot.{Slot}
use Rattle.bx_ops.specs.declared.sorts.Way.{Way}
use Rattle.bx_ops.specs.GuardBifs.{GuardBif}
use Rattle.bx_ops.specs.Opcodes.{Opcode}

abbrev pub OpRow : Type 0
OpRow = Op × ℕ × Bor (List ℕ) × Way × Bor (List Slot)

abbrev pub op_in : OpRow → Op
op_in row = row.0

abbrev pub said_of_op : OpRow → Opcode
said_of_op row = record { number = row.1; name = row.2.now; way = row.3; slots = row.4.now }

abbrev pub BifRow : Type 0
BifRow = Bif × Bor (List ℕ) × ℕ

abbrev pub bif_in : BifRow → Bif
bif_in row = row.0

abbrev pub said_of_bif : BifRow → GuardBif
said_of_bif row = record { name = row.1.now; arity = row.2 }

-- what the first row is of that says what passes a test
unfoldable pub first_with : {Row Key Entry : Type 0} → (Row → Key) → (Row → Entry) → (Entry → Bool) → List Row → Option Key
first_with key said test rows = option_map key (find (λ row. test (said row)) rows)
