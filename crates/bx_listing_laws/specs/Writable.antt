-- Which code forms a listing can say whole: what is written of one is read as the same code form.
use Rattle.std.specs.Prelude.{◌≡◌, ◌≢◌, ◌≤◌, ◌<◌, ℕ, ◌-◌, true, false, List, ◌∷◌, length}
use Rattle.std.specs.List.{AllByRecursion}
use Rattle.bx_terms.specs.declared.atom_table.AtomId.{AtomId}
use Rattle.bx_text.specs.Number.{is_large}
use Rattle.bx_ops.specs.declared.opcode.Op.{Op}
use Rattle.bx_ops.specs.declared.opcode.Op.TheVariants as ops
use Rattle.bx_ops.specs.declared.sorts.Way.{Way}
use Rattle.bx_ops.specs.declared.sorts.Way.TheVariants as ways
use Rattle.bx_ops.specs.Table.{way}
use Rattle.bx_listing.specs.declared.code_form.Export.{Export}
use Rattle.bx_listing.specs.declared.items.Operand.{Operand}
use Rattle.bx_listing.specs.declared.items.Operand.TheVariants as operands
use Rattle.bx_listing.specs.Reading.{Table}
use Rattle.bx_listing.specs.Items.{Item}
use Rattle.bx_listing.specs.Fits.{fits}
use Rattle.bx_listing.specs.Code.{CodeFunction, Code}
use Rattle.bx_listing_laws.specs.Spellable.{IsLiteral}

-- an atom of the table
abbrev pub IsHeld : Table → AtomId → Type 0
IsHeld names a = a.0 < length names

-- a number that a listing may hold
abbrev pub InRange : ℕ → Type 0
InRange n = n ≤ 4294967295

-- an operand, where the brackets of a literal may nest so deep
abbrev pub IsWritableOperand : Table → ℕ → Operand → Type 0
IsWritableOperand names depth (operands.X n) = InRange n
IsWritableOperand names depth (operands.Y n) = InRange n
IsWritableOperand names depth (operands.Integer n) = is_large n ≡ false
IsWritableOperand names depth (operands.Atom a) = IsHeld names a
IsWritableOperand names depth (operands.Literal t) = IsLiteral names depth t
IsWritableOperand names depth (operands.Label n) = InRange n
IsWritableOperand names depth (operands.Place n) = InRange n
IsWritableOperand names depth (operands.Number n) = InRange n
IsWritableOperand names depth (operands.Arity n) = InRange n
IsWritableOperand names depth (operands.Import i) = IsHeld names i.«module» × IsHeld names i.function × InRange i.arity
IsWritableOperand names depth (operands.Amount a) = IsHeld names a.kind × InRange a.count
IsWritableOperand names depth o = Unit {0}

-- A BIF's fault goes to a label other than 0, or to none: `{f,0}` says that it goes to none.
abbrev pub FaultIsSaid : List Operand → Type 0
FaultIsSaid (operands.Bif b ∷ operands.Label n ∷ os) = n ≢ 0
FaultIsSaid os = Unit {0}

abbrev pub brackets_of : Way → ℕ
brackets_of ways.Plain = 2
brackets_of _ = 3

-- how many brackets stand around a literal's term: those of the item, of `{literal,T}`, and those of a list, as in
-- `{test,NAME,LABEL,[{literal,T},..]}` and `{put_tuple2,R,{list,[{literal,T},..]}}`
abbrev pub brackets : Op → ℕ
brackets ops.PutTuple2 = 4
brackets op = brackets_of (way op)

-- brackets are read where they nest at most 256 deep
abbrev pub depth_left : Op → ℕ
depth_left op = 256 - brackets op

-- the operands are those that the opcode's row wants, and each can be written
abbrev pub IsWritableItem : Table → Item → Type 0
IsWritableItem names i = (fits i ≡ true) × AllByRecursion (IsWritableOperand names (depth_left i.op)) i.operands × FaultIsSaid i.operands

abbrev pub IsWritableFunction : Table → CodeFunction → Type 0
IsWritableFunction names f = IsHeld names f.name × InRange f.arity × InRange f.entry × AllByRecursion (IsWritableItem names) f.items

abbrev pub IsWritableExport : Table → Export → Type 0
IsWritableExport names e = IsHeld names e.function × InRange e.arity

abbrev pub IsWritable : Table → Code → Type 0
IsWritable names c = IsHeld names c.name × AllByRecursion (IsWritableExport names) c.exports × AllByRecursion (IsWritableFunction names) c.functions
