-- The text of a code form, as a listing writes it: a form a line, without spaces. Types of registers, annotations and attributes
-- are in no code form, and what `line` says is not kept, so none of them is written.
-- Source: `beam_listing` and `genop.tab` of Erlang/OTP.
use Rattle.std.specs.Prelude.{ℕ, ◌+◌, ◌-◌, max, nat_lt, if◌then◌else◌, List, [], ◌∷◌, ◌++◌, length, take, drop, codes, decimal, slice_get}
use Rattle.std.specs.Fmt.{signed_decimal}
use Rattle.std.specs.List.{flat_map, fold}
use Rattle.bx_terms.specs.declared.atom_table.AtomId.{AtomId}
use Rattle.bx_terms.specs.AtomText.{printed_atom}
use Rattle.bx_terms.specs.Printed.{printed, printed_name}
use Rattle.bx_ops.specs.Opcodes.{opcode}
use Rattle.bx_ops.specs.GuardBifs.{guard_bif}
use Rattle.bx_ops.specs.declared.sorts.Sort.TheVariants as sorts
use Rattle.bx_ops.specs.declared.sorts.Slot.{Slot}
use Rattle.bx_ops.specs.declared.sorts.Slot.TheVariants as slot_kinds
use Rattle.bx_ops.specs.declared.sorts.Way.{Way}
use Rattle.bx_ops.specs.declared.sorts.Way.TheVariants as ways
use Rattle.bx_ops.specs.Table.{slots, way}
use Rattle.bx_listing.specs.declared.items.Operand.{Operand}
use Rattle.bx_listing.specs.declared.items.Operand.TheVariants as operands
use Rattle.bx_listing.specs.declared.code_form.Export.{Export}
use Rattle.bx_listing.specs.Reading.{Table}
use Rattle.bx_listing.specs.Items.{Item}
use Rattle.bx_listing.specs.Code.{CodeFunction, Code}

-- an atom; a question mark for one that the table lacks
abbrev pub name_text : Table → AtomId → List ℕ
name_text names a = printed_name (slice_get names a.0)

-- an operand; a list's members are written where the list stands
abbrev pub operand_text : Table → Operand → List ℕ
operand_text names (operands.X n) = codes "{x," ++ decimal n ++ codes "}"
operand_text names (operands.Y n) = codes "{y," ++ decimal n ++ codes "}"
operand_text names (operands.Integer n) = codes "{integer," ++ signed_decimal n ++ codes "}"
operand_text names (operands.Atom a) = codes "{atom," ++ name_text names a ++ codes "}"
operand_text names operands.Nil = codes "nil"
operand_text names (operands.Literal t) = codes "{literal," ++ printed names t ++ codes "}"
operand_text names (operands.Label n) = codes "{f," ++ decimal n ++ codes "}"
operand_text names operands.NoLabel = codes "{f,0}"
operand_text names (operands.Place n) = decimal n
operand_text names (operands.Number n) = decimal n
operand_text names (operands.Arity n) = decimal n
operand_text names (operands.Import i) = codes "{extfunc," ++ name_text names i.«module» ++ codes "," ++ name_text names i.function ++ codes "," ++ decimal i.arity ++ codes "}"
operand_text names (operands.Bif b) = printed_atom (guard_bif b).name
operand_text names (operands.Amount a) = codes "{" ++ name_text names a.kind ++ codes "," ++ decimal a.count ++ codes "}"
operand_text names (operands.List n) = []

-- operands behind others: each after a comma
abbrev pub added_text : Table → List Operand → List ℕ
added_text names os = flat_map (λ o. codes "," ++ operand_text names o) os

-- operands with commas between them
abbrev pub joined_text : Table → List Operand → List ℕ
joined_text names [] = []
joined_text names (o ∷ os) = operand_text names o ++ added_text names os

abbrev pub list_text : Table → List Operand → List ℕ
list_text names os = codes "[" ++ joined_text names os ++ codes "]"

-- what stands in one place, after a comma: what a `line` says is written as the empty list
abbrev pub slot_text : Table → Slot → List Operand → List ℕ
slot_text names (slot_kinds.One sorts.Mark) os = codes ",[]"
slot_text names (slot_kinds.One s) (o ∷ os) = codes "," ++ operand_text names o
slot_text names (slot_kinds.Many s) (operands.List n ∷ os) = codes ",{list," ++ list_text names (take n os) ++ codes "}"
slot_text names (slot_kinds.Pairs s t) (operands.List n ∷ os) = codes ",{list," ++ list_text names (take n os) ++ codes "}"
slot_text names slot_kinds.Heap (operands.List n ∷ os) = codes ",{alloc," ++ list_text names (take n os) ++ codes "}"
slot_text names slot_kinds.Heap (o ∷ os) = codes "," ++ operand_text names o
slot_text names slot_kinds.NoLabel os = codes ",{f,0}"
slot_text names slot_kinds.ToX0 os = codes ",{x,0}"
slot_text names s os = []

-- how many of the operands one is, with a list's members
abbrev pub operand_span : List Operand → ℕ
operand_span (operands.List n ∷ os) = 1 + n
operand_span (o ∷ os) = 1
operand_span [] = 0

-- how many of the operands stand in one place
abbrev pub slot_span : Slot → List Operand → ℕ
slot_span slot_kinds.NoLabel os = 0
slot_span slot_kinds.ToX0 os = 0
slot_span s os = operand_span os

abbrev pub slots_text : Table → List Slot → List Operand → List ℕ
slots_text names [] os = []
slots_text names (s ∷ ss) os = slot_text names s os ++ slots_text names ss (drop (slot_span s os) os)

-- operands of which those from one place to another stand in a list
abbrev pub grouped_text : Table → ℕ → ℕ → List Operand → List ℕ
grouped_text names from to os = added_text names (take from os) ++ codes "," ++ list_text names (drop from (take to os)) ++ added_text names (drop to os)

-- A BIF: its name, where it goes on a fault, its arguments in a list, and its register. One without arguments cannot fault.
abbrev pub bif_text : Table → List Operand → List ℕ
bif_text names (b ∷ d ∷ []) = codes "{bif," ++ operand_text names b ++ codes ",{f,0},[]," ++ operand_text names d ++ codes "}"
bif_text names os = codes "{bif" ++ grouped_text names 2 (length os - 1) os ++ codes "}"

-- An instruction in the way in which its opcode is written. The operands of a test stand in a list behind its label, and the
-- arguments of a BIF in one before its register.
abbrev pub way_text : Table → Way → List ℕ → List Slot → List Operand → List ℕ
way_text names ways.Bare name ss os = name
way_text names ways.Plain name ss os = codes "{" ++ name ++ slots_text names ss os ++ codes "}"
way_text names ways.Test name ss os = codes "{test," ++ name ++ grouped_text names 1 (length os) os ++ codes "}"
way_text names ways.Bif name ss os = bif_text names os
way_text names ways.GcBif name ss os = codes "{gc_bif" ++ grouped_text names 3 (length os - 1) os ++ codes "}"
way_text names ways.Raise name ss os = codes "{raise,{f,0}" ++ grouped_text names 0 (length os) os ++ codes ",{x,0}}"

-- an item in the way of its opcode
abbrev pub item_words : Table → Item → List ℕ
item_words names i = way_text names (way i.op) (printed_atom (opcode i.op).name) (slots i.op) i.operands

-- a form's full stop ends its line
abbrev pub item_text : Table → Item → List ℕ
item_text names i = item_words names i ++ codes ".\n"

abbrev pub function_head_text : Table → CodeFunction → List ℕ
function_head_text names f = codes "{function," ++ name_text names f.name ++ codes "," ++ decimal f.arity ++ codes "," ++ decimal f.entry ++ codes "}.\n"

abbrev pub function_text : Table → CodeFunction → List ℕ
function_text names f = function_head_text names f ++ flat_map (item_text names) f.items

-- `{F,A}`
abbrev pub offer_text : Table → Export → List ℕ
offer_text names e = codes "{" ++ name_text names e.function ++ codes "," ++ decimal e.arity ++ codes "}"

abbrev pub offers_text : Table → List Export → List ℕ
offers_text names [] = []
offers_text names (e ∷ es) = offer_text names e ++ flat_map (λ e. codes "," ++ offer_text names e) es

-- the greatest of a number and the label that an item sets
abbrev pub label_above : ℕ → List Operand → ℕ
label_above n (operands.Place label ∷ os) = max n label
label_above n os = n

abbrev pub labels_above : ℕ → List Item → ℕ
labels_above n is = fold (λ n i. label_above n i.operands) n is

-- the greatest label, or 0
abbrev pub greatest_label : List CodeFunction → ℕ
greatest_label fs = fold (λ n f. labels_above n f.items) 0 fs

-- one more than the greatest label, where that is a number that a listing may hold
abbrev pub label_count : ℕ → ℕ
label_count n = if nat_lt n 4294967295 then n + 1 else n

abbrev pub module_text : Table → AtomId → List ℕ
module_text names a = codes "{module," ++ name_text names a ++ codes "}.\n"

abbrev pub exports_text : Table → List Export → List ℕ
exports_text names es = codes "{exports,[" ++ offers_text names es ++ codes "]}.\n"

abbrev pub labels_text : ℕ → List ℕ
labels_text n = codes "{labels," ++ decimal n ++ codes "}.\n"

-- the forms before the functions; no attribute is kept
abbrev pub head_text : Table → Code → List ℕ
head_text names c = module_text names c.name ++ exports_text names c.exports ++ codes "{attributes,[]}.\n" ++ labels_text (label_count (greatest_label c.functions))

-- the whole listing
abbrev pub code_text : Table → Code → List ℕ
code_text names c = head_text names c ++ flat_map (function_text names) c.functions
