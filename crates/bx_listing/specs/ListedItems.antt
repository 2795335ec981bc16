-- Which forms are items, by cases: how each part is written, and what it stands for. Atoms are numbered in reading order, so
-- each part has the table of atoms before it and the one behind it.
use Rattle.std.specs.Prelude.{◌≡◌, ℕ, ℤ, ◌≤◌, true, false, List, [], ◌∷◌, ◌++◌, length, Some, codes}
use Rattle.bx_terms.specs.declared.atom_table.AtomId.{AtomId}
use Rattle.bx_terms.specs.Tree as term
use Rattle.bx_text.specs.declared.node.Span.{Span}
use Rattle.bx_text.specs.Number.{is_large}
use Rattle.bx_text.specs.Tree.{Tree, integer}
use Rattle.bx_ops.specs.declared.opcode.Op.{Op}
use Rattle.bx_ops.specs.declared.opcode.Op.TheVariants as ops
use Rattle.bx_ops.specs.declared.guard_bif.Bif.{Bif}
use Rattle.bx_ops.specs.Opcodes.{opcode}
use Rattle.bx_ops.specs.GuardBifs.{guard_bif_with}
use Rattle.bx_ops.specs.declared.sorts.Sort.{Sort}
use Rattle.bx_ops.specs.declared.sorts.Sort.TheVariants as sorts
use Rattle.bx_ops.specs.declared.sorts.Slot.{Slot}
use Rattle.bx_ops.specs.declared.sorts.Slot.TheVariants as slot_kinds
use Rattle.bx_ops.specs.declared.sorts.Way.TheVariants as ways
use Rattle.bx_ops.specs.Table.{slots, way}
use Rattle.bx_listing.specs.declared.items.Import.{Import}
use Rattle.bx_listing.specs.declared.items.Amount.{Amount}
use Rattle.bx_listing.specs.Items.{Item}
use Rattle.bx_listing.specs.declared.items.Operand.{Operand}
use Rattle.bx_listing.specs.declared.items.Operand.TheVariants as operands
use Rattle.bx_listing.specs.Reading.{Table}
use Rattle.bx_listing.specs.Shape.{tagged, shape, number, word, list_elements}
use Rattle.bx_listing.specs.ListedTerms.{Names, IsTerm}
use Rattle.bx_listing.specs.Operands.{fail_label}
use Rattle.bx_listing.specs.Ways.{bif_op, gc_bif_op}
use Rattle.bx_listing.specs.Rows.{is_even, agrees}

-- `{Word,..}`, and what stands behind the word
abbrev pub Tuple : Tree → List ℕ → List Tree → Type 0
Tuple t text parts = shape t ≡ tagged text parts

-- a number from 0 to 4294967295
abbrev pub Number : Tree → ℕ → Type 0
Number t n = number t ≡ Some n

-- `A`
abbrev pub Atom : Table → Tree → AtomId → Table → Type 0
Atom before t atom behind = (text : List ℕ) × (word t ≡ Some text) × Names before text atom behind

-- `{atom,A}`
abbrev pub AtomOperand : Table → Tree → Operand → Table → Type 0
AtomOperand before t o behind = (a : Tree) × (atom : AtomId) × Tuple t (codes "atom") (a ∷ []) × Atom before a atom behind × (o ≡ operands.Atom atom)

-- `{integer,I}` of 64 bits
abbrev pub IntegerOperand : Tree → Operand → Type 0
IntegerOperand t o = (s : Span) × (n : ℤ) × Tuple t (codes "integer") (integer s n ∷ []) × (is_large n ≡ false) × (o ≡ operands.Integer n)

-- `{f,L}`
abbrev pub Target : Tree → ℕ → Type 0
Target t label = (l : Tree) × Tuple t (codes "f") (l ∷ []) × Number l label

-- `{x,N}`, `{y,N}`, or `{tr,R,T}` for the register R
pub data IsRegister : Tree → Operand → Type 0 where
  in_x : {t n : Tree} {k : ℕ} → Tuple t (codes "x") (n ∷ []) → Number n k → IsRegister t (operands.X k)
  in_y : {t n : Tree} {k : ℕ} → Tuple t (codes "y") (n ∷ []) → Number n k → IsRegister t (operands.Y k)
  in_typed : {t inner type : Tree} {r : Operand} → Tuple t (codes "tr") (inner ∷ type ∷ []) → IsRegister inner r → IsRegister t r

-- an atom or an integer
pub data IsValue (before : Table) : Tree → Operand → Table → Type 0 where
  an_integer : {t : Tree} {o : Operand} → IntegerOperand t o → IsValue before t o before
  an_atom : {t : Tree} {o : Operand} {behind : Table} → AtomOperand before t o behind → IsValue before t o behind

-- what an instruction reads
pub data IsSource (before : Table) : Tree → Operand → Table → Type 0 where
  a_register : {t : Tree} {r : Operand} → IsRegister t r → IsSource before t r before
  a_value : {t : Tree} {o : Operand} {behind : Table} → IsValue before t o behind → IsSource before t o behind
  -- `nil`
  a_nil : {t : Tree} → word t ≡ Some (codes "nil") → IsSource before t operands.Nil before
  -- `{literal,T}`, which is not too high
  a_literal : {t u : Tree} {x : term.Tree} {behind : Table} → Tuple t (codes "literal") (u ∷ []) → IsTerm before u x behind → term.height x ≤ 10000
      → IsSource before t (operands.Literal x) behind

-- `{extfunc,M,F,A}`
abbrev pub IsCallee : Table → Tree → Operand → Table → Type 0
IsCallee before t o behind =
    (m : Tree) × (f : Tree) × (a : Tree) × (between : Table) × (i : Import)
    × Tuple t (codes "extfunc") (m ∷ f ∷ a ∷ []) × Atom before m i.«module» between × Atom between f i.function behind × Number a i.arity × (o ≡ operands.Import i)

-- `{KIND,N}`
abbrev pub IsAmount : Table → Tree → Operand → Table → Type 0
IsAmount before t o behind =
    (kind : List ℕ) × (n : Tree) × (a : Amount) × Tuple t kind (n ∷ []) × Names before kind a.kind behind × Number n a.count × (o ≡ operands.Amount a)

-- a guard BIF of so many arguments
abbrev pub IsBif : ℕ → Tree → Operand → Type 0
IsBif arity t o = (text : List ℕ) × (bif : Bif) × (word t ≡ Some text) × (guard_bif_with text arity ≡ Some bif) × (o ≡ operands.Bif bif)

-- what is some number
abbrev pub IsNumbered : (ℕ → Operand) → Tree → Operand → Type 0
IsNumbered made t o = (n : ℕ) × Number t n × (o ≡ made n)

abbrev pub IsLabelled : (ℕ → Operand) → Tree → Operand → Type 0
IsLabelled made t o = (n : ℕ) × Target t n × (o ≡ made n)

-- the sorts in which no atom is named
abbrev pub IsPlain : Sort → Tree → Operand → Type 0
IsPlain sorts.Register t o = IsRegister t o
IsPlain sorts.YRegister t o = (n : ℕ) × IsRegister t (operands.Y n) × (o ≡ operands.Y n)
IsPlain sorts.Target t o = IsLabelled operands.Label t o
IsPlain sorts.Fail t o = IsLabelled fail_label t o
IsPlain sorts.Place t o = IsNumbered operands.Place t o
IsPlain sorts.Number t o = IsNumbered operands.Number t o
IsPlain sorts.Arity t o = IsNumbered operands.Arity t o
IsPlain sorts.Bif0 t o = IsBif 0 t o
IsPlain sorts.Bif1 t o = IsBif 1 t o
IsPlain sorts.Bif2 t o = IsBif 2 t o
IsPlain sorts.Mark t o = o ≡ operands.Nil
IsPlain _ t o = ⊥

-- one operand of a sort
abbrev pub IsOperand : Table → Sort → Tree → Operand → Table → Type 0
IsOperand before sorts.Source t o behind = IsSource before t o behind
IsOperand before sorts.Value t o behind = IsValue before t o behind
IsOperand before sorts.Atom t o behind = AtomOperand before t o behind
IsOperand before sorts.Callee t o behind = IsCallee before t o behind
IsOperand before sorts.Amount t o behind = IsAmount before t o behind
IsOperand before sort t o behind = IsPlain sort t o × (before ≡ behind)

-- the members of a list, of two sorts in turn
pub data AreMembers : Table → Sort → Sort → List Tree → List Operand → Table → Type 0 where
  no_member : {before : Table} {this next : Sort} → AreMembers before this next [] [] before
  a_member : {before between behind : Table} {this next : Sort} {t : Tree} {ts : List Tree} {o : Operand} {os : List Operand} → IsOperand before this t o between
      → AreMembers between next this ts os behind → AreMembers before this next (t ∷ ts) (o ∷ os) behind

-- `{list,[T,..]}`
abbrev pub IsList : Tree → List Tree → Type 0
IsList t ts = (l : Tree) × Tuple t (codes "list") (l ∷ []) × (list_elements l ≡ Some ts)

-- `{alloc,[T,..]}`
abbrev pub AreAmounts : Tree → List Tree → Type 0
AreAmounts t ts = (l : Tree) × Tuple t (codes "alloc") (l ∷ []) × (list_elements l ≡ Some ts)

-- what stands in one place
pub data IsSlot (before : Table) : Slot → Tree → List Operand → Table → Type 0 where
  an_operand : {sort : Sort} {t : Tree} {o : Operand} {behind : Table} → IsOperand before sort t o behind → IsSlot before (slot_kinds.One sort) t (o ∷ []) behind
  a_list : {sort : Sort} {t : Tree} {ts : List Tree} {os : List Operand} {behind : Table} → IsList t ts → AreMembers before sort sort ts os behind
      → IsSlot before (slot_kinds.Many sort) t (operands.List (length ts) ∷ os) behind
  pairs : {first second : Sort} {t : Tree} {ts : List Tree} {os : List Operand} {behind : Table} → IsList t ts → is_even ts ≡ true → AreMembers before first second ts os behind
      → IsSlot before (slot_kinds.Pairs first second) t (operands.List (length ts) ∷ os) behind
  no_label : {t : Tree} → Target t 0 → IsSlot before slot_kinds.NoLabel t [] before
  a_size : {t : Tree} {o : Operand} {behind : Table} → IsOperand before sorts.Number t o behind → IsSlot before slot_kinds.Heap t (o ∷ []) behind
  amounts : {t : Tree} {ts : List Tree} {os : List Operand} {behind : Table} → AreAmounts t ts → AreMembers before sorts.Amount sorts.Amount ts os behind
      → IsSlot before slot_kinds.Heap t (operands.List (length ts) ∷ os) behind
  to_x0 : {t : Tree} → IsRegister t (operands.X 0) → IsSlot before slot_kinds.ToX0 t [] before

-- the operands, place by place
pub data AreSlots : Table → List Slot → List Tree → List Operand → Table → Type 0 where
  no_slot : {before : Table} → AreSlots before [] [] [] before
  a_slot : {before between behind : Table} {s : Slot} {ss : List Slot} {t : Tree} {ts : List Tree} {os more : List Operand} → IsSlot before s t os between
      → AreSlots between ss ts more behind → AreSlots before (s ∷ ss) (t ∷ ts) (os ++ more) behind

-- how an instruction is written with which operands
pub data IsWritten : Tree → Op → List Tree → Type 0 where
  -- `NAME`
  bare : {t : Tree} {op : Op} → way op ≡ ways.Bare → word t ≡ Some (opcode op).name → IsWritten t op []
  -- `{NAME,OPERAND,..}`
  plain : {t : Tree} {op : Op} {ts : List Tree} → way op ≡ ways.Plain → Tuple t (opcode op).name ts → IsWritten t op ts
  -- `{test,NAME,LABEL,[OPERAND,..]}`
  test : {t n l list : Tree} {op : Op} {ts : List Tree} → way op ≡ ways.Test → Tuple t (codes "test") (n ∷ l ∷ list ∷ []) → word n ≡ Some (opcode op).name
      → list_elements list ≡ Some ts → IsWritten t op (l ∷ ts)
  -- `{bif,BIF,FAIL,[SOURCE,..],REGISTER}`
  bif : {t b f list d : Tree} {text : List ℕ} {named : Bif} {op : Op} {ts : List Tree} → Tuple t (codes "bif") (b ∷ f ∷ list ∷ d ∷ []) → word b ≡ Some text
      → list_elements list ≡ Some ts → guard_bif_with text (length ts) ≡ Some named → bif_op (length ts) ≡ Some op → IsWritten t op ((b ∷ f ∷ []) ++ (ts ++ d ∷ []))
  -- `{gc_bif,BIF,FAIL,LIVE,[SOURCE,..],REGISTER}`
  gc_bif : {t b f n list d : Tree} {text : List ℕ} {named : Bif} {op : Op} {ts : List Tree} → Tuple t (codes "gc_bif") (b ∷ f ∷ n ∷ list ∷ d ∷ []) → word b ≡ Some text
      → list_elements list ≡ Some ts → guard_bif_with text (length ts) ≡ Some named → gc_bif_op (length ts) ≡ Some op → IsWritten t op ((b ∷ f ∷ n ∷ []) ++ (ts ++ d ∷ []))
  -- `{raise,FAIL,[SOURCE,SOURCE],REGISTER}`, and the same as a BIF
  raise : {t f list d : Tree} {ts : List Tree} → Tuple t (codes "raise") (f ∷ list ∷ d ∷ []) → list_elements list ≡ Some ts → IsWritten t ops.Raise ((f ∷ []) ++ (ts ++ d ∷ []))
  raise_bif : {t b f list d : Tree} {ts : List Tree} → Tuple t (codes "bif") (b ∷ f ∷ list ∷ d ∷ []) → word b ≡ Some (codes "raise") → list_elements list ≡ Some ts
      → length ts ≡ 2 → IsWritten t ops.Raise ((f ∷ []) ++ (ts ++ d ∷ []))

-- an instruction, a label or a line mark: its opcode, and the operands that stand in its places
abbrev pub IsItem : Table → Tree → Item → Table → Type 0
IsItem before t i behind = (ts : List Tree) × IsWritten t i.op ts × AreSlots before (slots i.op) ts i.operands behind × (agrees i.operands ≡ true)
