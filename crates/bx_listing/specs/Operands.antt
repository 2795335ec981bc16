-- The operands of instructions, by their sorts. Each is read from left to right, up to the first fault.
use Rattle.std.specs.Prelude.{ℕ, List, [], ◌∷◌, Option, Some, None, option_map, codes, nat_eq, if◌then◌else◌}
use Rattle.bx_terms.specs.declared.faults.Fault.TheVariants as faults
use Rattle.bx_terms.specs.Tree as term
use Rattle.bx_text.specs.Tree.{Tree, integer, atom, tuple, cons}
use Rattle.bx_ops.specs.GuardBifs.{guard_bif_with}
use Rattle.bx_terms.specs.declared.atom_table.AtomId.{AtomId}
use Rattle.bx_ops.specs.declared.sorts.Sort.{Sort}
use Rattle.bx_ops.specs.declared.sorts.Sort.TheVariants as sorts
use Rattle.bx_listing.specs.declared.items.Operand.{Operand}
use Rattle.bx_listing.specs.declared.items.Operand.TheVariants as operands
use Rattle.bx_listing.specs.declared.words.OperandWord.{OperandWord}
use Rattle.bx_listing.specs.declared.words.OperandWord.TheVariants as words
use Rattle.bx_listing.specs.Reading.{Reading, ◌>>=◌, give, refuse, wanted, named, no_line}
use Rattle.bx_listing.specs.Shape.{Shape, bare, tagged, other, shape, elements, number, word}
use Rattle.bx_listing.specs.Words.{operand_word}
use Rattle.bx_listing.specs.Literals.{small, literal}

abbrev pub bad_operand : {A : Type 0} → Reading A
bad_operand = refuse (faults.BadOperand no_line)

-- what must have this shape
abbrev pub operand : {A : Type 0} → Option A → Reading A
operand = wanted (faults.BadOperand no_line)

-- R of `{tr,R,T}`, however often it is wrapped so
abbrev pub untyped_of : Tree → OperandWord → Tree → List Tree → Tree
untyped_of t words.Typed inner (type ∷ []) = inner
untyped_of t _ inner _ = t

abbrev pub untyped : Tree → Tree
untyped (tuple s (cons (atom r text) (cons inner rest))) =
    untyped_of (tuple s (cons (atom r text) (cons inner rest))) (operand_word text) (untyped inner) (elements rest)
untyped t = t

-- `{x,N}` or `{y,N}`
abbrev pub register_of : OperandWord → List Tree → Option Operand
register_of words.X (n ∷ []) = option_map operands.X (number n)
register_of words.Y (n ∷ []) = option_map operands.Y (number n)
register_of _ _ = None

abbrev pub plain_register : Shape → Option Operand
plain_register (tagged text parts) = register_of (operand_word text) parts
plain_register _ = None

abbrev pub register : Tree → Option Operand
register t = plain_register (shape (untyped t))

abbrev pub only_y : Option Operand → Option Operand
only_y (Some (operands.Y n)) = Some (operands.Y n)
only_y _ = None

-- `{f,N}`
abbrev pub label_of : OperandWord → List Tree → Option ℕ
label_of words.Label (n ∷ []) = number n
label_of _ _ = None

abbrev pub label_in : Shape → Option ℕ
label_in (tagged text parts) = label_of (operand_word text) parts
label_in _ = None

abbrev pub label : Tree → Option ℕ
label t = label_in (shape t)

-- an atom alone, as it stands in `{extfunc,M,F,A}`
abbrev pub atom_word : Tree → Reading AtomId
atom_word t = operand (word t) >>= named

-- `{atom,A}`
abbrev pub atom_of : OperandWord → List Tree → Reading Operand
atom_of words.Atom (t ∷ []) = atom_word t >>= λ a. give (operands.Atom a)
atom_of _ _ = bad_operand

abbrev pub atom_in : Shape → Reading Operand
atom_in (tagged text parts) = atom_of (operand_word text) parts
atom_in _ = bad_operand

abbrev pub atom_operand : Tree → Reading Operand
atom_operand t = atom_in (shape t)

-- `{integer,I}`, an integer of 64 bits
abbrev pub integer_source : Tree → Reading Operand
integer_source (integer s n) = small n >>= λ n. give (operands.Integer n)
integer_source t = bad_operand

-- `{atom,A}`
abbrev pub atom_source : Tree → Reading Operand
atom_source t = atom_word t >>= λ a. give (operands.Atom a)

-- `{literal,T}`, as high as terms may be, which is looked at when all of it was read
abbrev pub within_height : Option term.Tree → Reading Operand
within_height (Some t) = give (operands.Literal t)
within_height None = refuse (faults.LiteralRange no_line)

abbrev pub literal_source : Tree → Reading Operand
literal_source t = literal t >>= within_height

-- what is neither a register nor one of the values that may stand in an instruction is no source
abbrev pub source_of : Tree → OperandWord → List Tree → Reading Operand
source_of t words.Integer (n ∷ []) = integer_source n
source_of t words.Atom (a ∷ []) = atom_source a
source_of t words.Literal (u ∷ []) = literal_source u
source_of t words.Float (f ∷ []) = refuse (faults.Unsupported no_line (codes "float"))
source_of t _ _ = operand (register t)

abbrev pub word_source : OperandWord → Reading Operand
word_source words.Nil = give operands.Nil
word_source _ = bad_operand

abbrev pub source_in : Tree → Shape → Reading Operand
source_in t (bare text) = word_source (operand_word text)
source_in t (tagged text parts) = source_of t (operand_word text) parts
source_in t other = bad_operand

-- a register, or a value that stands in the instruction
abbrev pub source : Tree → Reading Operand
source t = source_in t (shape t)

-- an atom or an integer
abbrev pub value_of : OperandWord → List Tree → Reading Operand
value_of words.Integer (n ∷ []) = integer_source n
value_of words.Atom (a ∷ []) = atom_source a
value_of words.Float (f ∷ []) = refuse (faults.Unsupported no_line (codes "float"))
value_of _ _ = bad_operand

abbrev pub value_in : Shape → Reading Operand
value_in (tagged text parts) = value_of (operand_word text) parts
value_in _ = bad_operand

abbrev pub value : Tree → Reading Operand
value t = value_in (shape t)

-- what stands behind `extfunc`
abbrev pub external : Tree → Tree → Tree → Reading Operand
external m f a = do
  owner ← atom_word m
  function ← atom_word f
  count ← operand (number a)
  give (operands.Import (record { «module» = owner; function = function; arity = count }))

abbrev pub callee_of : OperandWord → List Tree → Reading Operand
callee_of words.External (m ∷ f ∷ a ∷ []) = external m f a
callee_of _ _ = bad_operand

abbrev pub callee_in : Shape → Reading Operand
callee_in (tagged text parts) = callee_of (operand_word text) parts
callee_in _ = bad_operand

-- `{extfunc,M,F,A}`
abbrev pub callee : Tree → Reading Operand
callee t = callee_in (shape t)

-- `{KIND,N}`
abbrev pub amount_of : List ℕ → List Tree → Reading Operand
amount_of text (n ∷ []) = named text >>= λ kind. operand (number n) >>= λ count. give (operands.Amount (record { kind = kind; count = count }))
amount_of text _ = bad_operand

abbrev pub amount_in : Shape → Reading Operand
amount_in (tagged text parts) = amount_of text parts
amount_in _ = bad_operand

abbrev pub amount : Tree → Reading Operand
amount t = amount_in (shape t)

abbrev pub fail_label : ℕ → Operand
fail_label n = if nat_eq n 0 then operands.NoLabel else operands.Label n

-- a guard BIF of so many arguments
abbrev pub bif_named : ℕ → Option (List ℕ) → Option Operand
bif_named arity (Some text) = option_map operands.Bif (guard_bif_with text arity)
bif_named arity None = None

-- the sorts that name no atom
abbrev pub plain : Sort → Tree → Option Operand
plain sorts.Register t = register t
plain sorts.YRegister t = only_y (register t)
plain sorts.Target t = option_map operands.Label (label t)
plain sorts.Fail t = option_map fail_label (label t)
plain sorts.Place t = option_map operands.Place (number t)
plain sorts.Number t = option_map operands.Number (number t)
plain sorts.Arity t = option_map operands.Arity (number t)
plain sorts.Bif0 t = bif_named 0 (word t)
plain sorts.Bif1 t = bif_named 1 (word t)
plain sorts.Bif2 t = bif_named 2 (word t)
plain sorts.Mark t = Some operands.Nil
plain _ t = None

-- one operand
abbrev pub simple : Sort → Tree → Reading Operand
simple sorts.Source t = source t
simple sorts.Value t = value t
simple sorts.Atom t = atom_operand t
simple sorts.Callee t = callee t
simple sorts.Amount t = amount t
simple sort t = operand (plain sort t)
