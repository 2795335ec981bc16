-- The guard BIFs, by the fixed atoms that spell their names.
use Rattle.std.specs.Prelude.{ℕ, List, ◌&&◌, ◌==◌, Option, find, option_and_then, slice_get}
use Rattle.bx_terms.specs.declared.atom_table.AtomId.{AtomId}
use Rattle.bx_terms.specs.declared.fixed.TheConstants.{SELF, PLUS, MINUS, TIMES, DIV, REM, BAND, BOR, BXOR, BSL, BSR, BNOT, ABS, EQUAL, NOT_EQUAL, EXACTLY_EQUAL, EXACTLY_NOT_EQUAL, LESS, GREATER, LESS_OR_EQUAL, GREATER_OR_EQUAL, MIN, MAX, NOT, AND, OR, XOR, HD, TL, LENGTH, TUPLE_SIZE, SIZE, ELEMENT, IS_ATOM, IS_BOOLEAN, IS_INTEGER, IS_LIST, IS_NUMBER, IS_PID, IS_TUPLE, IS_FLOAT, IS_BINARY, IS_REFERENCE, IS_PORT}
use Rattle.bx_ops.specs.declared.guard_bif.Bif.{Bif}
use Rattle.bx_ops.specs.declared.guard_bif.Bif.TheVariants.{SelfPid, Add, Subtract, Multiply, Div, Rem, Band, Bor, Bxor, Bsl, Bsr, UnaryPlus, UnaryMinus, Bnot, Abs, Equal, NotEqual, ExactlyEqual, ExactlyNotEqual, Less, Greater, LessOrEqual, GreaterOrEqual, Min, Max, Not, And, Or, Xor, Hd, Tl, Length, TupleSize, Size, Element, IsAtom, IsBoolean, IsInteger, IsList, IsNumber, IsPid, IsTuple, IsFloat, IsBinary, IsReference, IsPort}
use Rattle.bx_ops.specs.GuardBifs.{guard_bif, guard_bif_with, every_guard_bif}

-- the guard BIF that an atom and an arity name: by the atom's text, in the table of guard BIFs
unfoldable pub guard_of : List (List ℕ) → AtomId → ℕ → Option Bif
guard_of texts name arity = option_and_then (λ text. guard_bif_with text arity) (slice_get texts name.0)

-- the fixed atom that spells a guard BIF's name
abbrev pub bif_atom : Bif → AtomId
bif_atom SelfPid = SELF
bif_atom Add = PLUS
bif_atom Subtract = MINUS
bif_atom Multiply = TIMES
bif_atom Div = DIV
bif_atom Rem = REM
bif_atom Band = BAND
bif_atom Bor = BOR
bif_atom Bxor = BXOR
bif_atom Bsl = BSL
bif_atom Bsr = BSR
bif_atom UnaryPlus = PLUS
bif_atom UnaryMinus = MINUS
bif_atom Bnot = BNOT
bif_atom Abs = ABS
bif_atom Equal = EQUAL
bif_atom NotEqual = NOT_EQUAL
bif_atom ExactlyEqual = EXACTLY_EQUAL
bif_atom ExactlyNotEqual = EXACTLY_NOT_EQUAL
bif_atom Less = LESS
bif_atom Greater = GREATER
bif_atom LessOrEqual = LESS_OR_EQUAL
bif_atom GreaterOrEqual = GREATER_OR_EQUAL
bif_atom Min = MIN
bif_atom Max = MAX
bif_atom Not = NOT
bif_atom And = AND
bif_atom Or = OR
bif_atom Xor = XOR
bif_atom Hd = HD
bif_atom Tl = TL
bif_atom Length = LENGTH
bif_atom TupleSize = TUPLE_SIZE
bif_atom Size = SIZE
bif_atom Element = ELEMENT
bif_atom IsAtom = IS_ATOM
bif_atom IsBoolean = IS_BOOLEAN
bif_atom IsInteger = IS_INTEGER
bif_atom IsList = IS_LIST
bif_atom IsNumber = IS_NUMBER
bif_atom IsPid = IS_PID
bif_atom IsTuple = IS_TUPLE
bif_atom IsFloat = IS_FLOAT
bif_atom IsBinary = IS_BINARY
bif_atom IsReference = IS_REFERENCE
bif_atom IsPort = IS_PORT

-- the guard BIF of a fixed atom and an arity
unfoldable pub guard_numbered : AtomId → ℕ → Option Bif
guard_numbered name arity = find (λ bif. ((guard_bif bif).arity == arity) && ((bif_atom bif).0 == name.0)) every_guard_bif
