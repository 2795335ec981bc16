-- What each guard BIF gives.
-- Source: Erlang Reference Manual, "Expressions"; module `erlang` of the ERTS Reference Manual.
use Rattle.std.specs.Prelude.{ℕ, ℤ, pos, neg_ℤ, unsigned_abs, Bool, true, false, not, ◌&&◌, ◌||◌, List, [], ◌∷◌, length, Option, Some, None, if◌then◌else◌}
use Rattle.std.specs.Ordering.{is_lt, is_gt}
use Rattle.std.specs.Option.{option_map_or}
use Rattle.bx_terms.specs.declared.atom_table.AtomId.{AtomId}
use Rattle.bx_terms.specs.Tree.{Tree, int}
use Rattle.bx_terms.specs.Order.{order_of}
use Rattle.bx_terms.specs.Same.{same_tree}
use Rattle.bx_ops.specs.declared.guard_bif.Bif.{Bif}
use Rattle.bx_ops.specs.declared.guard_bif.Bif.TheVariants.{Add, Subtract, Multiply, Div, Rem, Band, Bor, Bxor, Bsl, Bsr, UnaryPlus, UnaryMinus, Bnot, Abs, Equal, NotEqual, ExactlyEqual, ExactlyNotEqual, Less, Greater, LessOrEqual, GreaterOrEqual, Min, Max, Not, And, Or, Xor, Hd, Tl, Length, TupleSize, Size, Element, IsAtom, IsBoolean, IsInteger, IsList, IsNumber, IsPid, IsTuple, IsFloat, IsBinary, IsReference, IsPort}
use Rattle.bx_bifs.specs.declared.given.Given.{Given, TheVariants.Value}
use Rattle.bx_bifs.specs.Given.{boolean, badarg, badarith, undef, integer, term_or_badarg}
use Rattle.bx_bifs.specs.Bits.{bits_not}
use Rattle.bx_bifs.specs.Arithmetic.{sum, difference, product, quotient, remainder, both_bits, either_bits, differing_bits, left_shift, right_shift}
use Rattle.bx_bifs.specs.Kinds.{is_integer, is_atom, is_pid, is_tuple, is_list, is_boolean, truth}
use Rattle.bx_bifs.specs.GuardNames.{guard_of}
use Rattle.bx_bifs.specs.Parts.{head_of, tail_of, length_of, size_of, element_of}

-- an arithmetic operator takes integers alone
abbrev pub on_integer : (ℤ → ℤ) → Tree → Given
on_integer operator (int n) = integer (operator n)
on_integer operator t = badarith

abbrev pub on_integers : (ℤ → ℤ → Given) → Tree → Tree → Given
on_integers operator (int m) (int n) = operator m n
on_integers operator t u = badarith

abbrev pub magnitude : Tree → Given
magnitude (int n) = integer (pos (unsigned_abs n))
magnitude t = badarg

-- a boolean operator takes truth values alone
abbrev pub on_truth : (Bool → Bool) → Option Bool → Given
on_truth operator (Some a) = boolean (operator a)
on_truth operator None = badarg

abbrev pub on_truths : (Bool → Bool → Bool) → Option Bool → Option Bool → Given
on_truths operator (Some a) (Some b) = boolean (operator a b)
on_truths operator a b = badarg

-- one of the two alone
abbrev pub exclusive : Bool → Bool → Bool
exclusive true b = not b
exclusive false b = b

abbrev pub number_or_badarg : Option ℕ → Given
number_or_badarg (Some n) = integer (pos n)
number_or_badarg None = badarg

-- those of one argument; there are no floats, binaries, references and ports
unfoldable pub guard_one : Bif → Tree → Given
guard_one UnaryPlus t = on_integer (λ n. n) t
guard_one UnaryMinus t = on_integer neg_ℤ t
guard_one Bnot t = on_integer bits_not t
guard_one Abs t = magnitude t
guard_one Not t = on_truth not (truth t)
guard_one Hd t = term_or_badarg (head_of t)
guard_one Tl t = term_or_badarg (tail_of t)
guard_one Length t = number_or_badarg (length_of t)
guard_one TupleSize t = number_or_badarg (size_of t)
guard_one Size t = number_or_badarg (size_of t)
guard_one IsAtom t = boolean (is_atom t)
guard_one IsBoolean t = boolean (is_boolean t)
guard_one IsInteger t = boolean (is_integer t)
guard_one IsList t = boolean (is_list t)
guard_one IsNumber t = boolean (is_integer t)
guard_one IsPid t = boolean (is_pid t)
guard_one IsTuple t = boolean (is_tuple t)
guard_one IsFloat t = boolean false
guard_one IsBinary t = boolean false
guard_one IsReference t = boolean false
guard_one IsPort t = boolean false
guard_one _ t = undef

-- those of two arguments; terms that are equal are the same term
unfoldable pub guard_two : List (List ℕ) → Bif → Tree → Tree → Given
guard_two texts Add t u = on_integers sum t u
guard_two texts Subtract t u = on_integers difference t u
guard_two texts Multiply t u = on_integers product t u
guard_two texts Div t u = on_integers quotient t u
guard_two texts Rem t u = on_integers remainder t u
guard_two texts Band t u = on_integers both_bits t u
guard_two texts Bor t u = on_integers either_bits t u
guard_two texts Bxor t u = on_integers differing_bits t u
guard_two texts Bsl t u = on_integers left_shift t u
guard_two texts Bsr t u = on_integers right_shift t u
guard_two texts Equal t u = boolean (same_tree t u)
guard_two texts NotEqual t u = boolean (not (same_tree t u))
guard_two texts ExactlyEqual t u = boolean (same_tree t u)
guard_two texts ExactlyNotEqual t u = boolean (not (same_tree t u))
guard_two texts Less t u = boolean (is_lt (order_of texts t u))
guard_two texts Greater t u = boolean (is_gt (order_of texts t u))
guard_two texts LessOrEqual t u = boolean (not (is_gt (order_of texts t u)))
guard_two texts GreaterOrEqual t u = boolean (not (is_lt (order_of texts t u)))
guard_two texts Min t u = Value (if is_gt (order_of texts t u) then u else t)
guard_two texts Max t u = Value (if is_lt (order_of texts t u) then u else t)
guard_two texts And t u = on_truths (λ a b. a && b) (truth t) (truth u)
guard_two texts Or t u = on_truths (λ a b. a || b) (truth t) (truth u)
guard_two texts Xor t u = on_truths exclusive (truth t) (truth u)
guard_two texts Element t u = term_or_badarg (element_of t u)
guard_two texts _ t u = undef

-- what a guard BIF gives on a list of arguments: with another number of them than its own it is no function, and nor is `self`
-- here, which only a process answers
abbrev pub guard_gives : List (List ℕ) → Bif → List Tree → Given
guard_gives texts bif (t ∷ []) = guard_one bif t
guard_gives texts bif (t ∷ u ∷ []) = guard_two texts bif t u
guard_gives texts bif ts = undef

-- the same by an atom whose text is the BIF's name; there is no function where that is no guard BIF's name and arity
abbrev pub named_gives : List (List ℕ) → AtomId → List Tree → Given
named_gives texts name ts = option_map_or (λ bif. guard_gives texts bif ts) (guard_of texts name (length ts)) undef

-- those that test a term's kind
abbrev pub IsTest : Bif → Type 0
IsTest IsAtom = Unit {0}
IsTest IsBoolean = Unit {0}
IsTest IsInteger = Unit {0}
IsTest IsList = Unit {0}
IsTest IsNumber = Unit {0}
IsTest IsPid = Unit {0}
IsTest IsTuple = Unit {0}
IsTest IsFloat = Unit {0}
IsTest IsBinary = Unit {0}
IsTest IsReference = Unit {0}
IsTest IsPort = Unit {0}
IsTest _ = ⊥

-- the arithmetic operators of two integers, by BIF
abbrev pub operator : Bif → ℤ → ℤ → Given
operator Add m n = sum m n
operator Subtract m n = difference m n
operator Multiply m n = product m n
operator Div m n = quotient m n
operator Rem m n = remainder m n
operator Band m n = both_bits m n
operator Bor m n = either_bits m n
operator Bxor m n = differing_bits m n
operator Bsl m n = left_shift m n
operator Bsr m n = right_shift m n
operator _ m n = undef

-- the boolean operators of two truth values, by BIF
abbrev pub connective : Bif → Bool → Bool → Bool
connective And a b = a && b
connective Or a b = a || b
connective _ a b = exclusive a b
