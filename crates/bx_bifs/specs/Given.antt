-- The answers of guard BIFs.
-- Source: Erlang Reference Manual, "Errors and Error Handling", "Exit Reasons".
use Rattle.std.specs.Prelude.{◌^◌, ◌<◌, ℤ, pos, negsuc, neg_ℤ, ◌≤ℤ◌, ◌<ℤ◌, Bool, true, false, nat_lt, if◌then◌else◌, Option, Some, None}
use Rattle.bx_terms.specs.declared.fixed.TheConstants.{TRUE, FALSE, BADARG, BADARITH, UNDEF}
use Rattle.bx_terms.specs.declared.kinds.Class.TheVariants.{Error}
use Rattle.bx_terms.specs.declared.kinds.Trap.TheVariants.{IntegerRange}
use Rattle.bx_terms.specs.Tree.{Tree, int, atom, height}
use Rattle.bx_bifs.specs.declared.given.Given.{Given, TheVariants.Value, TheVariants.Fault, TheVariants.Trap}

-- the atom `true` or `false`
abbrev pub truth_atom : Bool → Tree
truth_atom true = atom TRUE.0
truth_atom false = atom FALSE.0

abbrev pub boolean : Bool → Given
boolean b = Value (truth_atom b)

-- an argument of a wrong kind, or out of bounds
abbrev pub badarg : Given
badarg = Fault Error (atom BADARG.0)

-- an argument of an arithmetic operator that is no integer, or a zero divisor
abbrev pub badarith : Given
badarith = Fault Error (atom BADARITH.0)

-- no such function
abbrev pub undef : Given
undef = Fault Error (atom UNDEF.0)

-- from -2^63 to 2^63 - 1
abbrev pub fits : ℤ → Bool
fits (pos n) = nat_lt n (2 ^ 63)
fits (negsuc n) = nat_lt n (2 ^ 63)

-- an integer, or the trap where it leaves 64 bits
abbrev pub integer : ℤ → Given
integer n = if fits n then Value (int n) else Trap IntegerRange

-- a term, or badarg where there is none
abbrev pub term_or_badarg : Option Tree → Given
term_or_badarg (Some t) = Value t
term_or_badarg None = badarg

-- an integer that was computed within 64 bits, or the trap where it was not
abbrev pub computed : Option ℤ → Given
computed (Some n) = Value (int n)
computed None = Trap IntegerRange

-- the integer that is given, where an integer is
abbrev pub integer_of : Given → Option ℤ
integer_of (Value (int n)) = Some n
integer_of given = None

-- a value that is a tuple or a list cell is built, or shared with the argument that held it, which may want memory
abbrev pub TakesMemory : Given → Type 0
TakesMemory (Value t) = 0 < height t
TakesMemory (Fault class t) = ⊥
TakesMemory (Trap kind) = ⊥

-- what 64 bits hold
abbrev pub IsInRange : ℤ → Type 0
IsInRange z = (neg_ℤ (pos (2 ^ 63)) ≤ℤ z) × (z <ℤ pos (2 ^ 63))
