-- The opcodes of the subset, a row each: the number and the name as `genop.tab` of Erlang/OTP (lib/compiler/src) lists
-- them, how a listing that `erlc -S` writes has the instruction, and its operands, in the order in which they are written.
use Rattle.std.specs.Prelude.{ℕ, List, [], ◌∷◌, ◌==◌, Option, codes, bytes_eq, find, map}
use Prim.Native.String.{String}
use Rattle.bx_ops.specs.declared.opcode.Op.{Op}
use Rattle.bx_ops.specs.declared.opcode.Op.TheVariants as ops
use Rattle.bx_ops.specs.declared.sorts.Sort.TheVariants.{Source, Value, Register, YRegister, Target, Fail, Place, Number, Arity, Atom, Callee, Bif0, Bif1, Bif2, Mark}
use Rattle.bx_ops.specs.declared.sorts.Slot.{Slot}
use Rattle.bx_ops.specs.declared.sorts.Slot.TheVariants.{One, Many, Pairs, NoLabel, ToX0, Heap}
use Rattle.bx_ops.specs.declared.sorts.Way.{Way}
use Rattle.bx_ops.specs.declared.sorts.Way.TheVariants as ways
use Rattle.bx_ops.specs.declared.opcode.TheConstants.{ROWS}

pub record Opcode : Type 0 where
  pub number : ℕ
  pub name : List ℕ
  pub way : Way
  pub slots : List Slot

abbrev pub row : ℕ → String → Way → List Slot → Opcode
row number name way slots = record { number = number; name = codes name; way = way; slots = slots }

-- the table
abbrev pub opcode : Op → Opcode
opcode ops.Label = row 1 "label" ways.Plain (One Place ∷ [])
opcode ops.FuncInfo = row 2 "func_info" ways.Plain (One Atom ∷ One Atom ∷ One Arity ∷ [])
opcode ops.IntCodeEnd = row 3 "int_code_end" ways.Bare []
opcode ops.Call = row 4 "call" ways.Plain (One Arity ∷ One Target ∷ [])
opcode ops.CallLast = row 5 "call_last" ways.Plain (One Arity ∷ One Target ∷ One Number ∷ [])
opcode ops.CallOnly = row 6 "call_only" ways.Plain (One Arity ∷ One Target ∷ [])
opcode ops.CallExt = row 7 "call_ext" ways.Plain (One Arity ∷ One Callee ∷ [])
opcode ops.CallExtLast = row 8 "call_ext_last" ways.Plain (One Arity ∷ One Callee ∷ One Number ∷ [])
opcode ops.Bif0 = row 9 "bif0" ways.Bif (One Bif0 ∷ NoLabel ∷ One Register ∷ [])
opcode ops.Bif1 = row 10 "bif1" ways.Bif (One Bif1 ∷ One Fail ∷ One Source ∷ One Register ∷ [])
opcode ops.Bif2 = row 11 "bif2" ways.Bif (One Bif2 ∷ One Fail ∷ One Source ∷ One Source ∷ One Register ∷ [])
opcode ops.Allocate = row 12 "allocate" ways.Plain (One Number ∷ One Number ∷ [])
opcode ops.AllocateHeap = row 13 "allocate_heap" ways.Plain (One Number ∷ Heap ∷ One Number ∷ [])
opcode ops.TestHeap = row 16 "test_heap" ways.Plain (Heap ∷ One Number ∷ [])
opcode ops.Deallocate = row 18 "deallocate" ways.Plain (One Number ∷ [])
opcode ops.Return = row 19 "return" ways.Bare []
opcode ops.Send = row 20 "send" ways.Bare []
opcode ops.RemoveMessage = row 21 "remove_message" ways.Bare []
opcode ops.Timeout = row 22 "timeout" ways.Bare []
opcode ops.LoopRec = row 23 "loop_rec" ways.Plain (One Target ∷ One Register ∷ [])
opcode ops.LoopRecEnd = row 24 "loop_rec_end" ways.Plain (One Target ∷ [])
opcode ops.Wait = row 25 "wait" ways.Plain (One Target ∷ [])
opcode ops.WaitTimeout = row 26 "wait_timeout" ways.Plain (One Target ∷ One Source ∷ [])
opcode ops.IsLt = row 39 "is_lt" ways.Test (One Target ∷ One Source ∷ One Source ∷ [])
opcode ops.IsGe = row 40 "is_ge" ways.Test (One Target ∷ One Source ∷ One Source ∷ [])
opcode ops.IsEq = row 41 "is_eq" ways.Test (One Target ∷ One Source ∷ One Source ∷ [])
opcode ops.IsNe = row 42 "is_ne" ways.Test (One Target ∷ One Source ∷ One Source ∷ [])
opcode ops.IsEqExact = row 43 "is_eq_exact" ways.Test (One Target ∷ One Source ∷ One Source ∷ [])
opcode ops.IsNeExact = row 44 "is_ne_exact" ways.Test (One Target ∷ One Source ∷ One Source ∷ [])
opcode ops.IsInteger = row 45 "is_integer" ways.Test (One Target ∷ One Source ∷ [])
opcode ops.IsFloat = row 46 "is_float" ways.Test (One Target ∷ One Source ∷ [])
opcode ops.IsNumber = row 47 "is_number" ways.Test (One Target ∷ One Source ∷ [])
opcode ops.IsAtom = row 48 "is_atom" ways.Test (One Target ∷ One Source ∷ [])
opcode ops.IsPid = row 49 "is_pid" ways.Test (One Target ∷ One Source ∷ [])
opcode ops.IsReference = row 50 "is_reference" ways.Test (One Target ∷ One Source ∷ [])
opcode ops.IsPort = row 51 "is_port" ways.Test (One Target ∷ One Source ∷ [])
opcode ops.IsNil = row 52 "is_nil" ways.Test (One Target ∷ One Source ∷ [])
opcode ops.IsBinary = row 53 "is_binary" ways.Test (One Target ∷ One Source ∷ [])
opcode ops.IsList = row 55 "is_list" ways.Test (One Target ∷ One Source ∷ [])
opcode ops.IsNonemptyList = row 56 "is_nonempty_list" ways.Test (One Target ∷ One Source ∷ [])
opcode ops.IsTuple = row 57 "is_tuple" ways.Test (One Target ∷ One Source ∷ [])
opcode ops.TestArity = row 58 "test_arity" ways.Test (One Target ∷ One Register ∷ One Number ∷ [])
opcode ops.SelectVal = row 59 "select_val" ways.Plain (One Source ∷ One Target ∷ Pairs Value Target ∷ [])
opcode ops.SelectTupleArity = row 60 "select_tuple_arity" ways.Plain (One Register ∷ One Target ∷ Pairs Number Target ∷ [])
opcode ops.Jump = row 61 "jump" ways.Plain (One Target ∷ [])
opcode ops.Catch = row 62 "catch" ways.Plain (One YRegister ∷ One Target ∷ [])
opcode ops.CatchEnd = row 63 "catch_end" ways.Plain (One YRegister ∷ [])
opcode ops.Move = row 64 "move" ways.Plain (One Source ∷ One Register ∷ [])
opcode ops.GetList = row 65 "get_list" ways.Plain (One Register ∷ One Register ∷ One Register ∷ [])
opcode ops.GetTupleElement = row 66 "get_tuple_element" ways.Plain (One Register ∷ One Number ∷ One Register ∷ [])
opcode ops.PutList = row 69 "put_list" ways.Plain (One Source ∷ One Source ∷ One Register ∷ [])
opcode ops.Badmatch = row 72 "badmatch" ways.Plain (One Source ∷ [])
opcode ops.IfEnd = row 73 "if_end" ways.Bare []
opcode ops.CaseEnd = row 74 "case_end" ways.Plain (One Source ∷ [])
opcode ops.CallExtOnly = row 78 "call_ext_only" ways.Plain (One Arity ∷ One Callee ∷ [])
opcode ops.Try = row 104 "try" ways.Plain (One YRegister ∷ One Target ∷ [])
opcode ops.TryEnd = row 105 "try_end" ways.Plain (One YRegister ∷ [])
opcode ops.TryCase = row 106 "try_case" ways.Plain (One YRegister ∷ [])
opcode ops.TryCaseEnd = row 107 "try_case_end" ways.Plain (One Source ∷ [])
opcode ops.Raise = row 108 "raise" ways.Raise (NoLabel ∷ One Source ∷ One Source ∷ ToX0 ∷ [])
opcode ops.IsBoolean = row 114 "is_boolean" ways.Test (One Target ∷ One Source ∷ [])
opcode ops.GcBif1 = row 124 "gc_bif1" ways.GcBif (One Bif1 ∷ One Fail ∷ One Number ∷ One Source ∷ One Register ∷ [])
opcode ops.GcBif2 = row 125 "gc_bif2" ways.GcBif (One Bif2 ∷ One Fail ∷ One Number ∷ One Source ∷ One Source ∷ One Register ∷ [])
opcode ops.Trim = row 136 "trim" ways.Plain (One Number ∷ One Number ∷ [])
opcode ops.Line = row 153 "line" ways.Plain (One Mark ∷ [])
opcode ops.IsTaggedTuple = row 159 "is_tagged_tuple" ways.Test (One Target ∷ One Register ∷ One Number ∷ One Atom ∷ [])
opcode ops.BuildStacktrace = row 160 "build_stacktrace" ways.Bare []
opcode ops.GetHd = row 162 "get_hd" ways.Plain (One Register ∷ One Register ∷ [])
opcode ops.GetTl = row 163 "get_tl" ways.Plain (One Register ∷ One Register ∷ [])
opcode ops.PutTuple2 = row 164 "put_tuple2" ways.Plain (One Register ∷ Many Source ∷ [])
opcode ops.Swap = row 169 "swap" ways.Plain (One Register ∷ One Register ∷ [])
opcode ops.InitYregs = row 172 "init_yregs" ways.Plain (Many YRegister ∷ [])

-- every opcode, as the code's table has them, by rising number
abbrev pub every_op : List Op
every_op = map (λ r. r.0) ROWS.now

-- the opcode with a number
unfoldable pub with_number : ℕ → Option Op
with_number number = find (λ op. (opcode op).number == number) every_op

-- the opcode with a name
unfoldable pub with_name : List ℕ → Option Op
with_name name = find (λ op. bytes_eq (opcode op).name name) every_op
