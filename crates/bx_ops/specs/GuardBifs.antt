-- The guard BIFs: the functions and operators of module `erlang` that `bif` and `gc_bif` instructions name.
-- Source: "Guard Expressions", "Arithmetic Expressions", "Term Comparisons" and "Boolean Expressions" of the
-- Erlang Reference Manual. An operator is named by its text, and its arity is the number of its operands.
use Rattle.std.specs.Prelude.{ℕ, List, ◌&&◌, ◌==◌, Option, codes, bytes_eq, find, map}
use Prim.Native.String.{String}
use Rattle.bx_ops.specs.declared.guard_bif.Bif.{Bif}
use Rattle.bx_ops.specs.declared.guard_bif.Bif.TheVariants as bifs
use Rattle.bx_ops.specs.declared.guard_bif.TheConstants.{BIFS}

pub record GuardBif : Type 0 where
  pub name : List ℕ
  pub arity : ℕ

abbrev pub row : String → ℕ → GuardBif
row name arity = record { name = codes name; arity = arity }

-- the table
abbrev pub guard_bif : Bif → GuardBif
guard_bif bifs.SelfPid = row "self" 0
guard_bif bifs.Add = row "+" 2
guard_bif bifs.Subtract = row "-" 2
guard_bif bifs.Multiply = row "*" 2
guard_bif bifs.Div = row "div" 2
guard_bif bifs.Rem = row "rem" 2
guard_bif bifs.Band = row "band" 2
guard_bif bifs.Bor = row "bor" 2
guard_bif bifs.Bxor = row "bxor" 2
guard_bif bifs.Bsl = row "bsl" 2
guard_bif bifs.Bsr = row "bsr" 2
guard_bif bifs.UnaryPlus = row "+" 1
guard_bif bifs.UnaryMinus = row "-" 1
guard_bif bifs.Bnot = row "bnot" 1
guard_bif bifs.Abs = row "abs" 1
guard_bif bifs.Equal = row "==" 2
guard_bif bifs.NotEqual = row "/=" 2
guard_bif bifs.ExactlyEqual = row "=:=" 2
guard_bif bifs.ExactlyNotEqual = row "=/=" 2
guard_bif bifs.Less = row "<" 2
guard_bif bifs.Greater = row ">" 2
guard_bif bifs.LessOrEqual = row "=<" 2
guard_bif bifs.GreaterOrEqual = row ">=" 2
guard_bif bifs.Min = row "min" 2
guard_bif bifs.Max = row "max" 2
guard_bif bifs.Not = row "not" 1
guard_bif bifs.And = row "and" 2
guard_bif bifs.Or = row "or" 2
guard_bif bifs.Xor = row "xor" 2
guard_bif bifs.Hd = row "hd" 1
guard_bif bifs.Tl = row "tl" 1
guard_bif bifs.Length = row "length" 1
guard_bif bifs.TupleSize = row "tuple_size" 1
guard_bif bifs.Size = row "size" 1
guard_bif bifs.Element = row "element" 2
guard_bif bifs.IsAtom = row "is_atom" 1
guard_bif bifs.IsBoolean = row "is_boolean" 1
guard_bif bifs.IsInteger = row "is_integer" 1
guard_bif bifs.IsList = row "is_list" 1
guard_bif bifs.IsNumber = row "is_number" 1
guard_bif bifs.IsPid = row "is_pid" 1
guard_bif bifs.IsTuple = row "is_tuple" 1
guard_bif bifs.IsFloat = row "is_float" 1
guard_bif bifs.IsBinary = row "is_binary" 1
guard_bif bifs.IsReference = row "is_reference" 1
guard_bif bifs.IsPort = row "is_port" 1

-- every guard BIF, as the code's table has them
abbrev pub every_guard_bif : List Bif
every_guard_bif = map (λ row. row.0) BIFS.now

-- the guard BIF with a name and an arity
unfoldable pub guard_bif_with : List ℕ → ℕ → Option Bif
guard_bif_with name arity =
    find (λ bif. ((guard_bif bif).arity == arity) && bytes_eq (guard_bif bif).name name) every_guard_bif
