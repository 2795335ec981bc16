-- Which instruction a form is, and the terms that stand as its operands. What is outside the subset is refused by its name,
-- then what has a wrong number of operands, before any of these is looked at.
-- Source: `genop.tab` and `beam_listing` of Erlang/OTP.
use Rattle.std.specs.Prelude.{ℕ, Bool, ◌==◌, ◌&&◌, Result, Ok, Err, List, [], ◌∷◌, ◌++◌, Option, Some, None, length, codes, decimal, bytes_eq, if◌then◌else◌}
use Rattle.bx_terms.specs.declared.faults.Fault.{Fault}
use Rattle.bx_terms.specs.declared.faults.Fault.TheVariants as faults
use Rattle.bx_text.specs.Tree.{Tree}
use Rattle.bx_ops.specs.declared.opcode.Op.{Op}
use Rattle.bx_ops.specs.declared.opcode.Op.TheVariants as ops
use Rattle.bx_ops.specs.declared.guard_bif.Bif.{Bif}
use Rattle.bx_ops.specs.Opcodes.{with_name}
use Rattle.bx_ops.specs.GuardBifs.{guard_bif_with}
use Rattle.bx_ops.specs.declared.sorts.Way.{Way}
use Rattle.bx_ops.specs.declared.sorts.Way.TheVariants as ways
use Rattle.bx_ops.specs.Table.{slots, way}
use Rattle.bx_listing.specs.declared.words.FormWord.{FormWord}
use Rattle.bx_listing.specs.declared.words.FormWord.TheVariants as words
use Rattle.bx_listing.specs.Reading.{no_line}
use Rattle.bx_listing.specs.Shape.{word, list_elements}

-- an instruction, and the terms that stand as its operands
abbrev pub Formed : Type 0
Formed = Result (Op × List Tree) Fault

abbrev pub bad_form_operand : Formed
bad_form_operand = Err (faults.BadOperand no_line)

abbrev pub counted : Op → List Tree → Formed
counted op ts = if length ts == length (slots op) then Ok (op, ts) else bad_form_operand

-- `{NAME,OPERAND,..}`
abbrev pub named_way : List ℕ → Op → List Tree → Way → Formed
named_way text op parts ways.Plain = counted op parts
named_way text op parts ways.Bare = bad_form_operand
named_way text op parts _ = Err (faults.Unsupported no_line text)

abbrev pub named_op : List ℕ → List Tree → Option Op → Formed
named_op text parts (Some op) = named_way text op parts (way op)
named_op text parts None = Err (faults.Unsupported no_line text)

abbrev pub named_form : List ℕ → List Tree → Formed
named_form text parts = named_op text parts (with_name text)

-- `NAME`
abbrev pub bare_way : List ℕ → Op → Way → Formed
bare_way text op ways.Bare = Ok (op, [])
bare_way text op ways.Plain = bad_form_operand
bare_way text op _ = Err (faults.Unsupported no_line text)

abbrev pub bare_op : List ℕ → Option Op → Formed
bare_op text (Some op) = bare_way text op (way op)
bare_op text None = Err (faults.Unsupported no_line text)

abbrev pub bare_form : List ℕ → FormWord → Formed
bare_form text words.Module = Err (faults.BadForm no_line)
bare_form text words.Exports = Err (faults.BadForm no_line)
bare_form text words.Attributes = Err (faults.BadForm no_line)
bare_form text words.Labels = Err (faults.BadForm no_line)
bare_form text words.Function = Err (faults.BadForm no_line)
bare_form text words.Annotation = Err (faults.Unsupported no_line text)
bare_form text words.Named = bare_op text (with_name text)
bare_form text _ = bad_form_operand

-- `{test,NAME,LABEL,[OPERAND,..]}`
abbrev pub test_listed : Op → Tree → Option (List Tree) → Formed
test_listed op l (Some ts) = counted op (l ∷ ts)
test_listed op l None = bad_form_operand

abbrev pub test_row : Op → List Tree → Formed
test_row op (l ∷ args ∷ []) = test_listed op l (list_elements args)
test_row op _ = bad_form_operand

abbrev pub test_way : List ℕ → Op → List Tree → Way → Formed
test_way text op rest ways.Test = test_row op rest
test_way text op rest _ = Err (faults.Unsupported no_line text)

abbrev pub test_op : List ℕ → List Tree → Option Op → Formed
test_op text rest (Some op) = test_way text op rest (way op)
test_op text rest None = Err (faults.Unsupported no_line text)

abbrev pub test_found : List Tree → Option (List ℕ) → Formed
test_found rest (Some text) = test_op text rest (with_name text)
test_found rest None = bad_form_operand

abbrev pub test_form : List Tree → Formed
test_form (name ∷ rest) = test_found rest (word name)
test_form [] = bad_form_operand

-- a BIF is named with the number of its arguments
abbrev pub called : List ℕ → List Tree → List ℕ
called text ts = text ++ (codes "/" ++ decimal (length ts))

abbrev pub bif_op : ℕ → Option Op
bif_op n = if n == 0 then Some ops.Bif0 else if n == 1 then Some ops.Bif1 else if n == 2 then Some ops.Bif2 else None

abbrev pub gc_bif_op : ℕ → Option Op
gc_bif_op n = if n == 1 then Some ops.GcBif1 else if n == 2 then Some ops.GcBif2 else None

abbrev pub bif_row : Option Op → List Tree → List Tree → List Tree → Formed
bif_row (Some op) before ts (d ∷ []) = counted op (before ++ (ts ++ d ∷ []))
bif_row _ before ts behind = bad_form_operand

abbrev pub bif_found : List ℕ → Option Op → List Tree → List Tree → List Tree → Option Bif → Formed
bif_found text op before ts behind (Some bif) = bif_row op before ts behind
bif_found text op before ts behind None = Err (faults.Unsupported no_line (called text ts))

-- `{bif,BIF,FAIL,[SOURCE,..],REGISTER}` and `{bif,raise,{f,0},[SOURCE,SOURCE],{x,0}}`
abbrev pub is_raise : List ℕ → List Tree → Bool
is_raise text ts = bytes_eq text (codes "raise") && (length ts == 2)

abbrev pub bif_named : List Tree → List Tree → List Tree → List ℕ → List Tree → Formed
bif_named first fail behind text ts =
    if is_raise text ts then bif_row (Some ops.Raise) fail ts behind
    else bif_found text (bif_op (length ts)) first ts behind (guard_bif_with text (length ts))

abbrev pub bif_called : List Tree → List Tree → List Tree → Option (List ℕ) → Option (List Tree) → Formed
bif_called first fail behind (Some text) (Some ts) = bif_named first fail behind text ts
bif_called first fail behind _ _ = bad_form_operand

abbrev pub bif_form : List Tree → Formed
bif_form (b ∷ f ∷ args ∷ rest) = bif_called (b ∷ f ∷ []) (f ∷ []) rest (word b) (list_elements args)
bif_form _ = bad_form_operand

-- `{gc_bif,BIF,FAIL,LIVE,[SOURCE,..],REGISTER}`
abbrev pub gc_bif_called : List Tree → List Tree → Option (List ℕ) → Option (List Tree) → Formed
gc_bif_called first behind (Some text) (Some ts) = bif_found text (gc_bif_op (length ts)) first ts behind (guard_bif_with text (length ts))
gc_bif_called first behind _ _ = bad_form_operand

abbrev pub gc_bif_form : List Tree → Formed
gc_bif_form (b ∷ f ∷ n ∷ args ∷ rest) = gc_bif_called (b ∷ f ∷ n ∷ []) rest (word b) (list_elements args)
gc_bif_form _ = bad_form_operand

-- `{raise,{f,0},[SOURCE,SOURCE],{x,0}}`
abbrev pub raise_listed : Tree → List Tree → Option (List Tree) → Formed
raise_listed f rest (Some ts) = bif_row (Some ops.Raise) (f ∷ []) ts rest
raise_listed f rest None = bad_form_operand

abbrev pub raise_form : List Tree → Formed
raise_form (f ∷ args ∷ rest) = raise_listed f rest (list_elements args)
raise_form _ = bad_form_operand

-- what is written as a tuple
abbrev pub tuple_form : List ℕ → FormWord → List Tree → Formed
tuple_form text words.Module parts = Err (faults.BadForm no_line)
tuple_form text words.Exports parts = Err (faults.BadForm no_line)
tuple_form text words.Attributes parts = Err (faults.BadForm no_line)
tuple_form text words.Labels parts = Err (faults.BadForm no_line)
tuple_form text words.Function parts = Err (faults.BadForm no_line)
tuple_form text words.Annotation parts = Err (faults.Unsupported no_line text)
tuple_form text words.Test parts = test_form parts
tuple_form text words.Bif parts = bif_form parts
tuple_form text words.GcBif parts = gc_bif_form parts
tuple_form text words.Raise parts = raise_form parts
tuple_form text words.Named parts = named_form text parts
