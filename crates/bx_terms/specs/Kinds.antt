-- What classes and traps are called.
use Rattle.std.specs.Prelude.{ℕ, List, codes}
use Rattle.bx_terms.specs.declared.atom_table.AtomId.{AtomId}
use Rattle.bx_terms.specs.declared.fixed.TheConstants.{THROW, ERROR, EXIT}
use Rattle.bx_terms.specs.declared.kinds.Class.{Class, TheVariants.Throw, TheVariants.Error, TheVariants.Exit}
use Rattle.bx_terms.specs.declared.kinds.Trap.{Trap}
use Rattle.bx_terms.specs.declared.kinds.Trap.TheVariants.{Unset, NotATerm, NoFrame, FrameSize, NoTag, NoPending, BadPlace, IntegerRange, TermHeight, NoMessage, WrongShape, Unsupported}

-- the atoms by which `try` hands a class on (Erlang Reference Manual, "Errors and Error Handling")
abbrev pub class_atom : Class → AtomId
class_atom Throw = THROW
class_atom Error = ERROR
class_atom Exit = EXIT

abbrev pub trap_name : Trap → List ℕ
trap_name Unset = codes "Unset"
trap_name NotATerm = codes "NotATerm"
trap_name NoFrame = codes "NoFrame"
trap_name FrameSize = codes "FrameSize"
trap_name NoTag = codes "NoTag"
trap_name NoPending = codes "NoPending"
trap_name BadPlace = codes "BadPlace"
trap_name IntegerRange = codes "IntegerRange"
trap_name TermHeight = codes "TermHeight"
trap_name NoMessage = codes "NoMessage"
trap_name WrongShape = codes "WrongShape"
trap_name Unsupported = codes "Unsupported"
