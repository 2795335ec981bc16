-- The words with which forms and operands begin.
use Rattle.std.specs.Prelude.{ℕ, List, codes, bytes_eq, if◌then◌else◌}
use Rattle.bx_listing.specs.declared.words.FormWord.{FormWord}
use Rattle.bx_listing.specs.declared.words.FormWord.TheVariants as forms
use Rattle.bx_listing.specs.declared.words.OperandWord.{OperandWord}
use Rattle.bx_listing.specs.declared.words.OperandWord.TheVariants as operands

-- the words of the head and of functions, those that set a way of writing apart, and the others, as the names of opcodes are
abbrev pub form_word : List ℕ → FormWord
form_word word =
    if bytes_eq word (codes "module") then forms.Module
    else if bytes_eq word (codes "exports") then forms.Exports
    else if bytes_eq word (codes "attributes") then forms.Attributes
    else if bytes_eq word (codes "labels") then forms.Labels
    else if bytes_eq word (codes "function") then forms.Function
    else if bytes_eq word (codes "%") then forms.Annotation
    else if bytes_eq word (codes "test") then forms.Test
    else if bytes_eq word (codes "bif") then forms.Bif
    else if bytes_eq word (codes "gc_bif") then forms.GcBif
    else if bytes_eq word (codes "raise") then forms.Raise
    else forms.Named

-- `tr` stands before a register whose type is known, and `extfunc` before a function of any module
abbrev pub operand_word : List ℕ → OperandWord
operand_word word =
    if bytes_eq word (codes "x") then operands.X
    else if bytes_eq word (codes "y") then operands.Y
    else if bytes_eq word (codes "tr") then operands.Typed
    else if bytes_eq word (codes "f") then operands.Label
    else if bytes_eq word (codes "integer") then operands.Integer
    else if bytes_eq word (codes "float") then operands.Float
    else if bytes_eq word (codes "atom") then operands.Atom
    else if bytes_eq word (codes "nil") then operands.Nil
    else if bytes_eq word (codes "literal") then operands.Literal
    else if bytes_eq word (codes "extfunc") then operands.External
    else if bytes_eq word (codes "list") then operands.List
    else if bytes_eq word (codes "alloc") then operands.Amounts
    else operands.Unknown
