-- The numbers and names of the refusals, as every answer of the product prints them.
use Rattle.std.specs.Prelude.{ℕ, List, Option, Some, None, codes}
use Rattle.bx_terms.specs.declared.faults.Fault.{Fault}
use Rattle.bx_terms.specs.declared.faults.Fault.TheVariants.{TooManyAtoms, AtomTooLong, BadToken, BadTerm, TooDeep, Truncated, NotUtf8, BadForm, Unsupported, BadOperand, LiteralRange, LabelTwice, LabelMissing, EntryMissing, RegisterRange, TooLarge, ModuleTwice, ExportMissing, TooManyModules, NotEnabled, Halted, BeforeStart, AfterEnd, BadLine, NameTwice, TooLong, NotIndependent, NotLeased, Foreign, Twice, Unfinished, NoEntry, BadCommand, Workers, Memory}

-- out of memory is no refusal and has no number
abbrev pub refusal : Fault → Option (ℕ × List ℕ)
refusal (TooManyAtoms _) = Some (1, codes "TooManyAtoms")
refusal (AtomTooLong _) = Some (2, codes "AtomTooLong")
refusal (BadToken _) = Some (3, codes "BadToken")
refusal (BadTerm _) = Some (4, codes "BadTerm")
refusal (TooDeep _) = Some (5, codes "TooDeep")
refusal (Truncated _) = Some (6, codes "Truncated")
refusal (NotUtf8 _) = Some (7, codes "NotUtf8")
refusal (BadForm _) = Some (8, codes "BadForm")
refusal (Unsupported _ _) = Some (9, codes "Unsupported")
refusal (BadOperand _) = Some (10, codes "BadOperand")
refusal (LiteralRange _) = Some (11, codes "LiteralRange")
refusal (LabelTwice _) = Some (12, codes "LabelTwice")
refusal (LabelMissing _) = Some (13, codes "LabelMissing")
refusal (EntryMissing _) = Some (14, codes "EntryMissing")
refusal (RegisterRange _) = Some (15, codes "RegisterRange")
refusal TooLarge = Some (16, codes "TooLarge")
refusal ModuleTwice = Some (17, codes "ModuleTwice")
refusal ExportMissing = Some (18, codes "ExportMissing")
refusal TooManyModules = Some (19, codes "TooManyModules")
refusal NotEnabled = Some (20, codes "NotEnabled")
refusal Halted = Some (21, codes "Halted")
refusal BeforeStart = Some (22, codes "BeforeStart")
refusal AfterEnd = Some (23, codes "AfterEnd")
refusal (BadLine _) = Some (24, codes "BadLine")
refusal (NameTwice _) = Some (25, codes "NameTwice")
refusal (TooLong _) = Some (26, codes "TooLong")
refusal (NotIndependent _) = Some (27, codes "NotIndependent")
refusal NotLeased = Some (28, codes "NotLeased")
refusal Foreign = Some (29, codes "Foreign")
refusal Twice = Some (30, codes "Twice")
refusal Unfinished = Some (31, codes "Unfinished")
refusal NoEntry = Some (32, codes "NoEntry")
refusal (BadCommand _) = Some (33, codes "BadCommand")
refusal Workers = Some (34, codes "Workers")
refusal Memory = None

-- the refusal of an atom, met on that line of a text; others have their own line or none
abbrev pub at_line : ℕ → Fault → Fault
at_line line (TooManyAtoms _) = TooManyAtoms (Some line)
at_line line (AtomTooLong _) = AtomTooLong (Some line)
at_line line fault = fault
