-- The line on standard error, and the status, with which the program ends when it is not done.
use Rattle.std.specs.Prelude.{◌++◌, ◌==◌, ◌&&◌, ◌∷◌, ℕ, Bool, false, not, List, [], Option, Some, None}
use Rattle.std.specs.Prelude.{codes, decimal, if◌then◌else◌, nat_le, option_and_then, slice_get}
use Rattle.std.specs.Fmt.{digits}
use Rattle.std.specs.List.{flat_map}
use Rattle.std.specs.Option.{option_map_or}
use Rattle.bx_terms.specs.declared.faults.Fault.{Fault}
use Rattle.bx_terms.specs.declared.faults.Fault.TheVariants.{TooManyAtoms, AtomTooLong, BadToken}
use Rattle.bx_terms.specs.declared.faults.Fault.TheVariants.{BadTerm, TooDeep, Truncated, NotUtf8}
use Rattle.bx_terms.specs.declared.faults.Fault.TheVariants.{BadForm, Unsupported, BadOperand}
use Rattle.bx_terms.specs.declared.faults.Fault.TheVariants.{LiteralRange, LabelTwice, LabelMissing}
use Rattle.bx_terms.specs.declared.faults.Fault.TheVariants.{EntryMissing, RegisterRange, TooLarge}
use Rattle.bx_terms.specs.declared.faults.Fault.TheVariants.{ModuleTwice, ExportMissing}
use Rattle.bx_terms.specs.declared.faults.Fault.TheVariants.{TooManyModules, NotEnabled, Halted}
use Rattle.bx_terms.specs.declared.faults.Fault.TheVariants.{BeforeStart, AfterEnd, BadLine}
use Rattle.bx_terms.specs.declared.faults.Fault.TheVariants.{NameTwice, TooLong, NotIndependent}
use Rattle.bx_terms.specs.declared.faults.Fault.TheVariants.{NotLeased, Foreign, Twice, Unfinished}
use Rattle.bx_terms.specs.declared.faults.Fault.TheVariants.{NoEntry, BadCommand, Workers, Memory}
use Rattle.bx_terms.specs.Refusals.{refusal}
use Rattle.bx_engine.specs.declared.failures.Failure.{Failure, TheVariants.Refused, TheVariants.Read, TheVariants.Write, TheVariants.Start}

-- a code that shows as itself, and doesn't break a line
abbrev pub is_plain : ℕ → Bool
is_plain code = nat_le 32 code && not (code == 127)

-- a byte of a name as it is, and a control code as `\x{h}`, so that one line stays one line
abbrev pub spelled : ℕ → List ℕ
spelled code =
    if is_plain code then code ∷ [] else codes "\\x{" ++ digits 16 false code ++ codes "}"

abbrev pub raw_text : List ℕ → List ℕ
raw_text name = flat_map spelled name

-- a number behind its word
abbrev pub counted : List ℕ → ℕ → List ℕ
counted before n = before ++ decimal n

abbrev pub at_line : ℕ → List ℕ
at_line line = counted (codes " line ") line

-- where a refusal stands, or what it is about: a line, a label, a function or a position; with the
-- name of what is unsupported
abbrev pub detail_of : Fault → List ℕ
detail_of (TooManyAtoms line) = option_map_or at_line line []
detail_of (AtomTooLong line) = option_map_or at_line line []
detail_of (BadToken line) = at_line line
detail_of (BadTerm line) = at_line line
detail_of (TooDeep line) = at_line line
detail_of (Truncated line) = at_line line
detail_of (NotUtf8 line) = at_line line
detail_of (BadForm line) = at_line line
detail_of (Unsupported line name) = at_line line ++ codes " " ++ raw_text name
detail_of (BadOperand line) = at_line line
detail_of (LiteralRange line) = at_line line
detail_of (LabelTwice label) = counted (codes " ") label
detail_of (LabelMissing label) = counted (codes " ") label
detail_of (EntryMissing function) = counted (codes " ") function
detail_of (RegisterRange line) = at_line line
detail_of TooLarge = []
detail_of ModuleTwice = []
detail_of ExportMissing = []
detail_of TooManyModules = []
detail_of NotEnabled = []
detail_of Halted = []
detail_of BeforeStart = []
detail_of AfterEnd = []
detail_of (BadLine line) = at_line line
detail_of (NameTwice line) = at_line line
detail_of (TooLong line) = at_line line
detail_of (NotIndependent position) = counted (codes " ") position
detail_of NotLeased = []
detail_of Foreign = []
detail_of Twice = []
detail_of Unfinished = []
detail_of NoEntry = []
detail_of (BadCommand line) = at_line line
detail_of Workers = []
detail_of Memory = []

-- the name of the file of that number, where there is one
abbrev pub name_at : Option ℕ → List (List ℕ) → Option (List ℕ)
name_at file names = option_and_then (slice_get names) file

-- a name behind its word, and nothing where there is none
abbrev pub named : List ℕ → Option (List ℕ) → List ℕ
named before name = option_map_or (λ text. before ++ text) name []

-- a refusal by number and name, where it stands, and the file at fault
abbrev pub titled_text : Option (ℕ × List ℕ) → List ℕ → List ℕ → List ℕ
titled_text (Some title) detail file =
    codes "bxemu: R" ++ decimal title.0 ++ codes " " ++ title.1 ++ detail ++ file
titled_text None detail file = codes "bxemu: memory"

abbrev pub refusal_text : Fault → Option (List ℕ) → List ℕ
refusal_text fault file =
    titled_text (refusal fault) (detail_of fault) (named (codes " in ") file)

abbrev pub unread_text : Option (List ℕ) → List ℕ
unread_text file = codes "bxemu: read" ++ named (codes " ") file

-- what is said of a failure, where the files have these names
abbrev pub text_of : Failure → List (List ℕ) → List ℕ
text_of (Refused fault file) names = refusal_text fault (name_at file names)
text_of (Read file) names = unread_text (name_at (Some file) names)
text_of Write names = codes "bxemu: write"
text_of Start names = codes "bxemu: start"

-- the whole line
abbrev pub line_of : Failure → List (List ℕ) → List ℕ
line_of failure names = text_of failure names ++ codes "\n"

-- 1: an input was refused, 2: a bad start, 3: memory, 4: a file or stream
abbrev pub status_of : Failure → ℕ
status_of (Refused fault file) = option_map_or (λ _. 1) (refusal fault) 3
status_of (Read file) = 4
status_of Write = 4
status_of Start = 2
