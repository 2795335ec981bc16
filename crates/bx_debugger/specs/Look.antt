-- `look P`: all that a process holds.
use Rattle.std.specs.Prelude.{ℕ, ◌+◌, List, [], ◌∷◌, ◌++◌, Bool, true, false, Option, Some, None, codes, decimal}
use Rattle.std.specs.FinMap as map
use Rattle.bx_terms.specs.Printed.{printed, printed_pid}
use Rattle.bx_terms.specs.declared.places.Place.{Place}
use Rattle.bx_cells.specs.StackFrame.{StackFrame}
use Rattle.bx_cells.specs.declared.values.Value.{Value}
use Rattle.bx_proc.specs.Process.{Process}
use Rattle.bx_proc.specs.declared.parts.Pending.{Pending}
use Rattle.bx_world.specs.World.{Life, Live, Exited}
use Rattle.bx_debugger.specs.Program.{Program, located_text}
use Rattle.bx_debugger.specs.Words.{class_words, place_words, term_lines, value_words}
use Rattle.bx_debugger.specs.Where.{life_line}

-- a line of an address, behind a word, where there is one
abbrev pub place_line : Program → List ℕ → Option Place → List ℕ
place_line program word None = []
place_line program word (Some place) = word ++ codes " " ++ located_text program place ++ codes "\n"

-- `xN VALUE` for each x register that holds something
abbrev pub x_lines : Program → List (ℕ × Value) → List ℕ
x_lines program [] = []
x_lines program (x ∷ more) = codes "x" ++ decimal x.0 ++ codes " " ++ value_words program x.1 ++ codes "\n" ++ x_lines program more

-- `yN VALUE`, and `yN` alone for a register that holds nothing
abbrev pub y_words : Program → Option Value → List ℕ
y_words program None = []
y_words program (Some value) = codes " " ++ value_words program value

abbrev pub y_lines : Program → ℕ → List (Option Value) → List ℕ
y_lines program n [] = []
y_lines program n (cell ∷ more) = codes "y" ++ decimal n ++ y_words program cell ++ codes "\n" ++ y_lines program (n + 1) more

-- a frame's saved address, and its registers
abbrev pub frame_lines : Program → List StackFrame → List ℕ
frame_lines program [] = []
frame_lines program (frame ∷ below) =
    codes "frame " ++ place_words program frame.return_to ++ codes "\n" ++ y_lines program 0 frame.cells ++ frame_lines program below

abbrev pub link_lines : List ℕ → List ℕ
link_lines [] = []
link_lines (q ∷ more) = codes "link " ++ printed_pid q ++ codes "\n" ++ link_lines more

abbrev pub trapping_line : Bool → List ℕ
trapping_line true = codes "traps exits\n"
trapping_line false = []

abbrev pub fault_line : List (List ℕ) → Option Pending → List ℕ
fault_line texts None = []
fault_line texts (Some fault) = codes "fault " ++ class_words fault.class ++ codes " " ++ printed texts fault.value ++ codes "\n"

-- where a process goes on, its registers and its stack
abbrev pub own_lines : Program → Process → List ℕ
own_lines program process =
    place_line program (codes "expires") process.expires ++ place_line program (codes "cp") process.cp
    ++ x_lines program (map.entries process.x) ++ frame_lines program process.frames

-- its messages, those that were passed over first; what else it has to do with others; and the fault that it has to look at
abbrev pub other_lines : List (List ℕ) → Process → List ℕ
other_lines texts process =
    term_lines texts (codes "passed") process.mailbox.passed ++ term_lines texts (codes "message") process.mailbox.rest
    ++ link_lines process.links ++ trapping_line process.trap_exit ++ fault_line texts process.fault

-- one that has ended holds nothing
abbrev pub life_holds : Program → Life → List ℕ
life_holds program (Live process) = own_lines program process ++ other_lines program.image.atoms process
life_holds program (Exited reason) = []

abbrev pub look_answer : Program → ℕ → Life → List ℕ
look_answer program p life = codes "process " ++ life_line program p life ++ life_holds program life ++ codes "end\n"
