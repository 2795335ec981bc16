-- A stack whose y registers lie in one row, those of the topmost frame last; its heads say where the registers of each begin.
use Rattle.std.specs.Prelude.{◌≡◌, ◌≤◌, ℕ, ◌+◌, List, [], ◌∷◌, take, drop, Option, Some, None, Result, Ok, Err, nat_lt, if◌then◌else◌, MatchOption}
use Rattle.bx_terms.specs.declared.kinds.Trap.{Trap, TheVariants.NoFrame, TheVariants.FrameSize}
use Rattle.bx_terms.specs.declared.places.Place.{Place}
use Rattle.bx_cells.specs.declared.frames.Head.{Head}
use Rattle.bx_cells.specs.declared.values.Value.{Value}
use Rattle.bx_cells.specs.StackFrame.{StackFrame}
use Rattle.bx_cells.specs.Stack.{unwound}

-- the frames, the topmost first, as the heads are
abbrev pub frames_of : List Head → List (Option Value) → List StackFrame
frames_of [] cells = []
frames_of (h ∷ hs) cells = record { cells = drop h.first cells; return_to = h.return_to } ∷ frames_of hs (take h.first cells)

-- each frame begins within the row, at or behind the end of the one below it, and the lowest begins where the row does
abbrev pub Fits : List Head → ℕ → Type 0
Fits [] n = n ≡ 0
Fits (h ∷ hs) n = (h.first ≤ n) × Fits hs h.first

-- where a y register lies in a row of that many
abbrev pub index_of : List Head → ℕ → ℕ → Result ℕ Trap
index_of [] cells n = Err NoFrame
index_of (h ∷ hs) cells n = if nat_lt (h.first + n) cells then Ok (h.first + n) else Err FrameSize

-- where a fault is caught: how many frames stand above, and the tag's address
abbrev pub Catches : List StackFrame → Option (ℕ × Place) → Type 0
Catches frames found = MatchOption found (unwound frames ≡ None) (λ h. unwound frames ≡ Some (h.1, drop h.0 frames))
