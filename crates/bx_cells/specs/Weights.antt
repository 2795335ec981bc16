-- How much a stack holds, in cells.
use Rattle.std.specs.Prelude.{ℕ, ◌+◌, List, length, sum_by}
use Rattle.bx_cells.specs.StackFrame.{StackFrame}

-- one for a frame, and one for each of its y registers
abbrev pub frame_cells : StackFrame → ℕ
frame_cells frame = 1 + length frame.cells

abbrev pub stack_cells : List StackFrame → ℕ
stack_cells frames = sum_by frame_cells frames
