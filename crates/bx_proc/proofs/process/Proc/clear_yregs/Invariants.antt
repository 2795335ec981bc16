use Rattle.std.proofs.Common.{◌≡◌, drop}
use Rattle.bx_asm.specs.Instructed.{registers_of}
use Rattle.bx_proc.specs.Stacking.{all_cleared}
use Rattle.bx_proc.proofs.process.Proc.clear_yregs.Given as goal

abbrev pub invariant-loop-at : goal.invariant-loop-at
invariant-loop-at l = all_cleared (registers_of l.registers) l.initial.self ≡ all_cleared (drop l.at (registers_of l.registers)) l.self
