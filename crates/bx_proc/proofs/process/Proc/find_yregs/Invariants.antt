use Rattle.std.proofs.Common.{◌≡◌, drop}
use Rattle.bx_asm.specs.Instructed.{registers_of}
use Rattle.bx_proc.specs.Stacking.{there_all}
use Rattle.bx_proc.proofs.process.Proc.find_yregs.Given as goal

abbrev pub invariant-loop-at : goal.invariant-loop-at
invariant-loop-at l = there_all (registers_of l.registers) l.self ≡ there_all (drop l.at (registers_of l.registers)) l.self
