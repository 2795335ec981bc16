use Rattle.std.proofs.Common.{◌+◌, drop, sym, ap, ◌∙◌}
use Rattle.bx_asm.specs.Instructed.{registers_of}
use Rattle.bx_proc.specs.Stacking.{all_cleared}
use Rattle.bx_proc.proofs.Registers.{cleared_next}
use Rattle.bx_proc.proofs.process.Proc.clear_yregs.Goals as goal

pub loop-at-preserved : goal.loop-at-preserved
loop-at-preserved c =
    c.loop-at.invariant
    ∙ cleared_next (registers_of c.args.registers) c.loop-at.at c.in-Some.number c.loop-at.self (sym c.get.ensures ∙ c.in-Some.is)
    ∙ ap (all_cleared (drop (c.loop-at.at + 1) (registers_of c.args.registers))) (sym c.clear_if.ensures)
