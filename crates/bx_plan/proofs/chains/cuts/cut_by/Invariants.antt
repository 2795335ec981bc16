use Rattle.bx_plan.proofs.Words.{length, reverse, marked}
use Rattle.bx_plan.proofs.Cutting.{AreTaken}
use Rattle.bx_plan.proofs.chains.cuts.cut_by.Given as goal

abbrev pub invariant-loop-depth : goal.invariant-loop-depth
invariant-loop-depth l = AreTaken l.common (marked l.fn.marks.items l.length) l.marks.items (reverse l.fn.cuts.items) (reverse l.cuts.items)

abbrev pub decreases-loop-depth : goal.decreases-loop-depth
decreases-loop-depth l = length l.marks.items
