use Rattle.bx_swaps.proofs.Aside.{AsideAt}
use Rattle.bx_swaps.proofs.undoing.set_aside.Given as goal

abbrev pub invariant-loop-at : goal.invariant-loop-at
invariant-loop-at l = AsideAt l.count l.at l.position l.fn.row l.row l.first
