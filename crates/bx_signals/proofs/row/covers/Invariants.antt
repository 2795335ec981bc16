use Rattle.bx_signals.proofs.Lines.{HeldBefore}
use Rattle.bx_signals.proofs.row.covers.Given as goal

-- those looked at so far wait in the other row too
abbrev pub invariant-loop-at : goal.invariant-loop-at
invariant-loop-at l = HeldBefore l.lines l.others l.at
