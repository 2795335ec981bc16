use Rattle.bx_replay.proofs.Bringing.{Came}
use Rattle.bx_replay.proofs.trails.rows.Row.bring_forward.Given as goal

-- it stands at `at`
abbrev pub invariant-loop-at : goal.invariant-loop-at
invariant-loop-at l = Came l.from l.to l.fn.self l.self l.at

abbrev pub decreases-loop-at : goal.decreases-loop-at
decreases-loop-at l = l.at
