use Rattle.std.proofs.Common.{◌≡◌, drop}
use Rattle.bx_events.specs.Lanes.{lanes_of, lanes_on}
use Rattle.bx_events.proofs.lanes.lanes_of.Given as goal

-- the events that are left complete the lanes so far
abbrev pub invariant-loop-at : goal.invariant-loop-at
invariant-loop-at l = lanes_on l.at (drop l.at l.events) l.lanes.items ≡ lanes_of l.events
