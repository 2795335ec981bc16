use Rattle.std.proofs.Common.{◌≡◌, drop}
use Rattle.bx_summary.specs.Counted.{counted, with_all}
use Rattle.bx_summary.specs.Tallied.{IsTally, outcomes_of}
use Rattle.bx_summary.proofs.tallies.Tally.of.Given as goal

-- the schedules so far are counted
abbrev pub invariant-loop-one : goal.invariant-loop-one
invariant-loop-one l =
    IsTally l.atoms l.tally × (l.tally.schedules ≡ l.one-index)
    × (with_all l.atoms (outcomes_of l.tally) (drop l.one-index l.schedules) ≡ counted l.atoms l.schedules)
