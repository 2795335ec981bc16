use Rattle.std.proofs.Common.{◌≡◌, Ok, string_bytes, take}
use Rattle.bx_plan.specs.Planned.{schedules}
use Rattle.bx_world.specs.World.{State, started}
use Rattle.bx_engine.specs.Tidying.{AreLinesOf}
use Rattle.bx_engine.proofs.tidying.Beginning.lines.Given as goal

-- the lines of those so far
abbrev pub invariant-loop-number : goal.invariant-loop-number
invariant-loop-number l = (start : State) → started l.self.image.now l.self.module l.self.function ≡ Ok start
    → AreLinesOf l.self.image.now start (take l.number (schedules l.plan)) (string_bytes l.out)
