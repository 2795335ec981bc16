use Rattle.bx_debug.proofs.Pausing.{Ran}
use Rattle.bx_debug.proofs.pauses.Runner.runs.Given as goal

-- so often it has run
abbrev pub invariant-loop-made : goal.invariant-loop-made
invariant-loop-made l = Ran l.self.bound l.self.image.now l.self.places.now l.self.pid l.world l.made l.here
