use Rattle.std.proofs.Common.{◌-◌, ◌≤◌, length, take}
use Rattle.std.specs.Io.KnownBytes.{Appends}
use Rattle.bx_engine.specs.FaultLines.{raw_text}
use Rattle.bx_engine.proofs.failures.write_raw.Given as goal

-- what is done of the name is written
abbrev pub invariant-loop-done : goal.invariant-loop-done
invariant-loop-done g l = record {
  written : Appends (g.W.Write.contents l.fn.writer) (g.W.Write.contents l.writer) (raw_text (take l.done l.name));
  within : l.done ≤ length l.name;
}

abbrev pub decreases-loop-done : goal.decreases-loop-done
decreases-loop-done g l = length l.name - l.done
