use Rattle.std.proofs.Common.{◌≡◌, ◌+◌, ◌-◌, List, ◌++◌, replicate, string_bytes}
use Rattle.bx_world.specs.declared.choices.Choice.{Choice}
use Rattle.bx_debugger.specs.Trace.{trace_lines}
use Rattle.bx_debugger.proofs.traces.push_run_lines.Given as goal

-- what is written and what is left to write make the whole
abbrev pub invariant-loop-made : goal.invariant-loop-made
invariant-loop-made l = (rest : List Choice)
    → string_bytes l.out ++ trace_lines l.program (l.made + 1) l.world (replicate (l.before + l.run.times - l.made) l.run.choice ++ rest)
    ≡ string_bytes l.fn.out ++ trace_lines l.program (l.before + 1) l.fn.world (replicate l.run.times l.run.choice ++ rest)
