use Rattle.std.proofs.Common.{◌≤◌, length}
use Rattle.std.specs.Io.KnownBytes.{Consumes}
use Rattle.bx_engine.specs.Inputs.{input_limit}
use Rattle.bx_engine.proofs.inputs.read_input.Given as goal

-- what was given is kept, and the chunk has room
abbrev pub invariant-loop : goal.invariant-loop
invariant-loop g l = record {
  given : Consumes (g.R.Read.remaining l.fn.reader) (g.R.Read.remaining l.reader) l.bytes.items;
  within : length l.bytes.items ≤ input_limit;
}
