use Rattle.std.proofs.Common.{◌≡◌, ◌+◌, drop}
use Rattle.bx_cells.specs.Links.{rank}
use Rattle.bx_cells.proofs.links.rank.Given as goal

abbrev pub invariant-loop-at : goal.invariant-loop-at
invariant-loop-at l = rank l.pid l.pids ≡ l.at + rank l.pid (drop l.at l.pids)
