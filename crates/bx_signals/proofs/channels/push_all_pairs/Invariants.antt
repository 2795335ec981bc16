use Rattle.std.proofs.Common.{◌≡◌, ◌≤◌, ◌++◌, drop, length}
use Rattle.bx_signals.specs.Rows.{rows_pairs}
use Rattle.bx_signals.proofs.channels.push_all_pairs.Given as goal

-- the pairs that were found and those that are left to find are all
abbrev pub invariant-loop-from : goal.invariant-loop-from
invariant-loop-from l = (length l.fn.found.items ≤ length l.found.items) × (l.found.items ++ rows_pairs l.from (drop l.from l.rows) ≡ l.fn.found.items ++ rows_pairs 0 l.rows)
