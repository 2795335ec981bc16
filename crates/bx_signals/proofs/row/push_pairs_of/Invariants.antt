use Rattle.std.proofs.Common.{◌≡◌, ◌≤◌, ◌++◌, drop, length}
use Rattle.bx_signals.specs.Rows.{row_pairs}
use Rattle.bx_signals.proofs.row.push_pairs_of.Given as goal

-- the pairs that were found and those that are left to find are all
abbrev pub invariant-loop-at : goal.invariant-loop-at
invariant-loop-at l = (length l.fn.pairs.items ≤ length l.pairs.items) × (l.pairs.items ++ row_pairs l.from (drop l.at l.lines) ≡ l.fn.pairs.items ++ row_pairs l.from l.lines)
