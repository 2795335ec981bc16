use Rattle.std.proofs.Common.{◌≡◌, ◌≤◌, length}
use Rattle.bx_signals.specs.Rows.{rows_map, AllRising}
use Rattle.bx_signals.proofs.channels.grow.Given as goal

abbrev pub invariant-loop-next : goal.invariant-loop-next
invariant-loop-next l = (rows_map 0 l.rows.items ≡ rows_map 0 l.fn.rows.items) × (length l.rows.items ≡ l._next) × (length l.fn.rows.items ≤ l._next) × AllRising l.rows.items × (l._next ≤ 4294967296)
