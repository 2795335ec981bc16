use Rattle.std.proofs.Common.{◌≡◌, ◌++◌, string_bytes, ◌-◌}
use Rattle.bx_debugger.specs.Functions.{item_lines}
use Rattle.bx_debugger.proofs.listings.push_items.Given as goal

-- what is written and what is left to write make the whole
abbrev pub invariant-loop-item : goal.invariant-loop-item
invariant-loop-item l = string_bytes l.out ++ item_lines l.program l.first.«module» l.item (l.past - l.item) ≡ string_bytes l.fn.out ++ item_lines l.program l.first.«module» l.first.item (l.past - l.first.item)
