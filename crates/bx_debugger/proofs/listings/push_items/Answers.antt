use Rattle.std.proofs.Common.{string_bytes}
use Rattle.bx_debugger.proofs.ItemRows.{items_next}
use Rattle.bx_debugger.proofs.listings.push_items.Goals as goal

pub loop-item-preserved : goal.loop-item-preserved
loop-item-preserved c =
    items_next c.args.program.now c.args.first.«module» c.loop-item.item c.args.past (string_bytes c.loop-item.out) (string_bytes c.push_item_line.new.out) _
    c.loop-item-test.true c.in_ok-push_item_line.ensures c.loop-item.invariant
