use Rattle.bx_world.proofs.Words.{◌<◌, length, map, sym, ap, ◌∙◌, arith, life_cells, life}
use Rattle.std.proofs.lemmas.List.{get_or-map, length-map}
use Rattle.bx_signals.proofs.Weights.{heavier}
use Rattle.bx_world.proofs.weights.lives_cells.Goals as goal

pub loop-slot-preserved : goal.loop-slot-preserved
loop-slot-preserved g c =
    let seen = life g.P.Hold.shown in
    let slots = c.args.slots.now in
    let at = c.loop-slot.slot-index in
    let within : at < length slots = c.loop-slot-test.true in
    let here : at < length (map seen slots) = omega (arith, within, length-map slots seen) in
    heavier life_cells (map seen slots) at (seen c.slot-item.result) c.loop-slot.cells c.life_cells.result c.saturating_add-cells.result here
    (ap seen c.slot-item.is ∙ sym (get_or-map seen slots at c.slot-item.result (seen c.slot-item.result) within)) c.loop-slot.invariant c.life_cells.ensures c.saturating_add-cells.ensures
