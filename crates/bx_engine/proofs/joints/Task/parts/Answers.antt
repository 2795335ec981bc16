use denote.Param.Send.{sendable}
use Rattle.std.proofs.Common.{rules, ◌∙◌, ◌∷◌, ap}
use Rattle.std.proofs.Crossing as owned
use Rattle.std.proofs.MapsCrossing as maps
use Rattle.std.proofs.lemmas.List.Sorted.{All-permutation}
use Rattle.bx_board.proofs.Crossing.{crosses}
use Rattle.bx_engine.specs.Joints.{IsPart}
use Rattle.bx_engine.proofs.JointRows.{one_row}
use Rattle.bx_engine.proofs.joints.Task.parts.Goals as goal

-- threads may share a task and turns
pub map_indices-requires-sync-F : goal.map_indices-requires-sync-F
map_indices-requires-sync-F g c κs within =
    let gate = c.type_bounds.sync-G in
    search (crosses, sendable, owned.crosses, maps.crosses) depth 60 fits 20000

-- the parts of one worker more
pub loop-row-preserved : goal.loop-row-preserved
loop-row-preserved g c =
    let both = one_row c.args.self.now c.loop-row.row-iterator.rest.items c.next.new.self.rest.items c.in_ok-row.field-0 c.loop-row.made.items c.append.new.self.items
    c.loop-row.invariant.rest (c.in-Some.ensures.steps.0 ∙ ap (λ row. row ∷ c.next.new.self.rest.items) c.in_ok-row.was) c.loop-row.invariant.made (search rules) in
    record { made = both.0; rest = both.1 }

pub returns : goal.returns
returns g c = All-permutation (IsPart c.args.self.now) _ _ c.sort_unstable_by_key.ensures.permutation c.loop-row.invariant.made
