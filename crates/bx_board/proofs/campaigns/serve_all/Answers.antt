use denote.Param.Send.{sendable}
use Rattle.std.proofs.Crossing as owned
use Rattle.std.proofs.MapsCrossing as maps
use Rattle.bx_board.proofs.Crossing.{crosses}
use Rattle.bx_board.proofs.campaigns.serve_all.Goals as goal

-- threads may share a board, since its book may go from one to another
pub map_indices-ended-requires-sync-F : goal.map_indices-ended-requires-sync-F
map_indices-ended-requires-sync-F g c = λ κs lives.
    let r = c.type_bounds.sync-R in let s = c.type_bounds.sync-G in let j = c.type_bounds.send-J in
    search (crosses, sendable, owned.crosses, maps.crosses) depth 60 fits 20000
