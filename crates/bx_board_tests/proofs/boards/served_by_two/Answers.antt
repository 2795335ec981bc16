use denote.Param.Send.{sendable}
use Rattle.std.proofs.Crossing as owned
use Rattle.std.proofs.MapsCrossing as maps
use Rattle.bx_board.proofs.Crossing.{crosses}
use Rattle.bx_board_tests.proofs.boards.served_by_two.Goals as goal

pub join-one-requires-send-F : goal.join-one-requires-send-F
join-one-requires-send-F g c = λ κs lives.
    let r = c.type_bounds.sync-R in let j = c.type_bounds.send-J in let gate = c.type_bounds.sync-G in
    search (crosses, sendable, owned.crosses, maps.crosses) depth 60 fits 20000
