-- What a board is made of that threads may share, or that may go from one to another, as a set for `search`.
use denote.Param.Send.{IsSend, sendable}
use Rattle.std.proofs.Crossing as owned
use Rattle.bx_share.proofs.arc_hold.ArcHold.TheSendSync as holds
use Rattle.bx_terms.proofs.kinds.Trap.TheSendSync as traps
use Rattle.bx_terms.proofs.Crossing.{term_send, term_sync}
use Rattle.bx_proc.proofs.Crossing.{process_send, process_sync}
use Rattle.bx_world.proofs.choices.Choice.TheSendSync as choices
use Rattle.bx_world.proofs.Crossing.{lanes_send, lanes_sync}
use Rattle.bx_board.specs.contracts.books.stands.Stand as stand
use Rattle.bx_terms.proofs.atom_table.AtomId.TheSendSync as ids
use Rattle.bx_load.proofs.Crossing.{image_sync}
use Rattle.bx_plan.proofs.plans.Plan.TheSendSync as plans
use Rattle.bx_plan.proofs.chains.Chains.TheSendSync as chains
use Rattle.bx_board.proofs.working.Crew.TheSendSync as crews

-- how a chain stands may go to another thread, with the end of its run and what that shows
pub stand_send : IsSend stand.the_row
stand_send =
    let a = process_send in let b = process_sync in let c = lanes_send in let d = lanes_sync in let e = term_send in let f = term_sync in
    search (holds.the_send, holds.the_sync, traps.the_send, traps.the_sync, choices.the_send, choices.the_sync, sendable, owned.crosses) depth 50 fits 20000

pub ruleset crosses = (image_sync, stand_send, ids.the_send, plans.the_sync, chains.the_send, crews.the_sync)
