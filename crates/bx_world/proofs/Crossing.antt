-- What processes share may go to another thread, and threads may share it.
use denote.Param.Send.{IsSend, IsSync, sendable}
use Rattle.std.proofs.Crossing as owned
use Rattle.bx_terms.proofs.Crossing.{term_send, term_sync}
use Rattle.bx_signals.proofs.Crossing.{channels_send, channels_sync}
use Rattle.bx_world.specs.contracts.lanes.Lanes as lanes

pub lanes_send : IsSend lanes.the_row
lanes_send = let a = channels_send in search (term_send, sendable, owned.crosses) depth 30

pub lanes_sync : IsSync lanes.the_row
lanes_sync = let a = channels_sync in search (term_sync, sendable, owned.crosses) depth 30
