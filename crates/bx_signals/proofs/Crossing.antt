-- Channels may go to another thread, and threads may share them.
use denote.Param.Send.{IsSend, IsSync, sendable}
use Rattle.std.proofs.Crossing as owned
use Rattle.bx_terms.proofs.Crossing.{term_send, term_sync}
use Rattle.bx_signals.specs.contracts.channels.Channels as channels

pub channels_send : IsSend channels.the_row
channels_send = search (term_send, sendable, owned.crosses) depth 60

pub channels_sync : IsSync channels.the_row
channels_sync = search (term_sync, sendable, owned.crosses) depth 60
