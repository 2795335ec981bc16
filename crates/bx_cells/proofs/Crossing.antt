-- What a process holds may go to another thread, and threads may share it.
use denote.Param.Send.{IsSend, IsSync, sendable}
use Rattle.std.proofs.Crossing as owned
use Rattle.bx_terms.proofs.Crossing.{term_send, term_sync}
use Rattle.bx_cells.specs.contracts.values.Value as value
use Rattle.bx_cells.specs.contracts.registers.Registers as registers
use Rattle.bx_cells.specs.contracts.frames.Frames as frames

value_send : IsSend value.the_row
value_send = search (term_send, sendable) depth 30

value_sync : IsSync value.the_row
value_sync = search (term_sync, sendable) depth 30

pub registers_send : IsSend registers.the_row
registers_send = let a = value_send in search (sendable, owned.crosses) depth 30

pub registers_sync : IsSync registers.the_row
registers_sync = let a = value_sync in search (sendable, owned.crosses) depth 30

pub frames_send : IsSend frames.the_row
frames_send = let a = value_send in search (sendable, owned.crosses) depth 30

pub frames_sync : IsSync frames.the_row
frames_sync = let a = value_sync in search (sendable, owned.crosses) depth 30
