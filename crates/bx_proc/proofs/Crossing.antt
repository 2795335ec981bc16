-- A process may go to another thread, and threads may share one.
use denote.Param.Send.{IsSend, IsSync, AllSend, AllSync, view_send, view_sync, recorded_send, recorded_sync, struct_send, struct_sync, sendable}
use denote.Struct.Declared.{shape}
use Rattle.std.specs.contracts.option.Option as option
use Rattle.bx_terms.proofs.Crossing.{term_send, term_sync}
use Rattle.bx_terms.specs.contracts.places.Place as place
use Rattle.bx_terms.proofs.places.Place.TheSendSync as places
use Rattle.bx_bifs.specs.contracts.natives.Native as native
use Rattle.bx_bifs.proofs.natives.Native.TheSendSync as natives
use Rattle.bx_cells.proofs.links.Links.TheSendSync as links
use Rattle.bx_cells.proofs.Crossing.{registers_send, registers_sync, frames_send, frames_sync}
use Rattle.bx_mail.proofs.Crossing.{mailbox_send, mailbox_sync}
use Rattle.bx_proc.specs.contracts.parts.Pending as pending
use Rattle.bx_proc.specs.contracts.parts.Status as status
use Rattle.bx_proc.specs.contracts.process.Proc as process
use Rattle.bx_proc.specs.contracts.process.Proc.TheInside as inside

-- a field that is an enum has the row of its variants
place_send : IsSend (option.the_field place.the_row).row
place_send = search (places.the_send, sendable) depth 20

place_sync : IsSync (option.the_field place.the_row).row
place_sync = search (places.the_sync, sendable) depth 20

asked_send : IsSend (option.the_field native.the_row).row
asked_send = search (natives.the_send, sendable) depth 20

asked_sync : IsSync (option.the_field native.the_row).row
asked_sync = search (natives.the_sync, sendable) depth 20

pending_send : IsSend pending.the_row
pending_send = search (term_send, sendable) depth 30

pending_sync : IsSync pending.the_row
pending_sync = search (term_sync, sendable) depth 30

fault_send : IsSend (option.the_field pending.the_row).row
fault_send = let a = pending_send in search sendable depth 20

fault_sync : IsSync (option.the_field pending.the_row).row
fault_sync = let a = pending_sync in search sendable depth 20

status_send : IsSend (status.the_field).row
status_send = search (term_send, sendable) depth 30

status_sync : IsSync (status.the_field).row
status_sync = search (term_sync, sendable) depth 30

parts_send : AllSend ((shape inside.the_type).fields)
parts_send = (
  registers_send,
  (search sendable, (place_send, (status_send, (fault_send, (asked_send, (place_send, (place_send, (mailbox_send, (links.the_send, (frames_send, tt)))))))))),
)

parts_sync : AllSync ((shape inside.the_type).fields)
parts_sync = (
  registers_sync,
  (search sendable, (place_sync, (status_sync, (fault_sync, (asked_sync, (place_sync, (place_sync, (mailbox_sync, (links.the_sync, (frames_sync, tt)))))))))),
)

pub process_send : IsSend process.the_row
process_send = view_send inside.the_row _ _ _ _ (recorded_send (inside.the_field).row _ _ (inside.the_type).to_one (struct_send (shape inside.the_type) parts_send))

pub process_sync : IsSync process.the_row
process_sync = view_sync inside.the_row _ _ _ _ (recorded_sync (inside.the_field).row _ _ (inside.the_type).to_one (struct_sync (shape inside.the_type) parts_sync))
