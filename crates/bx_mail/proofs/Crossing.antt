-- A mailbox may go to another thread, and threads may share one.
use denote.Param.Send.{IsSend, IsSync, sendable}
use Rattle.std.proofs.Crossing as owned
use Rattle.bx_terms.proofs.Crossing.{term_send, term_sync}
use Rattle.bx_mail.specs.contracts.mailbox.Mailbox as mailbox

pub mailbox_send : IsSend mailbox.the_row
mailbox_send = search (term_send, sendable, owned.crosses) depth 30

pub mailbox_sync : IsSync mailbox.the_row
mailbox_sync = search (term_sync, sendable, owned.crosses) depth 30
