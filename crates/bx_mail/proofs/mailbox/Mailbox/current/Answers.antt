use Rattle.std.proofs.Common.{◌∙◌, ap}
use Rattle.bx_mail.specs.Mail.{current}
use Rattle.bx_mail.specs.Slots.{message_of}
use Rattle.bx_mail.proofs.Mails.{current_is}
use Rattle.bx_mail.proofs.mailbox.Mailbox.current.Goals as goal

pub returns : goal.returns
returns c = c.message_of.ensures ∙ ap (message_of c.self.inside.slots) c.link_behind-link.ensures ∙ current_is c.self.invariant ∙ ap current c.self.view_is
