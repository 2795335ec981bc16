use Rattle.std.proofs.Common.{◌∙◌, ap}
use Rattle.bx_mail.specs.Mail.{reset}
use Rattle.bx_mail.proofs.Mails.{reset_joined, parted_is, as_read}
use Rattle.bx_mail.proofs.mailbox.Mailbox.reset.Goals as goal

pub invariant_of-self : goal.invariant_of-self
invariant_of-self c = as_read (reset_joined c.self.invariant)

pub returns : goal.returns
returns c = parted_is (reset_joined c.self.invariant) ∙ ap reset c.self.view_is
