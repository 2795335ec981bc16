use Rattle.std.proofs.Common.{◌∙◌, ap, sym, refl}
use Rattle.bx_mail.specs.Mail.{passed_over}
use Rattle.bx_mail.proofs.Mails.{no_current, none_done, current_slot, pass_joined, parted_is, as_read}
use Rattle.bx_mail.proofs.mailbox.Mailbox.pass.Goals as goal

pub returns-in_default-clause-told : goal.returns-in_default-clause-told
returns-in_default-clause-told c = rw (← c.self.view_is, no_current c.self.invariant (sym c.link_behind.ensures ∙ c.in_default.is)) (λ t. t, λ t. t)

pub returns-in_default-clause-passed : goal.returns-in_default-clause-passed
returns-in_default-clause-passed c = sym c.self.view_is ∙ sym (none_done c.self.invariant (sym c.link_behind.ensures ∙ c.in_default.is)).0 ∙ ap passed_over c.self.view_is

pub invariant_of-self : goal.invariant_of-self
invariant_of-self c = as_read (pass_joined _ _ _ c.self.invariant (sym c.link_behind.ensures ∙ c.in-Some.is))

pub returns-clause-told : goal.returns-clause-told
returns-clause-told c = rw (← c.self.view_is, (current_slot c.self.invariant _ (sym c.link_behind.ensures ∙ c.in-Some.is)).3) (λ _. refl, λ _. refl)

pub returns-clause-passed : goal.returns-clause-passed
returns-clause-passed c = parted_is (pass_joined _ _ _ c.self.invariant (sym c.link_behind.ensures ∙ c.in-Some.is)) ∙ ap passed_over c.self.view_is
