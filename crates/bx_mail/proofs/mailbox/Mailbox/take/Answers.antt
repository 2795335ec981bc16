use Rattle.std.proofs.Common.{◌∙◌, None, ap, sym, arith, length, length-set}
use Rattle.std.proofs.lemmas.Option.{slice_get_within}
use Rattle.bx_mail.specs.declared.slots.Slot.{Slot}
use Rattle.bx_mail.specs.Mail.{current, taken}
use Rattle.bx_mail.specs.Slots.{message_in}
use Rattle.bx_mail.proofs.Chains.{slot_of}
use Rattle.bx_mail.proofs.Mails.{no_current, none_done, current_slot, saved_leads, parted_is, as_read}
use Rattle.bx_mail.proofs.Taking.{take_joined}
use Rattle.bx_mail.proofs.mailbox.Mailbox.take.Goals as goal

pub returns-in_err-at-clause-given : goal.returns-in_err-at-clause-given
returns-in_err-at-clause-given c = c.from_residual.ensures ∙ sym (no_current c.self.invariant (sym c.link_behind.ensures ∙ c.in_err-at.was)) ∙ ap current c.self.view_is

pub returns-in_err-at-clause-taken : goal.returns-in_err-at-clause-taken
returns-in_err-at-clause-taken c = sym c.self.view_is ∙ sym (none_done c.self.invariant (sym c.link_behind.ensures ∙ c.in_err-at.was)).1 ∙ ap taken c.self.view_is

pub empty-message-requires : goal.empty-message-requires
empty-message-requires c = slice_get_within _ _ _ (current_slot c.self.invariant c.in_ok-at.at (sym c.link_behind.ensures ∙ c.in_ok-at.was)).2

pub relink-requires : goal.relink-requires
relink-requires c at e =
    let s = saved_leads c.self.invariant at (sym c.take-saved.ensures.value ∙ e) in
    omega (arith, slice_get_within _ at _ (slot_of c.self.inside.slots s.0 _ at None s.1).1, ap length c.empty-message.ensures.emptied, length-set {A = Slot})

pub invariant_of-self : goal.invariant_of-self
invariant_of-self c =
    as_read (take_joined c.self.inside.slots c.empty-message.new.self c.relink.new.self c.self.inside.first c.relink.new.first c.self.inside.last c.last_behind-self-inside.result c.self.inside.saved c.take-saved.result c.take-saved.new.self c.self.inside.free c.empty-message.result.1 c.self.inside.passed c.self.inside.len c.in_ok-at.at _ c.self.invariant
    (sym c.link_behind.ensures ∙ c.in_ok-at.was) c.take-saved.ensures.value c.take-saved.ensures.after c.empty-message.ensures.next c.empty-message.ensures.emptied c.relink.ensures c.last_behind-self-inside.ensures)

pub returns-clause-given : goal.returns-clause-given
returns-clause-given c =
    let s = current_slot c.self.invariant c.in_ok-at.at (sym c.link_behind.ensures ∙ c.in_ok-at.was) in
    c.empty-message.ensures.message ∙ ap message_in s.2 ∙ sym s.3 ∙ ap current c.self.view_is

pub returns-clause-taken : goal.returns-clause-taken
returns-clause-taken c =
    parted_is (take_joined c.self.inside.slots c.empty-message.new.self c.relink.new.self c.self.inside.first c.relink.new.first c.self.inside.last c.last_behind-self-inside.result c.self.inside.saved c.take-saved.result c.take-saved.new.self c.self.inside.free c.empty-message.result.1 c.self.inside.passed c.self.inside.len c.in_ok-at.at _ c.self.invariant
    (sym c.link_behind.ensures ∙ c.in_ok-at.was) c.take-saved.ensures.value c.take-saved.ensures.after c.empty-message.ensures.next c.empty-message.ensures.emptied c.relink.ensures c.last_behind-self-inside.ensures) ∙ ap taken c.self.view_is
