use Rattle.std.proofs.Common.{◌∙◌, [], None, ap, arith, length}
use Rattle.std.proofs.lemmas.List.{length-set}
use Rattle.std.proofs.lemmas.Option.{slice_get_within}
use Rattle.bx_mail.specs.declared.slots.Slot.{Slot}
use Rattle.bx_mail.specs.Mail.{Mail, added}
use Rattle.bx_mail.proofs.Chains.{slot_of}
use Rattle.bx_mail.proofs.Mails.{last_leads, parted_is, as_read}
use Rattle.bx_mail.proofs.Adding.{add_joined, opened_joined}
use Rattle.bx_mail.proofs.mailbox.Mailbox.add.Goals as goal

pub relink-requires : goal.relink-requires
relink-requires c at e =
    let f = last_leads (opened_joined _ c.open.new.self _ _ _ _ _ _ c.in-Ok.at _ c.self.invariant c.in-Ok.ensures.ok c.in-Ok.ensures.bounded) at e in
    omega (arith, slice_get_within _ at _ (slot_of c.open.new.self f.0 [] at None f.1).1, ap length c.fill-free.ensures.filled, length-set {A = Slot})

pub invariant_of-self-2 : goal.invariant_of-self-2
invariant_of-self-2 c =
    as_read (add_joined c.self.inside.slots c.open.new.self c.fill-free.new.self c.relink.new.self c.self.inside.first c.relink.new.first c.self.inside.last c.self.inside.saved c.self.inside.free c.fill-free.result c.self.inside.passed c.self.inside.len c.in-Ok.at _ c.args.message c.self.invariant
    c.in-Ok.ensures.ok c.in-Ok.ensures.bounded c.fill-free.ensures.next c.fill-free.ensures.filled c.relink.ensures)

pub returns-clause-ok : goal.returns-clause-ok
returns-clause-ok c =
    parted_is (add_joined c.self.inside.slots c.open.new.self c.fill-free.new.self c.relink.new.self c.self.inside.first c.relink.new.first c.self.inside.last c.self.inside.saved c.self.inside.free c.fill-free.result c.self.inside.passed c.self.inside.len c.in-Ok.at _ c.args.message c.self.invariant
    c.in-Ok.ensures.ok c.in-Ok.ensures.bounded c.fill-free.ensures.next c.fill-free.ensures.filled c.relink.ensures) ∙ ap (λ (m : Mail). added m c.args.message) c.self.view_is
