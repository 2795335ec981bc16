use Rattle.std.proofs.Common.{◌∙◌, sym}
use Rattle.std.proofs.lemmas.Bool.Decides.{Decides-eqb}
use Rattle.bx_mail.proofs.Rows.{same_mail}
use Rattle.bx_mail.proofs.mailbox.Mailbox.same.Goals as goal
use Rattle.bx_mail.proofs.mailbox.Mailbox.same.Goals.{then-self-other, else-self-other}

pub returns-then-self-other-2 : goal.returns-then-self-other-2
returns-then-self-other-2 c =
    elim c.if-self-other.branch [
      | then-self-other w ↦
          let s = same_mail c.self.invariant c.other.invariant w.if-self-other.true ((Decides-eqb _ _).0 (sym w.value-is ∙ c.if-self-other-2.true)) in
          (λ t. sym c.self.view_is ∙ s.0 (c.same_row.ensures.0 t) ∙ c.other.view_is, λ e. c.same_row.ensures.1 (s.1 (c.self.view_is ∙ e ∙ sym c.other.view_is)))
      | else-self-other w ↦ absurd (w.if-self-other.false ((Decides-eqb _ _).0 (sym w.value-is ∙ c.if-self-other-2.true)))
    ]
