use Rattle.std.proofs.Common.{◌≡◌, ◌∙◌, sym, false, true, arith}
use Rattle.bx_mail.proofs.Rows.{row_next}
use Rattle.bx_mail.proofs.slots.same_row.Goals as goal

pub returns-then-not-same_held : goal.returns-then-not-same_held
returns-then-not-same_held c =
    let next = row_next c.args.slots.now c.args.others.now c.loop-left.left c.loop-left.at c.loop-left.other (omega arith) in (
      λ t. absurd (let f : false ≡ true = t in cc f),
      λ e. sym c.if-not-same_held.true ∙ c.same_held.ensures.1 (c.message_of.ensures ∙ (next.0 (c.loop-left.invariant.1 e)).0 ∙ sym c.message_of-in-loop-left.ensures),
    )

pub loop-left-preserved : goal.loop-left-preserved
loop-left-preserved c =
    let next = row_next c.args.slots.now c.args.others.now c.loop-left.left c.loop-left.at c.loop-left.other (omega arith) in
    let same = sym c.message_of.ensures ∙ c.same_held.ensures.0 c.if-not-same_held.false ∙ c.message_of-in-loop-left.ensures in
    rw (c.next_of-at.ensures, c.next_of-other.ensures) (λ e. c.loop-left.invariant.0 (next.1 (same, e)), λ e. (next.0 (c.loop-left.invariant.1 e)).1)
