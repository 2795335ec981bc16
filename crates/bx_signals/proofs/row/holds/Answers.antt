use Rattle.std.proofs.Common.{◌≢◌, [], sym, ◌∙◌}
use Rattle.bx_signals.proofs.Lines.{queue_is, queue_missed}
use Rattle.bx_signals.proofs.row.holds.Goals as goal

pub returns-in-Ok : goal.returns-in-Ok
returns-in-Ok c =
    let own = queue_is c.args.lines.now c.args.to c.in-Ok.at c.index-lines-at.result c.requires c.in-Ok.ensures.found c.index-lines-at.is in
    let some : c.args.queue.now ≢ [] = λ e. cc (c.is_empty.ensures.1 e, c.if-is_empty.false) in
    (λ same. λ _. own ∙ c.same.ensures.0 same, λ waits. c.same.ensures.1 (sym own ∙ waits some))

pub returns-in-Err : goal.returns-in-Err
returns-in-Err c =
    let none = queue_missed c.args.lines.now c.args.to c.in-Err.field-0 c.in-Err.ensures.missed in
    let some : c.args.queue.now ≢ [] = λ e. cc (c.is_empty.ensures.1 e, c.if-is_empty.false) in
    (λ no. cc no, λ waits. absurd (some (sym (waits some) ∙ none)))
