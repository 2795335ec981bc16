use Rattle.std.proofs.Common.{◌≡◌, sym, ap, ◌∙◌}
use Rattle.std.specs.Prelude.{Some}
use Rattle.bx_asm.specs.Limits.{again, labels, operands_of}
use Rattle.bx_asm.proofs.Labels.{again_here}
use Rattle.bx_asm.proofs.limits.labels.labels_of.Goals as goal

pub returns-in-Some-clause-err : goal.returns-in-Some-clause-err
returns-in-Some-clause-err c =
    let twice : again c.loop-function.seen.keys (labels (operands_of c.function-item.result)) ≡ Some c.in-Some.label =
    sym (ap (λ is. again c.loop-function.seen.keys (labels is)) c.operands.ensures) ∙ sym c.in_ok-label.ensures.again ∙ c.in-Some.is in
    sym c.loop-function.invariant.0
    ∙ again_here c.args.functions.now c.loop-function.function-index c.function-item.result c.loop-function.seen.keys c.in-Some.label c.loop-function-test.true c.function-item.is twice
