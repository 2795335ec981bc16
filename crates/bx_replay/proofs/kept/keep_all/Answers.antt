use Rattle.std.proofs.Common.{◌+◌, ◌≤◌, length, refl, ap, ◌∙◌, arith}
use Rattle.bx_world.specs.Running.{Ended, ran}
use Rattle.bx_replay.proofs.Prefixes.{course}
use Rattle.bx_replay.proofs.Keeps.{further_reached}
use Rattle.bx_replay.proofs.kept.keep_all.Goals as goal

pub loop-at-preserved : goal.loop-at-preserved
loop-at-preserved c =
    let now = course c.args.image.now c.args.start.now.end c.args.choices.now in
    let past = c.loop-at.at + c.min.result in
    let so_far = c.loop-at.invariant in
    let within : past ≤ length now.choices = omega (arith, so_far.within, c.min.ensures) in
    let on = further_reached now c.loop-at.end c.advance_all.new.end c.loop-at.at past (omega arith) within so_far.here (c.in_ok-advance_all.ensures.ok ∙ ap (λ cs. ran now.image cs c.loop-at.end) c.part.ensures)
    (omega (arith, ap (λ (e : Ended). e.applied) c.end-in-loop-at.view_is, c.count.ensures, c.if-end-count.false)) in
    record { within = within; here = on.0; count = on.1; kept = c.keep_if_due.ensures.kept now refl so_far.kept on.2 }
