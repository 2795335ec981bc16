use Rattle.std.proofs.Common.{sym, ap, ◌∙◌}
use Rattle.bx_world.specs.Running.{Ended}
use Rattle.bx_replay.proofs.Keeps.{nearest_kept}
use Rattle.bx_replay.proofs.kept.nearest.Goals as goal

pub returns : goal.returns
returns c = λ course begins are.
    nearest_kept course c.args.kept.now c.args.start.now c.last_of.result.now c.args.count c.within-near.result are begins (rw (c.count.ensures ∙ sym (ap (λ (e : Ended). e.applied) begins)) at c.within-near.ensures)
    c.last_of.ensures.start c.last_of.ensures.kept
