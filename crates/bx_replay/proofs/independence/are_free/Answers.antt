use Rattle.bx_replay.proofs.Pairs.{made_or_not}
use Rattle.bx_replay.proofs.independence.are_free.Goals as goal

pub returns : goal.returns
returns c =
    made_or_not c.args.image.now c.args.first c.args.second c.args.here.now c.in_ok-there.there c.both_made.result (c.in_ok-may_pass.ensures.yes c.if-not-branch.false) c.in_ok-there.ensures c.both_made.ensures
