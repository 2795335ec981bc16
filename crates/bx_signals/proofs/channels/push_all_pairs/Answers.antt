use Rattle.bx_signals.specs.Rows.{rows_pairs}
use Rattle.bx_signals.proofs.Paired.{row_some, on_err}
use Rattle.bx_signals.proofs.channels.push_all_pairs.Goals as goal

pub returns-in_err-push_pairs-clause-err : goal.returns-in_err-push_pairs-clause-err
returns-in_err-push_pairs-clause-err c =
    on_err c.from_residual.result _ (row_some c.loop-from.from c.args.rows.now c.index-rows-from.result c.args.found.now.items c.loop-from.found.items (rows_pairs 0 c.args.rows.now)
    c.loop-from-test.true c.index-rows-from.is c.in_err-push_pairs.ensures.err c.loop-from.invariant.0 c.loop-from.invariant.1)
