use Rattle.std.proofs.Common.{◌≢◌, ◌+◌, ◌++◌, [], drop}
use Rattle.bx_signals.specs.Rows.{row_pairs}
use Rattle.bx_signals.proofs.Paired.{goes_on, on_err, pair_found}
use Rattle.bx_signals.proofs.row.push_pairs_of.Goals as goal

pub returns-in_err-push-clause-err : goal.returns-in_err-push-clause-err
returns-in_err-push-clause-err c =
    let some : c.index-lines-at.result.1 ≢ [] = λ e. cc (c.if-not-is_empty.ensures.1 e) in
    let found = pair_found c.args.from c.loop-at.at c.args.lines.now c.index-lines-at.result c.loop-at.pairs.items (c.args.pairs.now.items ++ row_pairs c.args.from c.args.lines.now) c.loop-at-test.true c.index-lines-at.is some c.loop-at.invariant.1 in
    on_err c.from_residual.result _ (goes_on c.args.pairs.now.items (row_pairs c.args.from c.args.lines.now) c.loop-at.pairs.items (row_pairs c.args.from (drop (c.loop-at.at + 1) c.args.lines.now)) (c.args.from, c.index-lines-at.result.0) c.loop-at.invariant.0 found)
