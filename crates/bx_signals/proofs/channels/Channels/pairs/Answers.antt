use Rattle.bx_signals.proofs.Listed.{pairs_listed}
use Rattle.bx_signals.proofs.Paired.{on_err}
use Rattle.bx_signals.proofs.channels.Channels.pairs.Goals as goal

pub returns-in_err-push_all_pairs-clause-err : goal.returns-in_err-push_all_pairs-clause-err
returns-in_err-push_all_pairs-clause-err c =
    on_err c.from_residual.result _ (rw (c.deref.ensures.value, ← pairs_listed c.self.inside.rows.items c.self.invariant.0, c.self.view_is) at c.in_err-push_all_pairs.ensures.err)

pub returns-clause-ok : goal.returns-clause-ok
returns-clause-ok c =
    rw (c.new-found.ensures.items, c.deref.ensures.value, ← pairs_listed c.self.inside.rows.items c.self.invariant.0, c.self.view_is) at c.in_ok-push_all_pairs.ensures.ok
