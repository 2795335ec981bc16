use Rattle.bx_signals.proofs.Lines.{opened_same}
use Rattle.bx_signals.proofs.row.open_at.Goals as goal

pub returns-in-Ok-clause-kept : goal.returns-in-Ok-clause-kept
returns-in-Ok-clause-kept c = rw (c.in-Ok.ensures.items, c.new.ensures) (opened_same c.args.lines.now.items c.args.to c.args.at c.requires.gap)
