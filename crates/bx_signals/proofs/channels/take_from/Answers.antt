use Rattle.std.proofs.Common.{sym, ap, ◌∙◌}
use Rattle.bx_signals.specs.Waiting.{first, rest}
use Rattle.bx_signals.proofs.Maps.{set_row_by, row_waits}
use Rattle.bx_signals.proofs.channels.take_from.Goals as goal

pub returns-clause-given : goal.returns-clause-given
returns-clause-given c = c.take.ensures.given ∙ ap first (sym (row_waits c.args.rows.now.items c.args.from c.args.to c.index_mut.result.now c.requires.from c.index_mut.ensures.value))

pub returns-clause-left : goal.returns-clause-left
returns-clause-left c = set_row_by c.args.rows.now.items c.args.from c.args.to c.index_mut.result.now c.take.new.self rest c.requires.from c.index_mut.ensures.value c.take.ensures.left
