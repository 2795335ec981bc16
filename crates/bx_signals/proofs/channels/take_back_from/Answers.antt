use Rattle.bx_signals.specs.Waiting.{front}
use Rattle.bx_signals.proofs.Maps.{set_row_by}
use Rattle.bx_signals.proofs.channels.take_back_from.Goals as goal

pub returns-clause-left : goal.returns-clause-left
returns-clause-left c = set_row_by c.args.rows.now.items c.args.from c.args.to c.index_mut.result.now c.take_back.new.self front c.requires.from c.index_mut.ensures.value c.take_back.ensures.left
