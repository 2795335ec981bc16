use Rattle.std.proofs.Common.{refl}
use Rattle.bx_signals.specs.Waiting.{front}
use Rattle.bx_signals.proofs.Lines.{set_by}
use Rattle.bx_signals.proofs.row.take_back_at.Goals as goal

pub returns-clause-left : goal.returns-clause-left
returns-clause-left c = set_by c.args.lines.now.items c.args.to c.args.at c.index_mut.result.now _ front c.requires.rising c.requires.place c.index_mut.ensures.value refl c.take_back.ensures
