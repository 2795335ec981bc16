use Rattle.std.proofs.Common.{refl, sym, ap, ◌∙◌}
use Rattle.bx_signals.specs.Waiting.{first, rest}
use Rattle.bx_signals.proofs.Lines.{set_by, queue_is}
use Rattle.bx_signals.proofs.row.take_at.Goals as goal

pub returns-clause-given : goal.returns-clause-given
returns-clause-given c =
    c.take.ensures.given ∙ ap first (sym (queue_is c.args.lines.now.items c.args.to c.args.at c.index_mut.result.now c.requires.rising c.requires.place c.index_mut.ensures.value))

pub returns-clause-left : goal.returns-clause-left
returns-clause-left c = set_by c.args.lines.now.items c.args.to c.args.at c.index_mut.result.now _ rest c.requires.rising c.requires.place c.index_mut.ensures.value refl c.take.ensures.left
