use Rattle.std.proofs.Common.{sym, ◌∙◌}
use Rattle.bx_bifs.proofs.Joining.{no_elements, proper_on_err}
use Rattle.bx_bifs.proofs.values.elements.Goals as goal

pub returns-in-None-clause-ok : goal.returns-in-None-clause-ok
returns-in-None-clause-ok c = no_elements c.args.list.now (sym c.in-None.is ∙ c.length.ensures)

pub returns-in-Some-clause-err : goal.returns-in-Some-clause-err
returns-in-Some-clause-err c = proper_on_err c.gather.result c.args.list.now c.in-Some.field-0 (sym c.in-Some.is ∙ c.length.ensures)
