use Rattle.std.proofs.Common.{◌∙◌, codes}
use Rattle.bx_terms.specs.Refusals.{refusal}
use Rattle.bx_debugger.proofs.TitleRows.{refused_so}
use Rattle.bx_debugger.proofs.replies.refusal_line.Goals as goal

pub returns-clause-text : goal.returns-clause-text
returns-clause-text c =
    c.in_ok-text.ensures ∙ refused_so (refusal c.args.fault.now) c.args.number c.in-Some.refusal c.name.result.now (codes "Memory") c.in-Some.ensures c.name.ensures
