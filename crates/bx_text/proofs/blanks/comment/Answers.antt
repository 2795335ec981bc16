use Rattle.std.proofs.Common.{subst}
use Rattle.bx_terms.specs.Outcomes.{Gives}
use Rattle.bx_text.specs.Place.{Place, place}
use Rattle.bx_text.specs.Blank.{comment_end}
use Rattle.bx_text.proofs.Skipping.{comment_gives}
use Rattle.bx_text.proofs.blanks.comment.Goals as goal

pub returns-clause-same : goal.returns-clause-same
returns-clause-same c =
    comment_gives place (place c.args.r) c.line_end.result c.requires
    (subst (λ (p : Place). Gives ⊥ place c.line_end.result (comment_end p)) c.ahead.ensures c.line_end.ensures)
