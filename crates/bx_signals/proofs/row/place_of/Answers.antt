use Rattle.std.proofs.Common.{rules}
use Rattle.std.proofs.lemmas.List.Sorted.{answers_always}
use Rattle.bx_signals.proofs.Lines.{found_by_search, missed_by_search}
use Rattle.bx_signals.proofs.row.place_of.Goals as goal

-- the closure gives the receiver of a line
pub returns-in-Ok-clause-found : goal.returns-in-Ok-clause-found
returns-in-Ok-clause-found c =
    found_by_search c.args.lines.now c.args.to c.in-Ok.at c.in-Ok.ensures.bound
    (c.in-Ok.ensures.position (λ line. line.0) (answers_always _ _ _ (λ f a r g called. search rules)))

pub returns-in-Err-clause-missed : goal.returns-in-Err-clause-missed
returns-in-Err-clause-missed c =
    missed_by_search c.args.lines.now c.args.to c.in-Err.at c.requires c.in-Err.ensures.bound
    (c.in-Err.ensures.position (λ line. line.0) (answers_always _ _ _ (λ f a r g called. search rules)))
