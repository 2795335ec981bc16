use Rattle.std.proofs.Common.{ap, subst, ◌∙◌}
use Rattle.std.specs.List.{All}
use Rattle.bx_world.specs.Running.{Ended}
use Rattle.bx_board.specs.Jobs.{end_of}
use Rattle.bx_board.specs.Reported.{IsShown}
use Rattle.bx_board.proofs.working.Piece.into_parts.Goals as goal

pub returns-clause-told : goal.returns-clause-told
returns-clause-told c = subst (λ (e : Ended). All (IsShown e) c.self.inside.told.items) (c.self.invariant.1 ∙ ap end_of c.self.view_is) c.self.invariant.2
