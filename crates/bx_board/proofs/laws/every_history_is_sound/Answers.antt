use Rattle.bx_board.proofs.Histories.{every_history}
use Rattle.bx_board.proofs.laws.every_history_is_sound.Goals as goal

pub returns : goal.returns
returns c = every_history
