use Rattle.bx_signals.proofs.Maps.{taken_back_put, all_taken_back}
use Rattle.bx_signals.proofs.laws.what_was_put_is_taken_back.Goals as goal

pub returns : goal.returns
returns c = record { one = taken_back_put; all = all_taken_back }
