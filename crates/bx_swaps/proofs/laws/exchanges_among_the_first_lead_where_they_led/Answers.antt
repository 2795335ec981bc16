use Rattle.bx_swaps.proofs.Words.{ends_after, long_after}
use Rattle.bx_replay.proofs.Bringing.{behind_after}
use Rattle.bx_swaps.proofs.laws.exchanges_among_the_first_lead_where_they_led.Goals as goal

pub returns : goal.returns
returns c = record { ends = ends_after; behind = behind_after; long = long_after }
