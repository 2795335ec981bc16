use Rattle.bx_swaps.proofs.Words.{from_start}
use Rattle.bx_swaps.proofs.Ends.{same_ends}
use Rattle.bx_swaps.proofs.laws.exchanges_lead_to_an_equal_world.Goals as goal

pub returns : goal.returns
returns c = λ image start positions choices may. same_ends positions (from_start image start choices) may
