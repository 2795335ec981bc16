use Rattle.bx_debug.proofs.Stopped.{walked_prefix, walked_enabled}
use Rattle.bx_debug.proofs.laws.a_prefix_is_applied.Goals as goal

pub returns : goal.returns
returns c = record { prefix = walked_prefix; enabled = walked_enabled }
