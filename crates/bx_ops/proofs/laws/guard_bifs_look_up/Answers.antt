use Rattle.bx_ops.proofs.GuardBifLemmas.{guard_bif_finds}
use Rattle.bx_ops.proofs.laws.guard_bifs_look_up.Goals as goal

pub returns : goal.returns
returns c = guard_bif_finds
