use Rattle.bx_ops.proofs.GuardBifLemmas.{guard_bifs_distinct}
use Rattle.bx_ops.proofs.laws.guard_bifs_are_distinct.Goals as goal

pub returns : goal.returns
returns c = guard_bifs_distinct
