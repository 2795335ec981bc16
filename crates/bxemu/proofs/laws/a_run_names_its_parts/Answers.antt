use Rattle.std.proofs.Common.{refl}
use Rattle.clap.proofs.OnLiterals.{clap_on_literals}
use Rattle.bxemu.proofs.laws.a_run_names_its_parts.Goals as goal

pub returns-clause-in_order : goal.returns-clause-in_order
unfolding clap_on_literals
returns-clause-in_order c = (refl, (refl, refl, refl, refl, refl))

pub returns-clause-options_last : goal.returns-clause-options_last
unfolding clap_on_literals
returns-clause-options_last c = (refl, (refl, refl, refl, refl, refl))

pub returns-clause-files_only : goal.returns-clause-files_only
unfolding clap_on_literals
returns-clause-files_only c = (refl, (refl, refl, refl, refl, refl))
