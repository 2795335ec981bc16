use Rattle.std.proofs.Common.{codes, refl}
use Rattle.clap.proofs.OnLiterals.{clap_on_literals}
use Rattle.bxemu.proofs.CommandLemmas.{spells_four}
use Rattle.bxemu.proofs.laws.a_flag_asks_for_a_summary.Goals as goal

pub returns-clause-run : goal.returns-clause-run
unfolding clap_on_literals
returns-clause-run c = (refl, (refl, refl, refl, refl, refl))

pub returns-clause-flag_first : goal.returns-clause-flag_first
unfolding clap_on_literals
returns-clause-flag_first c = (refl, (refl, refl, refl, refl, refl))

pub returns-clause-campaign : goal.returns-clause-campaign
unfolding clap_on_literals
returns-clause-campaign c = (refl, (refl, refl, refl, (codes "4", refl, spells_four), refl, refl))

pub returns-clause-left_out : goal.returns-clause-left_out
unfolding clap_on_literals
returns-clause-left_out c = (refl, (refl, refl, refl, refl, refl))
