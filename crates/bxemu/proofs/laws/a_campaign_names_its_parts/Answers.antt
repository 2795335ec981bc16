use Rattle.std.proofs.Common.{codes, refl}
use Rattle.clap.proofs.OnLiterals.{clap_on_literals}
use Rattle.bxemu.proofs.CommandLemmas.{spells_four, spells_most, spells_two}
use Rattle.bxemu.proofs.laws.a_campaign_names_its_parts.Goals as goal

pub returns-clause-named : goal.returns-clause-named
unfolding clap_on_literals
returns-clause-named c = (refl, (refl, refl, refl, (codes "64", refl, spells_most), refl, refl))

pub returns-clause-signed : goal.returns-clause-signed
unfolding clap_on_literals
returns-clause-signed c = (refl, (refl, refl, refl, (codes "+2", refl, spells_two), refl, refl))

pub returns-clause-left_out : goal.returns-clause-left_out
unfolding clap_on_literals
returns-clause-left_out c = (refl, (refl, refl, refl, (codes "4", refl, spells_four), refl, refl))
