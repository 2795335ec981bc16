use Rattle.std.proofs.Common.{refl}
use Rattle.clap.proofs.OnLiterals.{clap_on_literals}
use Rattle.bxemu.proofs.laws.a_dis_names_its_file.Goals as goal

pub returns-clause-named : goal.returns-clause-named
unfolding clap_on_literals
returns-clause-named c = (refl, (refl, refl))

pub returns-clause-dash : goal.returns-clause-dash
unfolding clap_on_literals
returns-clause-dash c = (refl, (refl, refl))

pub returns-clause-escaped : goal.returns-clause-escaped
unfolding clap_on_literals
returns-clause-escaped c = (refl, (refl, refl))
