use Rattle.std.proofs.Common.{refl}
use Rattle.clap.proofs.OnLiterals.{clap_on_literals}
use Rattle.bxemu.proofs.laws.a_chart_names_its_parts.Goals as goal

pub returns-clause-named : goal.returns-clause-named
unfolding clap_on_literals
returns-clause-named c = (refl, (refl, refl, refl, refl, refl))

pub returns-clause-left_out : goal.returns-clause-left_out
unfolding clap_on_literals
returns-clause-left_out c = (refl, (refl, refl, refl, refl, refl))
