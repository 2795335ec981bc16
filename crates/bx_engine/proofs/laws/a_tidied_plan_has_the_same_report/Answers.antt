use Rattle.bx_engine.proofs.TidyLaw.{same_report}
use Rattle.bx_engine.proofs.laws.a_tidied_plan_has_the_same_report.Goals as goal

pub returns : goal.returns
returns c = λ start names given planned text e is. same_report start names given planned text e is
