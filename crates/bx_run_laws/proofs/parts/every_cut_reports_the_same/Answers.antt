use Rattle.bx_run_laws.proofs.Parting.{each_is_readable}
use Rattle.bx_run_laws.proofs.PartReports.{cut_reports}
use Rattle.bx_run_laws.proofs.parts.every_cut_reports_the_same.Goals as goal

pub returns-clause-plans : goal.returns-clause-plans
returns-clause-plans c = λ planned parts. each_is_readable planned parts

pub returns-clause-reports : goal.returns-clause-reports
returns-clause-reports c = λ start given planned parts. cut_reports start given planned parts
