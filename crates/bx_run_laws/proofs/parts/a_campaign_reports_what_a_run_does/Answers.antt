use Rattle.bx_engine.specs.declared.forms.Form.TheVariants.{Report}
use Rattle.bx_run_laws.proofs.PartReports.{campaign_is_run}
use Rattle.bx_run_laws.proofs.parts.a_campaign_reports_what_a_run_does.Goals as goal

pub returns-clause-report : goal.returns-clause-report
returns-clause-report c = λ workers start given planned some few. campaign_is_run Report workers start given planned some few

pub returns-clause-any_form : goal.returns-clause-any_form
returns-clause-any_form c = λ form workers start given planned some few. campaign_is_run form workers start given planned some few
