use Rattle.bx_events.proofs.Matched.{each_is_first}
use Rattle.bx_events.proofs.laws.an_arrow_begins_at_the_event_that_put_its_signal.Goals as goal

pub returns-clause-arrives : goal.returns-clause-arrives
returns-clause-arrives c = each_is_first
