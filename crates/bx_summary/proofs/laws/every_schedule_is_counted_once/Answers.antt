use Rattle.bx_summary.proofs.Counting.{distinct_is, own_is, total_is}
use Rattle.bx_summary.proofs.laws.every_schedule_is_counted_once.Goals as goal

pub returns-clause-own : goal.returns-clause-own
returns-clause-own c = own_is

pub returns-clause-distinct : goal.returns-clause-distinct
returns-clause-distinct c = distinct_is

pub returns-clause-once : goal.returns-clause-once
returns-clause-once c = total_is
