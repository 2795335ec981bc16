use Rattle.bx_proc.proofs.Attempts.{whole, settled_whole, settled_with_whole}
use Rattle.bx_proc.proofs.laws.a_run_is_done_whole_or_changes_nothing.Goals as goal

pub returns-clause-attempt : goal.returns-clause-attempt
returns-clause-attempt c image pid p q effect is = whole image pid p q effect is

pub returns-clause-answer : goal.returns-clause-answer
returns-clause-answer c image answer p q effect is = settled_whole image answer p q effect is

pub returns-clause-noted : goal.returns-clause-noted
returns-clause-noted c image answer message p q effect is = settled_with_whole image answer message p q effect is
