use Rattle.bx_proc.proofs.Refusing.{after_the_end, before_an_answer}
use Rattle.bx_proc.proofs.Unasked.{no_answer, no_answer_after, no_answer_again}
use Rattle.bx_proc.proofs.laws.nothing_runs_after_the_end_or_before_an_answer.Goals as goal

pub returns-clause-ended : goal.returns-clause-ended
returns-clause-ended c image pid reason p s = after_the_end image pid reason p s

pub returns-clause-asked : goal.returns-clause-asked
returns-clause-asked c image pid native p a = before_an_answer image pid native p a

pub returns-clause-unasked : goal.returns-clause-unasked
returns-clause-unasked c image answer p a = no_answer image answer p a

pub returns-clause-stepped : goal.returns-clause-stepped
returns-clause-stepped c image pid answer reason p q e = no_answer_after image pid answer reason p q e

pub returns-clause-answered : goal.returns-clause-answered
returns-clause-answered c image answer more reason p q e = no_answer_again image answer more reason p q e
