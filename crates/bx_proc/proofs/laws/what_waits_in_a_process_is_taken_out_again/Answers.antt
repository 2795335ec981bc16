use Rattle.bx_proc.proofs.laws.what_waits_in_a_process_is_taken_out_again.Goals as goal

pub returns-clause-ended : goal.returns-clause-ended
returns-clause-ended c image pid old new h = h.1

pub returns-clause-asked : goal.returns-clause-asked
returns-clause-asked c image pid native old new h = h.2

pub returns-clause-answered : goal.returns-clause-answered
returns-clause-answered c image answer old new h = h.1
