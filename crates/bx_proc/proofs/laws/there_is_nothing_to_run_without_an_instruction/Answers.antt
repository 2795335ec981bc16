use Rattle.bx_proc.proofs.Refusing.{no_item, no_instruction}
use Rattle.bx_proc.proofs.laws.there_is_nothing_to_run_without_an_instruction.Goals as goal

pub returns-clause-item : goal.returns-clause-item
returns-clause-item c image pid here p s a at none = no_item image pid here p s a at none

pub returns-clause-instruction : goal.returns-clause-instruction
returns-clause-instruction c image pid here p s a at free none = no_instruction image pid here p s a at free none
