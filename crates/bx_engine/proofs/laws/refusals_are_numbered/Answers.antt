use Rattle.bx_terms.specs.Refusals.{refusal}
use Rattle.bx_engine.proofs.LineLemmas.{number_of_title, titled}
use Rattle.bx_engine.proofs.laws.refusals_are_numbered.Goals as goal

pub returns : goal.returns
returns c = λ fault. number_of_title (refusal fault) (titled fault)
