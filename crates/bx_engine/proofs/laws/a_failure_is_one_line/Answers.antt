use Rattle.std.proofs.Common.{refl}
use Rattle.bx_engine.specs.FaultLines.{text_of}
use Rattle.bx_engine.proofs.LineLemmas.{text_stays}
use Rattle.bx_engine.proofs.laws.a_failure_is_one_line.Goals as goal

pub returns : goal.returns
returns c = λ failure names h. (text_of failure names, refl, text_stays failure names h)
