use Rattle.bx_engine.proofs.TextLemmas.{raw_text-plain}
use Rattle.bx_engine.proofs.failures.write_part.Goals as goal

pub returns-then-plain-gt0-clause-part : goal.returns-then-plain-gt0-clause-part
returns-then-plain-gt0-clause-part g c =
    rw (raw_text-plain c.plain_length-plain.result c.args.name.now c.plain_length-plain.ensures) c.in_ok-write_all.ensures.bytes
