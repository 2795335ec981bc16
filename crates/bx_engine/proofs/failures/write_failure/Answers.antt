use Rattle.std.proofs.Common.{codes, map, string_bytes}
use Rattle.bx_engine.specs.FaultLines.{text_of}
use Rattle.bx_engine.proofs.TextLemmas.{then_appends}
use Rattle.bx_engine.proofs.failures.write_failure.Goals as goal

pub returns : goal.returns
returns g c =
    let contents = g.W.Write.contents in
    then_appends c.write_all.result (contents c.args.writer.now) (contents c.write_text.new.writer) (contents c.write_all.new.self)
    (text_of c.args.failure.now (map string_bytes c.args.names.now)) (codes "\n") c.in_ok-write_text.ensures c.write_all.ensures.bytes
