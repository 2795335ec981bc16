use Rattle.std.proofs.Common.{codes, option_map}
use Rattle.bx_engine.specs.FaultLines.{named}
use Rattle.bx_engine.proofs.TextLemmas.{then_appends}
use Rattle.bx_engine.proofs.failures.write_unread.Goals as goal

pub returns : goal.returns
returns g c =
    let contents = g.W.Write.contents in
    then_appends c.write_name.result (contents c.args.writer.now) (contents c.write_all.new.self) (contents c.write_name.new.writer)
    (codes "bxemu: read") (named (codes " ") (option_map (λ name. name.now) c.args.file)) c.in_ok-write_all.ensures.bytes c.write_name.ensures
