use Rattle.std.proofs.Common.{◌++◌, Ok, Err}
use Rattle.bx_debugger.proofs.HearingRows.{hears-append, talks_behind}
use Rattle.bx_debugger.proofs.talks.Talk.answer_all.Goals as goal

pub returns-in-Ok-Over : goal.returns-in-Ok-Over
returns-in-Ok-Over g c =
    let contents = g.W.Write.contents in
    let remaining = g.C.Read.remaining in
    let said = rw c.in-Ok-Over.field-0-is at c.in-Ok-Over.ensures in
    talks_behind c.args.file (contents c.args.writer.now) (contents c.loop.writer) (contents c.turn.new.writer)
    (remaining c.args.commands.now) (remaining c.loop.commands) (remaining c.turn.new.commands) c.args.self c.loop.talk
    c.loop.invariant.0 (Ok tt) c.loop.invariant.1 said

pub returns-in-Err : goal.returns-in-Err
returns-in-Err g c =
    let contents = g.W.Write.contents in
    let remaining = g.C.Read.remaining in
    talks_behind c.args.file (contents c.args.writer.now) (contents c.loop.writer) (contents c.turn.new.writer)
    (remaining c.args.commands.now) (remaining c.loop.commands) (remaining c.turn.new.commands) c.args.self c.loop.talk
    c.loop.invariant.0 (Err c.in-Err.failure) c.loop.invariant.1 c.in-Err.ensures

pub loop-preserved : goal.loop-preserved
loop-preserved g c =
    let contents = g.W.Write.contents in
    let remaining = g.C.Read.remaining in
    let said = rw c.in-Ok-More.field-0-is at c.in-Ok-More.ensures in (
      c.loop.invariant.0 ++ said.0,
      hears-append (contents c.args.writer.now) (contents c.loop.writer) (contents c.turn.new.writer)
          (remaining c.args.commands.now) (remaining c.loop.commands) (remaining c.turn.new.commands) c.args.self c.loop.talk c.turn.new.self
          c.loop.invariant.0 said.0 c.loop.invariant.1 said.1,
    )
