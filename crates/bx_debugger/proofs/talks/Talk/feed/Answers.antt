use Rattle.std.proofs.Common.{Ok, Err, arith}
use Rattle.bx_debugger.specs.declared.talks.Next.TheVariants.{Over}
use Rattle.bx_debugger.proofs.TurnRows.{broken_behind, follows_more}
use Rattle.bx_debugger.proofs.talks.Talk.feed.Goals as goal

pub returns-in-Ok-Over : goal.returns-in-Ok-Over
returns-in-Ok-Over g c =
    let contents = g.W.Write.contents in
    let said = rw c.in-Ok-Over.field-0-is at c.in-Ok-Over.ensures in
    broken_behind (contents c.args.writer.now) (contents c.loop-byte.writer) (contents c.hear.new.writer) c.args.self.now c.loop-byte.self
    c.args.bytes.now c.loop-byte.byte-index (Ok Over) (omega arith) c.loop-byte.invariant said

pub returns-in-Err : goal.returns-in-Err
returns-in-Err g c =
    let contents = g.W.Write.contents in
    broken_behind (contents c.args.writer.now) (contents c.loop-byte.writer) (contents c.hear.new.writer) c.args.self.now c.loop-byte.self
    c.args.bytes.now c.loop-byte.byte-index (Err c.in-Err.failure) (omega arith) c.loop-byte.invariant c.in-Err.ensures

pub loop-byte-preserved : goal.loop-byte-preserved
loop-byte-preserved g c =
    let contents = g.W.Write.contents in
    let said = rw c.in-Ok-More.field-0-is at c.in-Ok-More.ensures in
    follows_more (contents c.args.writer.now) (contents c.loop-byte.writer) (contents c.hear.new.writer) c.args.self.now c.loop-byte.self c.hear.new.self
    c.args.bytes.now c.loop-byte.byte-index (omega arith) c.loop-byte.invariant said
