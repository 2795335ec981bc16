use Rattle.std.proofs.Common.{◌-◌, ap}
use Rattle.bx_debugger.specs.Talks.{Hearing}
use Rattle.bx_debugger.proofs.ByteRows.{broken_byte, lacks_begun, over_byte}
use Rattle.bx_debugger.proofs.talks.Talk.hear.Goals as goal

pub returns-in_default : goal.returns-in_default
returns-in_default g c = lacks_begun (g.W.Write.contents c.args.writer.now) c.args.self.now c.args.byte c.if-byte-ne10.true

pub returns-in-Ok-Over : goal.returns-in-Ok-Over
returns-in-Ok-Over g c =
    let said = rw c.in-Ok-Over.field-0-is at c.in-Ok-Over.ensures in
    over_byte (g.W.Write.contents c.args.writer.now) (g.W.Write.contents c.answer.new.writer) c.args.self.now c.args.byte
    c.self.inside.line.items c.if-byte-ne10.false (ap (λ (h : Hearing). h.line) c.self.view_is) said.0 said.1

pub returns-in-Err : goal.returns-in-Err
returns-in-Err g c =
    let inside = c.self.inside in
    broken_byte (g.W.Write.contents c.args.writer.now) (g.W.Write.contents c.answer.new.writer) c.args.self.now
    (record { session = inside.session; sources = inside.sources.now; number = inside.number; line = inside.line.items; left = inside.left - 1 }) c.answer.new.self
    c.args.byte c.in-Err.failure c.if-byte-ne10.false (ap (λ (h : Hearing). h.line) c.self.view_is) c.in-Err.ensures
