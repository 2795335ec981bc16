use Rattle.std.proofs.Common.{◌≡◌, Ok, false, rules, string_bytes, subst}
use Rattle.bx_debugger.specs.Answers.{is_quit}
use Rattle.bx_debugger.specs.Talks.{Hearing, Replies}
use Rattle.bx_debugger.specs.declared.talks.Next.TheVariants.{More}
use Rattle.bx_debugger.proofs.ReplyRows.{behind, replies_so}
use Rattle.bx_debugger.proofs.talks.Talk.answer.Goals as goal

pub returns-in-Ok-send : goal.returns-in-Ok-send
returns-in-Ok-send g c =
    let contents = g.W.Write.contents in
    let inside = c.self.inside in
    let here : Hearing = record { session = inside.session; sources = inside.sources.now; number = inside.number; line = inside.line.items; left = inside.left } in
    let on : is_quit inside.line.items ≡ false = first_of (cc, search rules) in
    subst (λ (h : Hearing). Replies (contents c.args.writer.now) (contents c.send.new.writer) h (behind here c.answer_line.new.session) (Ok More)) c.self.view_is
    (replies_so (contents c.args.writer.now) (contents c.send.new.writer) here c.deref.result.now (string_bytes c.in-Ok.text) c.as_bytes.result.now
    c.answer_line.new.session on c.deref.ensures.value c.in-Ok.ensures c.as_bytes.ensures.value c.in-Ok-send.ensures)
