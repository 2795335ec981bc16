use Rattle.std.proofs.Common.{IsOk, inl, inr, length, rules, subst, sym}
use Rattle.std.proofs.KnownBytes.{Keeps-refl}
use Rattle.bx_engine.proofs.FileRows.{same_length}
use Rattle.bx_debugger.specs.Opening.{session_at}
use Rattle.bx_debugger.specs.Talks.{Hearing, Talks}
use Rattle.bx_debugger.proofs.OpeningRows.{before_image, before_session, debugs_so}
use Rattle.bx_debugger.proofs.debugger.Prompted.debug_text.Goals as goal

pub returns-in-Err-located_image_of-clause-talked : goal.returns-in-Err-located_image_of-clause-talked
returns-in-Err-located_image_of-clause-talked g c given known =
    before_image c.args.start.now given c.in-Ok.start (g.W.Write.contents c.args.writer.now) (g.C.Read.remaining c.args.commands.now)
    c.in-Err-located_image_of.failure c.in-Ok.ensures.ok (c.in-Err-located_image_of.ensures.loaded given known)

pub returns-in-Err-session_at-clause-talked : goal.returns-in-Err-session_at-clause-talked
returns-in-Err-session_at-clause-talked g c given known =
    before_session c.args.start.now given c.in-Ok.start (g.W.Write.contents c.args.writer.now) (g.C.Read.remaining c.args.commands.now)
    c.in-Ok-located_image_of.program.0 c.in-Err-session_at.fault (IsOk (session_at c.in-Ok-located_image_of.program.0 c.in-Ok.start)) c.in-Ok.ensures.ok
    (c.in-Ok-located_image_of.ensures.loaded given known) c.in-Err-session_at.ensures

pub returns-clause-talked : goal.returns-clause-talked
returns-clause-talked g c given known =
    debugs_so c.args.start.now given c.in-Ok.start (g.W.Write.contents c.args.writer.now) (g.W.Write.contents c.answer_all.new.writer)
    (g.C.Read.remaining c.args.commands.now) (g.C.Read.remaining c.answer_all.new.commands) c.in-Ok-located_image_of.program.0 c.in-Ok-located_image_of.program.1
    c.in-Ok-session_at.session (length c.args.listings.now) c.new-talk.result c.answer_all.result c.in-Ok.ensures.ok (c.in-Ok-located_image_of.ensures.loaded given known)
    (c.in-Ok-located_image_of.ensures.located given known) c.in-Ok-session_at.ensures (sym (same_length g.R.Read.remaining c.args.listings.now given known)) c.new-talk.ensures c.answer_all.ensures

pub returns-in-Err-clause-unknown : goal.returns-in-Err-clause-unknown
returns-in-Err-clause-unknown g c = inl (search rules, Keeps-refl (g.W.Write.contents c.args.writer.now), Keeps-refl (g.C.Read.remaining c.args.commands.now))

pub returns-in-Err-located_image_of-clause-unknown : goal.returns-in-Err-located_image_of-clause-unknown
returns-in-Err-located_image_of-clause-unknown g c = inl (search rules, Keeps-refl (g.W.Write.contents c.args.writer.now), Keeps-refl (g.C.Read.remaining c.args.commands.now))

pub returns-in-Err-session_at-clause-unknown : goal.returns-in-Err-session_at-clause-unknown
returns-in-Err-session_at-clause-unknown g c = inl (search rules, Keeps-refl (g.W.Write.contents c.args.writer.now), Keeps-refl (g.C.Read.remaining c.args.commands.now))

pub returns-clause-unknown : goal.returns-clause-unknown
returns-clause-unknown g c = inr (
  c.in-Ok-located_image_of.program.1,
  c.in-Ok-session_at.session,
  subst (λ (h : Hearing). Talks (length c.args.listings.now) h (g.W.Write.contents c.args.writer.now) (g.W.Write.contents c.answer_all.new.writer)
      (g.C.Read.remaining c.args.commands.now) (g.C.Read.remaining c.answer_all.new.commands) c.answer_all.result) c.new-talk.ensures c.answer_all.ensures,
)
