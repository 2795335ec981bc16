use Rattle.std.proofs.Common.{ap, ◌∙◌, refl, get_or, take}
use Rattle.bx_signals.specs.Channels.{put, taken_back_all}
use Rattle.bx_signals.specs.declared.signal.Signal.TheVariants.{LinkExit}
use Rattle.bx_signals.proofs.Maps.{put_further, all_taken_back}
use Rattle.bx_signals.proofs.channels.Channels.put_exits.Goals as goal

pub returns-in-Err-clause-err : goal.returns-in-Err-clause-err
returns-in-Err-clause-err c =
    let done = take c.loop-at.at c.args.links.now in
    c.take_back_all.ensures ∙ ap (taken_back_all c.args.from done) (c.in-Err.ensures.err ∙ c.loop-at.invariant) ∙ all_taken_back c.args.from done (LinkExit c.args.reason.now) c.args.self.now

pub loop-at-preserved : goal.loop-at-preserved
loop-at-preserved c =
    let q = get_or c.args.links.now c.loop-at.at 0 in
    put_further c.args.from c.args.links.now c.loop-at.at q (LinkExit c.args.reason.now) c.args.self.now c.put_exit.new.self c.loop-at-test.true refl
    (c.in_default.ensures.ok ∙ ap (put (c.args.from, q) (LinkExit c.args.reason.now)) c.loop-at.invariant)
