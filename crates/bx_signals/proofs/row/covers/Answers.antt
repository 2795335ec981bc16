use Rattle.std.proofs.Common.{refl, arith}
use Rattle.bx_signals.proofs.Lines.{covers_when, not_held, held_further}
use Rattle.bx_signals.proofs.row.covers.Goals as goal

pub returns-then-not-holds : goal.returns-then-not-holds
returns-then-not-holds c =
    (λ no. cc no, λ all. c.if-not-holds.ensures.1 (not_held c.args.lines.now c.args.others.now c.loop-at.at c.index-lines-at.result c.requires.rising c.loop-at-test.true c.index-lines-at.is all))

pub returns : goal.returns
returns c = (λ _. covers_when c.args.lines.now c.args.others.now c.loop-at.at c.requires.rising (omega (arith, c.loop-at-test.false)) c.loop-at.invariant, λ _. refl)

pub loop-at-preserved : goal.loop-at-preserved
loop-at-preserved c =
    held_further c.args.lines.now c.args.others.now c.loop-at.at c.index-lines-at.result c.loop-at-test.true c.index-lines-at.is c.loop-at.invariant (c.if-not-holds.ensures.0 refl)
