use Rattle.std.proofs.Common.{ap, arith, length}
use Rattle.bx_world.specs.declared.choices.Choice.TheVariants.{Run}
use Rattle.bx_replay.proofs.Bringing.{came_first, came_on, long_brought}
use Rattle.bx_replay.proofs.trails.rows.Row.bring_forward.Goals as goal

pub loop-at-init : goal.loop-at-init
loop-at-init c = came_first c.args.from c.args.to (Run 0) c.args.self.now c.requires.order c.requires.within

pub pass-requires-clause-within : goal.pass-requires-clause-within
pass-requires-clause-within c =
    let came = c.loop-at.invariant in
    omega (arith, long_brought c.args.self.now.choices c.args.from c.loop-at.at (Run 0) c.requires.within came.start, ap length came.choices, came.start)

pub loop-at-preserved : goal.loop-at-preserved
loop-at-preserved c = came_on c.args.from c.args.to c.loop-at.at c.in_ok-rest.rest (Run 0) c.args.self.now c.loop-at.self c.pass.new.self _ c.requires.within c.loop-at.invariant c.in_ok-rest.ensures.ok

pub returns-then-not-more-clause-ok : goal.returns-then-not-more-clause-ok
returns-then-not-more-clause-ok c =
    let one = c.in_ok-rest.ensures.ok in
    let came = came_on c.args.from c.args.to c.loop-at.at c.in_ok-rest.rest (Run 0) c.args.self.now c.loop-at.self c.pass.new.self _ c.requires.within c.loop-at.invariant one in
    record { reach = came.reach; start = came.start; choices = came.choices; exchanges = came.exchanges; steps = came.steps; stuck = λ less. one.stuck c.if-not-more.true }
