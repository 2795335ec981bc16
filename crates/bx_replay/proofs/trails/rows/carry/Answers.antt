use Rattle.std.proofs.Common.{◌≡◌, ◌+◌, ◌-◌, ◌<◌, length, ap, sym, ◌∙◌, arith}
use Rattle.bx_world.specs.declared.choices.Choice.TheVariants.{Run}
use Rattle.bx_replay.specs.Exchanges.{exchanged_at}
use Rattle.bx_replay.specs.Moving.{brought}
use Rattle.bx_replay.proofs.Bringing.{brought_here, brought_on, long_brought}
use Rattle.bx_replay.proofs.trails.rows.carry.Goals as goal

pub loop-at-init : goal.loop-at-init
loop-at-init c = record { low = c.requires.order; high = omega arith; choices = sym (brought_here c.args.choices.now c.args.from (Run 0) c.requires.within) }

pub swap-requires-clause-b_in_bounds : goal.swap-requires-clause-b_in_bounds
swap-requires-clause-b_in_bounds c =
    omega (arith, long_brought c.args.choices.now c.args.from c.loop-at.at (Run 0) c.requires.within c.loop-at.invariant.high, ap length c.loop-at.invariant.choices)

pub loop-at-preserved : goal.loop-at-preserved
loop-at-preserved c =
    let xs = c.args.choices.now in
    let from = c.args.from in
    let at = c.loop-at.at - 1 in
    let back : c.loop-at.at ≡ at + 1 = omega arith in
    let less : at < from = omega arith in
    record {
      low = omega arith;
      high = omega arith;
      choices =
          c.swap.ensures.after ∙ ap (exchanged_at at) (c.loop-at.invariant.choices ∙ ap (λ n. brought from n xs) back)
          ∙ brought_on xs from (Run 0) c.requires.within at less;
    }
