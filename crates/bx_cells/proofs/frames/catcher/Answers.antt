use Rattle.std.proofs.Common.{◌+◌, sym, ap, refl, ◌∙◌, arith, drop, reverse}
use Rattle.bx_cells.specs.Stack.{unwound, caught}
use Rattle.bx_cells.specs.StackRow.{frames_of}
use Rattle.bx_cells.proofs.StackRows.{behind_none, turned_below, turned_next, turned_caught, turned_all}
use Rattle.bx_cells.proofs.frames.catcher.Goals as goal

pub loop-above-init : goal.loop-above-init
loop-above-init c = record { behind = behind_none _ _ c.requires; uncaught = refl }

pub lowest_between-requires : goal.lowest_between-requires
lowest_between-requires c = let b = c.loop-above.invariant.behind in record { begins = turned_below _ _ _ _ _ c.loop-above-test.true b; ends = b.within }

pub returns-in-Some-clause-found : goal.returns-in-Some-clause-found
returns-in-Some-clause-found c =
    let frames = frames_of (reverse c.args.heads.now) c.args.cells.now in
    c.loop-above.invariant.uncaught
    ∙ turned_caught _ _ _ _ _ c.loop-above-test.true c.loop-above.invariant.behind
    ∙ ap (λ o. caught o (drop c.loop-above.above frames) (unwound (drop (c.loop-above.above + 1) frames))) (sym c.lowest_between.ensures ∙ c.in-Some.is)

pub loop-above-preserved : goal.loop-above-preserved
loop-above-preserved c =
    let frames = frames_of (reverse c.args.heads.now) c.args.cells.now in
    record {
      behind = turned_next _ _ _ _ _ c.loop-above-test.true c.loop-above.invariant.behind;
      uncaught = c.loop-above.invariant.uncaught
          ∙ turned_caught _ _ _ _ _ c.loop-above-test.true c.loop-above.invariant.behind
          ∙ ap (λ o. caught o (drop c.loop-above.above frames) (unwound (drop (c.loop-above.above + 1) frames))) (sym c.lowest_between.ensures ∙ c.in_default.is);
    }

pub returns : goal.returns
returns c = record { found = c.loop-above.invariant.uncaught ∙ turned_all c.args.heads.now c.args.cells.now c.loop-above.above (omega arith); within = tt }
