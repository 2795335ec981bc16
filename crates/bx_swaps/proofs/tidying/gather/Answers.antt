use Rattle.bx_swaps.proofs.Words.{◌∙◌, ◌+◌, ◌-◌, length, ap, refl, sym, arith, Course, long_after, settled}
use Rattle.bx_swaps.proofs.Gathering.{gathered_all, gathered_on, settled_so}
use Rattle.bx_swaps.proofs.tidying.gather.Goals as goal

pub loop-at-init : goal.loop-at-init
loop-at-init c = record { is = refl; long = refl }

pub settle-requires-clause-within : goal.settle-requires-clause-within
settle-requires-clause-within c = omega (arith, c.loop-at.invariant.long)

pub loop-at-preserved : goal.loop-at-preserved
loop-at-preserved c =
    let at = c.loop-at.at in
    let count = c.args.count in
    let row = c.loop-at.row in
    let is = c.in_ok-settle.ensures in
    record {
      is = gathered_on count at row c.settle.new.row (omega arith) is ∙ c.loop-at.invariant.is;
      long = ap (λ (r : Course). length r.choices) is ∙ long_after (at + (count - at)) row (settled at (count - at) row) (settled_so at (count - at) row) ∙ c.loop-at.invariant.long;
    }

pub returns : goal.returns
returns c = sym (gathered_all c.args.count c.loop-at.at c.loop-at.row (omega arith)) ∙ c.loop-at.invariant.is
