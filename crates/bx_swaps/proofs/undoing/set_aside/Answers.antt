use Rattle.bx_swaps.proofs.Words.{◌≡◌, ◌∙◌, ◌-◌, ap, refl, sym, arith, long_after, none_made, set_aside}
use Rattle.bx_swaps.proofs.Aside.{aside_more}
use Rattle.bx_swaps.proofs.undoing.set_aside.Goals as goal

pub loop-at-init : goal.loop-at-init
loop-at-init c = record { is = refl; exchanged = none_made c.args.count c.args.row.now; back = omega arith; less = omega arith; there = refl }

pub bring_forward-requires-clause-order : goal.bring_forward-requires-clause-order
bring_forward-requires-clause-order c = let less = c.loop-at.invariant.less in omega arith

pub bring_forward-requires-clause-within : goal.bring_forward-requires-clause-within
bring_forward-requires-clause-within c = omega (arith, long_after c.args.count c.args.row.now c.loop-at.row c.loop-at.invariant.exchanged)

pub loop-at-preserved : goal.loop-at-preserved
loop-at-preserved c =
    aside_more c.args.count c.loop-at.at c.args.position c.args.row.now c.loop-at.row c.bring_forward.new.self c.loop-at.first c.in_ok-came.came c.aside_behind-first.result (omega arith) c.requires.within c.loop-at.invariant c.in_ok-came.ensures.ok c.aside_behind-first.ensures

pub returns : goal.returns
returns c =
    let at = c.loop-at.invariant in
    let less = at.less in
    let none : c.args.count - c.loop-at.at ≡ 0 = omega arith in
    record { is = sym at.is ∙ ap (λ n. set_aside n c.loop-at.at c.loop-at.first c.loop-at.row) none; exchanged = at.exchanged; back = at.back; within = omega arith; there = at.there }
