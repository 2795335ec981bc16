use Rattle.bx_plan.proofs.Words.{◌≡◌, length, subst, arith, common_before, Grown, choices_of, lines_view, common_steps}
use Rattle.bx_plan.proofs.Growing.{grown_all}
use Rattle.bx_plan.proofs.chains.building.all_chains.Goals as goal

pub add_row-requires-clause-grown : goal.add_row-requires-clause-grown
add_row-requires-clause-grown c = grind (arith, common_steps)

pub returns : goal.returns
returns c =
    let whole : c.loop-place.place ≡ length c.args.rows.now = omega arith in
    grown_all (lines_view c.args.lines.now) c.args.rows.now c.requires (common_before (choices_of (lines_view c.args.lines.now)) c.args.rows.now c.loop-place.place) c.loop-place.all
    (subst (λ k. Grown (lines_view c.args.lines.now) c.args.rows.now k (common_before (choices_of (lines_view c.args.lines.now)) c.args.rows.now c.loop-place.place) c.loop-place.all) whole c.loop-place.invariant.grown)
