use Rattle.bx_plan.proofs.Words.{◌≡◌, ◌+◌, ◌-◌, length, sym, subst, ◌∙◌, inl, arith, take_all, chain_path, Chained, IsCut, common_before, placed, row_at, Grown, choices_of, lines_view, common_steps}
use Rattle.bx_plan.specs.Chains.{noted}
use Rattle.bx_plan.proofs.Commons.{common_short, taken_alike}
use Rattle.bx_plan.proofs.Growing.{end_cut, grown_row}
use Rattle.bx_plan.proofs.chains.Chains.end_row.Goals as goal

pub up_to-chain-requires-clause-within : goal.up_to-chain-requires-clause-within
up_to-chain-requires-clause-within c = grind (arith, common_steps, common_short)

pub up_to-chain-requires-clause-cut : goal.up_to-chain-requires-clause-cut
up_to-chain-requires-clause-cut c =
    let plan = lines_view c.args.lines.now in
    let here = placed (choices_of plan) c.args.rows.now c.args.place in
    let all = c.args.self.now in
    let long = c.length_at.ensures in
    subst (IsCut (choices_of plan)) (sym (taken_alike (chain_path plan all (length all.heads - 1)) here c.length_at.result (omega (arith, long, c.requires.grown.last)))) (end_cut plan c.args.rows.now c.requires.rows c.args.place c.length_at.result c.requires.place (inl long))

pub returns : goal.returns
returns c =
    let plan = lines_view c.args.lines.now in
    let rows = c.args.rows.now in
    let here = placed (choices_of plan) rows c.args.place in
    let all = c.args.self.now in
    let long = c.length_at.ensures in
    let path : chain_path plan all c.up_to-chain.result ≡ here =
    c.up_to-chain.ensures.path ∙ taken_alike (chain_path plan all (length all.heads - 1)) here c.length_at.result (omega (arith, long, c.requires.grown.last)) ∙ take_all c.length_at.result here (omega (arith, long)) in
    subst (λ (cs : Chained). Grown plan rows (c.args.place + 1) (common_before (choices_of plan) rows (c.args.place + 1)) (noted (row_at rows c.args.place).line c.up_to-chain.result cs)) (sym c.self.view_is)
    (grown_row plan rows c.requires.rows c.args.place all c.up_to-chain.result c.requires.place c.requires.grown c.up_to-chain.ensures.there path)
