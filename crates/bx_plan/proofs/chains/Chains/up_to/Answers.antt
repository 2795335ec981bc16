use Rattle.bx_plan.proofs.Words.{◌≡◌, ◌<◌, ◌≤◌, ◌-◌, length, take, sym, ap, subst, arith, Head, above, chain_path, head, lines_view}
use Rattle.bx_plan.proofs.Growing.{up_next}
use Rattle.bx_plan.proofs.chains.Chains.up_to.Goals as goal

pub loop-at-preserved : goal.loop-at-preserved
loop-at-preserved c =
    let plan = lines_view c.args.lines.now in
    let all = c.args.self.now in
    let path = chain_path plan all (length all.heads - 1) in
    let is = c.loop-at.invariant in
    let deeper : c.args.depth < (head all c.loop-at.at).past = omega (arith, c.loop-at-test.true, ap (λ (h : Head). h.past) c.head.ensures) in
    let up = (up_next plan all c.requires.forest c.loop-at.at path c.args.depth (is.there, is.front, is.deep) deeper c.requires.cut).0 in
    let back : above all c.loop-at.at ≡ c.head-at.result.above = sym (ap (λ (h : Head). h.above) c.head-at.ensures) in
    record {
      there = subst (λ n. n < length all.heads) back up.0;
      front = subst (λ n. chain_path plan all n ≡ take (head all n).past path) back up.1;
      deep = subst (λ n. c.args.depth ≤ (head all n).past) back up.2;
    }
