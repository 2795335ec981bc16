use Rattle.bx_plan.proofs.Words.{◌≡◌, ◌-◌, ◌<◌, ◌≤◌, zero, suc, ℕ, List, [], ◌∷◌, ◌++◌, length, reverse, refl, sym, ap, subst, ◌∙◌, arith, reverse-append, AllCuts, placed, Grown, choices_of, common_steps, length-reverse, lines_view}
use Rattle.bx_plan.proofs.Commons.{common_short, taken_alike}
use Rattle.bx_plan.proofs.Cutting.{cuts_over, cuts_within, next_cut, no_cuts, NextCut}
use Rattle.bx_plan.proofs.Growing.{begin_cut, end_cut, grown_more, inside_cut}
use Rattle.bx_plan.proofs.chains.Chains.add_row.Goals as goal

pub loop-first-init : goal.loop-first-init
loop-first-init c =
    let plan = lines_view c.args.lines.now in
    let rows = c.args.rows.now in
    let k = c.args.place in
    let count : length rows - k ≡ suc (length rows - k - 1) = omega arith in
    let cuts : AllCuts (choices_of plan) rows (suc (length rows - k - 1)) k (reverse c.args.cuts.now.items) = subst (λ m. AllCuts (choices_of plan) rows m k (reverse c.args.cuts.now.items)) count c.requires.cuts in
    record {
      grown = c.requires.grown;
      low = omega arith;
      begin = begin_cut plan rows c.requires.rows k c.requires.place;
      steps = cuts.0;
      rest = cuts.1;
      are = cuts.2;
      others = cuts.3;
      order = cuts.4;
    }

up_to-within : (path here : List Rattle.bx_world.specs.declared.choices.Choice.Choice) (first : ℕ) → first ≤ Rattle.bx_plan.specs.Gathered.common path here → first ≤ length path
up_to-within path here first h = omega (arith, h, (common_short path here).0)

pub up_to-above-requires-clause-within : goal.up_to-above-requires-clause-within
up_to-above-requires-clause-within c = up_to-within _ _ c.loop-first.first c.loop-first.invariant.grown.last

pub up_to-above-requires-clause-cut : goal.up_to-above-requires-clause-cut
up_to-above-requires-clause-cut c = grind (arith, taken_alike)

pub returns-clause-grown : goal.returns-clause-grown
returns-clause-grown c =
    let plan = lines_view c.args.lines.now in
    let rows = c.args.rows.now in
    let k = c.args.place in
    let is = c.loop-first.invariant in
    let whole : c.loop-first.first ≡ length (placed (choices_of plan) rows k) = omega (arith, c.length_at-length.ensures, c.loop-first-test.false, cuts_within (choices_of plan) rows c.requires.rows k c.loop-first.first is.steps is.are) in
    subst (λ n. Grown plan rows k n c.loop-first.self) whole is.grown

pub returns-clause-cuts : goal.returns-clause-cuts
returns-clause-cuts c = grind (arith, common_steps, cuts_over)

zero_or : (n : ℕ) → (0 < n → ⊥) → n ≡ 0
zero_or zero h = refl
zero_or (suc n) h = absurd (h (omega arith))

pub unreachable-requires : goal.unreachable-requires
unreachable-requires c = grind (arith, common_steps, zero_or, no_cuts, length-reverse)

pub loop-first-smaller : goal.loop-first-smaller
loop-first-smaller c = grind (arith, reverse-append, next_cut, cuts_within)

pub loop-first-preserved : goal.loop-first-preserved
loop-first-preserved c =
    let plan = lines_view c.args.lines.now in
    let rows = c.args.rows.now in
    let k = c.args.place in
    let at = c.loop-first in
    let is = at.invariant in
    let past = c.in-Some.past in
    let left = reverse c.pop.new.self.items in
    let order : past ∷ left ≡ is.steps ++ is.rest = sym (ap reverse c.in-Some.ensures.items ∙ reverse-append c.pop.new.self.items (past ∷ [])) ∙ is.order in
    let next : NextCut (choices_of plan) rows c.requires.rows k at.first past is.rest left = next_cut (choices_of plan) rows c.requires.rows k at.first past is.steps is.rest left (omega (arith, c.length_at-length.ensures, c.loop-first-test.true)) is.are order in
    let within : past ≤ length (placed (choices_of plan) rows k) = cuts_within (choices_of plan) rows c.requires.rows k past next.3 next.4 in
    let end = end_cut plan rows c.requires.rows k past c.requires.place next.1 in
    let more =
    grown_more plan rows c.requires.rows at.self k at.first past c.up_to-above.result is.grown c.requires.place c.up_to-above.ensures.there c.up_to-above.ensures.path next.0 within is.low is.begin end
    (inside_cut plan rows c.requires.rows k at.first past c.requires.place is.low within next.2) in
    record {
      grown = subst (Grown plan rows k past) (sym c.in_ok-begin.ensures) more;
      low = omega (arith, is.low, next.0);
      begin = end;
      steps = next.3;
      rest = is.rest;
      are = next.4;
      others = is.others;
      order = next.5;
    }
