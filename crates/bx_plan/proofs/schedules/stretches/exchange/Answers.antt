use Rattle.bx_plan.proofs.Words.{◌≡◌, ◌+◌, ◌<◌, length, ap, ◌∙◌, arith, get_or-set_other, get_or_default, made_before}
use Rattle.bx_plan.proofs.Edits.{exchanged}
use Rattle.bx_plan.proofs.Stretching.{next, no_stretch, there, within}
use Rattle.bx_plan.proofs.schedules.stretches.exchange.Goals as goal

pub returns : goal.returns
returns c =
    let ss = c.args.stretches.now.items in
    let n = c.args.at in
    let j = c.requires.rising in
    let here : n + 1 < length ss = there ss j (n + 1) (omega (arith, c.requires.first, c.requires.second, within ss j (n + 2))) in
    let two : n + 1 + 1 ≡ n + 2 = omega arith in
    let one = c.index.ensures ∙ get_or_default ss n c.index.result.now no_stretch (omega (arith, here)) in
    let other = c.index-2.ensures ∙ get_or_default ss (n + 1) c.index-2.result.now no_stretch here in
    let old_one = c.index_mut.ensures.value ∙ get_or_default ss n c.index_mut.result.now no_stretch (omega (arith, here)) in
    let old_other = c.index_mut-2.ensures.value ∙ get_or-set_other ss n (n + 1) _ c.index_mut-2.result.now (omega arith) ∙ get_or_default ss (n + 1) c.index_mut-2.result.now no_stretch here in
    let both = exchanged ss n j here (omega (arith, next ss j n (omega (arith, here)), c.requires.first)) (omega (arith, next ss j (n + 1) here, c.requires.second, ap (λ i. made_before i ss) two)) in
    rw (old_other, old_one, other, one) (record { rising = both.0; choices = both.1 })
