use Rattle.bx_plan.proofs.Words.{◌≡◌, ◌-◌, ◌+◌, ◌<◌, ◌++◌, suc, length, get_or, take, drop, refl, sym, ap, subst, ◌∙◌, arith, get_or_default, Stretch, choices_from, AreStretches}
use Rattle.bx_plan.proofs.Edits.{merged}
use Rattle.bx_plan.proofs.Stretching.{no_stretch}
use Rattle.bx_plan.proofs.schedules.stretches.merge.Goals as goal

pub returns-then-same : goal.returns-then-same
returns-then-same c =
    let ss = c.args.stretches.now.items in
    let n = c.args.at - 1 in
    let place : c.args.at ≡ n + 1 = omega arith in
    let within : n + 1 < length ss = omega arith in
    let one = c.index.ensures ∙ get_or_default ss n c.index.result.now no_stretch (omega (arith, within)) in
    let two = c.index-then-at-len.ensures ∙ get_or_default ss c.args.at c.index-then-at-len.result.now no_stretch (omega (arith, within)) ∙ ap (λ i. get_or ss i no_stretch) place in
    let both = merged ss c.requires n (omega (arith, within)) within (ap (λ (s : Stretch). s.choice) (sym one) ∙ c.if-same.ensures.0 refl ∙ ap (λ (s : Stretch). s.choice) two) in
    let next : suc n ≡ n + 1 = omega arith in
    let edit = c.remove.ensures.items ∙ ap (λ i. take n ss ++ drop i ss) next in
    record { rising = subst (AreStretches 0) (sym edit) both.0; choices = ap (choices_from 0) edit ∙ both.1 }
