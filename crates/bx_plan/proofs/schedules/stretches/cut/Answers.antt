use Rattle.bx_plan.proofs.Words.{◌-◌, ◌++◌, ◌∷◌, [], ◌<◌, List, length, take, sym, ap, subst, ◌∙◌, arith, get_or_default, Stretch, choices_from, IsOverBy}
use Rattle.bx_plan.proofs.Edits.{cut_at, Makes}
use Rattle.bx_plan.proofs.Stretching.{next, no_stretch, there}
use Rattle.bx_plan.proofs.schedules.stretches.cut.Goals.{After-push_reserved}
use Rattle.bx_plan.proofs.schedules.stretches.cut.Goals as goal

whole : (c : After-push_reserved) → Makes c.push_reserved.new.self.items (take c.args.count (choices_from 0 c.args.stretches.now.items))
whole c =
    let ss = c.args.stretches.now.items in
    let last = c.over_by-last.result in
    let over : IsOverBy ss (c.args.count - 1) last = subst (λ (xs : List Stretch). IsOverBy xs (c.args.count - 1) last) c.deref-2.ensures.value c.over_by-last.ensures in
    let short : c.args.count < length (choices_from 0 ss) = omega (arith, c.if-count-made.false, c.made.ensures, ap (λ (xs : List Stretch). length (choices_from 0 xs)) c.deref.ensures.value) in
    let here : last < length ss = there ss c.requires last (omega (arith, short, over.begin)) in
    let is = c.index.ensures ∙ get_or_default ss last c.index.result.now no_stretch here in
    let all = c.push_reserved.ensures.items ∙ ap (λ (xs : List Stretch). xs ++ record { choice = c.index.result.now.choice; past = c.args.count } ∷ []) c.truncate.ensures.items
    ∙ ap (λ (s : Stretch). take last ss ++ record { choice = s.choice; past = c.args.count } ∷ []) is in
    subst (λ (xs : List Stretch). Makes xs (take c.args.count (choices_from 0 ss))) (sym all)
    (cut_at ss c.requires last here c.args.count (omega (arith, over.begin, c.if-count-eq0.false)) (omega (arith, over.next here, next ss c.requires last here, c.if-count-eq0.false)))

pub returns-clause-rising : goal.returns-clause-rising
returns-clause-rising c = (whole c).0

pub returns-clause-choices : goal.returns-clause-choices
returns-clause-choices c = (whole c).1
