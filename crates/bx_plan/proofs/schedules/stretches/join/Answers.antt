use Rattle.bx_plan.proofs.Words.{rules, ◌≡◌, ◌-◌, ◌+◌, length, refl, sym, ap, subst, ◌∙◌, arith, get_or_default, Stretch, choices_from, AreStretches}
use Rattle.bx_plan.proofs.Edits.{further, longer}
use Rattle.bx_plan.proofs.Stretching.{no_stretch}
use Rattle.bx_plan.proofs.schedules.stretches.join.Goals as goal

pub returns-then-same : goal.returns-then-same
returns-then-same c =
    let ss = c.args.stretches.now.items in
    let last = c.len-count.result - 1 in
    let place : last + 1 ≡ length ss = omega (arith, c.if-count-gt0.true, c.args.stretches.now.ok.0) in
    let is = c.index.ensures ∙ get_or_default ss last c.index.result.now no_stretch (omega (arith, place)) in
    let both = longer ss c.requires.rising c.args.stretch c.requires.some last place (ap (λ (s : Stretch). s.choice) (sym is) ∙ c.if-same.ensures.0 refl) in
    record { rising = both.0; longer = both.1; err = search rules }

pub returns-then-count-capacity : goal.returns-then-count-capacity
returns-then-count-capacity c =
    let both = further c.args.stretches.now.items c.requires.rising c.args.stretch c.requires.some in record {
      rising = subst (AreStretches 0) (sym c.push_reserved.ensures.items) both.0;
      longer = λ times h. ap (choices_from 0) c.push_reserved.ensures.items ∙ both.1 times h;
      err = search rules;
    }

pub returns-clause-rising : goal.returns-clause-rising
returns-clause-rising c = subst (AreStretches 0) (sym c.in_ok-push_grown.ensures.ok) (further c.args.stretches.now.items c.requires.rising c.args.stretch c.requires.some).0

pub returns-clause-longer : goal.returns-clause-longer
returns-clause-longer c = λ times h. ap (choices_from 0) c.in_ok-push_grown.ensures.ok ∙ (further c.args.stretches.now.items c.requires.rising c.args.stretch c.requires.some).1 times h
