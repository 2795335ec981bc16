use Rattle.bx_plan.proofs.Words.{rules, ◌≡◌, ℕ, ◌+◌, ◌<◌, ◌≤◌, ◌∷◌, List, length, get_or, take, drop, sym, ap, subst, ◌∙◌, arith, insert, get_or_default, length-take-le, take_at, Stretch, choices_from, made_before, common_steps}
use Rattle.bx_plan.proofs.Words.{AreStretches}
use Rattle.bx_plan.proofs.Edits.{over_at, parted_at, same_there}
use Rattle.bx_plan.proofs.Stretching.{next, no_stretch, there, within}
use Rattle.bx_plan.proofs.schedules.stretches.part_at.Goals as goal

read : (ss : List Stretch) → AreStretches 0 ss → (n p : ℕ) (r : Stretch) → made_before n ss < p → p ≤ made_before (n + 1) ss → r ≡ get_or ss n r → (n < length ss) × (r ≡ get_or ss n no_stretch)
read ss j n p r h l e = let here = there ss j n (omega (arith, h, l, within ss j (n + 1))) in (here, e ∙ get_or_default ss n r no_stretch here)

pub returns-in_err-insert-clause-err : goal.returns-in_err-insert-clause-err
returns-in_err-insert-clause-err c = grind (arith, common_steps, read, same_there)

pub returns-in_ok-insert : goal.returns-in_ok-insert
returns-in_ok-insert c =
    let ss = c.args.stretches.now.items in
    let n = c.args.at in
    let is = read ss c.requires.rising n c.args.position c.index-stretch.result.now c.requires.begin c.requires.end c.index-stretch.ensures in
    let to : c.args.position < (get_or ss n no_stretch).past = omega (arith, c.if-position-stretch.true, ap (λ (s : Stretch). s.past) is.1) in
    let x : Stretch = record { choice = (get_or ss n no_stretch).choice; past = c.args.position } in
    let edit = c.in_ok-insert.ensures.items ∙ ap (λ (s : Stretch). insert ss n (record { choice = s.choice; past = c.args.position })) is.1 in
    let both = parted_at ss c.requires.rising n is.0 c.args.position c.requires.begin to in
    record {
      rising = subst (AreStretches 0) (sym edit) both.0;
      choices = ap (choices_from 0) edit ∙ both.1;
      front = ap (take n) edit ∙ take_at (take n ss) (x ∷ drop n ss) n (length-take-le n ss (omega (arith, is.0)));
      over = ap (made_before (n + 1)) edit ∙ over_at ss c.requires.rising n is.0 c.args.position c.requires.begin to;
      err = search rules;
    }

pub returns-else-position-stretch-clause-over : goal.returns-else-position-stretch-clause-over
returns-else-position-stretch-clause-over c = grind (arith, read, next)
