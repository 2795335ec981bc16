use Rattle.bx_plan.proofs.Words.{◌≡◌, Bool, true, false, refl, arith, length_push, common_steps, not, not-true}
use Rattle.bx_plan.proofs.Adding.{is_long, is_short, knows_more, loose_added, loose_long}
use Rattle.bx_plan.proofs.plans.building.Builder.add.Goals as goal

pub returns-then-entries-gt-MOST_CHOICES : goal.returns-then-entries-gt-MOST_CHOICES
returns-then-entries-gt-MOST_CHOICES c entries made = grind (arith, common_steps, loose_long, is_long)

pub returns-in_default : goal.returns-in_default
returns-in_default c entries made = is_short _ _ made.counted (omega arith)

pub returns-then-not-entries : goal.returns-then-not-entries
returns-then-not-entries c entries made = is_short _ _ made.counted (omega arith)

whole : (b : Bool) → not b ≡ false → b ≡ true
whole true h = refl
whole false h = cc

pub returns : goal.returns
returns c entries made = grind (arith, common_steps, not-true, whole, length_push, loose_added, is_short, knows_more)

pub returns-in_err-push : goal.returns-in_err-push
returns-in_err-push c entries made = grind (arith, common_steps, is_short)
