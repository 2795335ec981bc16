use Rattle.bx_plan.proofs.Words.{◌≡◌, sym, ap, ◌∙◌, arith, is_gt, choices_cmp, common, at_row, choices_of, lines_view, common_steps}
use Rattle.bx_plan.proofs.Commons.{common_turned}
use Rattle.bx_plan.proofs.Ordering.{turned_back}
use Rattle.bx_plan.proofs.Sorting.{first_stands, level_alike, taken_alone, taken_turned, takes_level, takes_more}
use Rattle.bx_plan.proofs.plans.ordering.take_first.Goals as goal

pub returns-in_default : goal.returns-in_default
returns-in_default c = grind (arith, common_steps, taken_turned, taken_alone)

pub returns-in_default-first : goal.returns-in_default-first
returns-in_default-first c = grind (arith, common_steps, taken_alone)

pub returns-then-first-second : goal.returns-then-first-second
returns-then-first-second c = grind (arith, common_steps, takes_more)

pub returns-then-first-second-2 : goal.returns-then-first-second-2
returns-then-first-second-2 c = grind (arith, taken_turned, takes_more)

pub schedule_at-schedule-requires : goal.schedule_at-schedule-requires
schedule_at-schedule-requires c = (first_stands (choices_of (lines_view c.args.lines.now)) c.requires.0 c.args.one.now c.in-Some.first c.requires.1 (sym c.first.ensures ∙ c.in-Some.is)).within

pub schedule_at-requires : goal.schedule_at-requires
schedule_at-requires c = (first_stands (choices_of (lines_view c.args.lines.now)) c.requires.0 c.args.other.now c.in-Some-first.second c.requires.2 (sym c.first-2.ensures ∙ c.in-Some-first.is)).within

pub compare-common-requires : goal.compare-common-requires
compare-common-requires c =
    let alike = level_alike (choices_of (lines_view c.args.lines.now)) c.args.one.now c.args.other.now c.in-Some.first c.in-Some-first.second c.requires (sym c.first.ensures ∙ c.in-Some.is) (sym c.first-2.ensures ∙ c.in-Some-first.is) (omega arith) in
    rw (c.schedule_at-schedule.ensures, c.schedule_at.ensures) alike

pub returns-then-is_gt : goal.returns-then-is_gt
returns-then-is_gt c =
    let schedules = choices_of (lines_view c.args.lines.now) in
    let first = at_row schedules c.in-Some.first in
    let second = at_row schedules c.in-Some-first.second in
    let order : c.compare-common.result.1 ≡ choices_cmp first second = cc in
    let n : c.compare-common.result.0 ≡ common first second = cc in
    taken_turned schedules c.args.other.now c.args.one.now _ _ _
    (takes_level schedules c.args.other.now c.args.one.now _ _ c.in-Some-first.second c.in-Some.first c.compare-common.result.0 _ (sym c.first-2.ensures ∙ c.in-Some-first.is) (sym c.first.ensures ∙ c.in-Some.is) c.take-then-is_gt.ensures c.stand_behind.ensures
    (turned_back first second (sym (ap is_gt order) ∙ sym c.is_gt.ensures ∙ c.if-is_gt.true)) (n ∙ common_turned first second))

pub returns : goal.returns
returns c =
    let schedules = choices_of (lines_view c.args.lines.now) in
    let order : c.compare-common.result.1 ≡ choices_cmp (at_row schedules c.in-Some.first) (at_row schedules c.in-Some-first.second) = cc in
    takes_level schedules c.args.one.now c.args.other.now _ _ c.in-Some.first c.in-Some-first.second c.compare-common.result.0 _ (sym c.first.ensures ∙ c.in-Some.is) (sym c.first-2.ensures ∙ c.in-Some-first.is) c.take-2.ensures c.stand_behind-2.ensures
    (sym (ap is_gt order) ∙ sym c.is_gt.ensures ∙ c.if-is_gt.false) (cc)
