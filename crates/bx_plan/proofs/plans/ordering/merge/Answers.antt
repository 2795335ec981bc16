use Rattle.bx_plan.proofs.Words.{List, [], ◌∷◌, length, sym, ap, subst, ◌∙◌, arith, length-append, Choice, rows_at, AreFrom, Takes, choices_of, lines_view}
use Rattle.bx_plan.proofs.Sorting.{from_push, last_of, last_push, rows_push}
use Rattle.bx_plan.proofs.plans.ordering.merge.Goals as goal

pub loop-row-preserved : goal.loop-row-preserved
loop-row-preserved c =
    let schedules = choices_of (lines_view c.args.lines.now) in
    let at = c.loop-row in
    let row = c.in-Some.row in
    let left = c.take_first.new.one in
    let right = c.take_first.new.other in
    let is = subst (Takes schedules at.left at.right left right) c.in-Some.is c.take_first.ensures in
    let next = is.order (last_of schedules [] at.rows.items) at.invariant.one at.invariant.other in
    let items = c.push_reserved.ensures.items in
    let last = ap (last_of schedules []) items ∙ last_push schedules [] at.rows.items row in
    record {
      from = subst (AreFrom schedules []) (sym items) (from_push schedules [] at.rows.items row at.invariant.from next.0);
      one = subst (λ (cs : List Choice). AreFrom schedules cs left) (sym last) next.1;
      other = subst (λ (cs : List Choice). AreFrom schedules cs right) (sym last) next.2;
      lines = λ line. omega (arith, at.invariant.lines line, is.lines line, ap (rows_at line) items, rows_push line at.rows.items row);
      room = omega (arith, is.fewer, at.invariant.room, ap length items, length-append at.rows.items (row ∷ []), c.push_reserved.ensures.capacity);
    }

pub returns : goal.returns
returns c =
    let schedules = choices_of (lines_view c.args.lines.now) in
    let at = c.loop-row in
    let none = subst (Takes schedules at.left at.right c.take_first.new.one c.take_first.new.other) c.in_default.is c.take_first.ensures in
    record { from = at.invariant.from; lines = λ line. omega (arith, at.invariant.lines line, ap (rows_at line) none.0, ap (rows_at line) none.1) }
