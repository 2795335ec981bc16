use Rattle.bx_plan.proofs.Words.{◌+◌, length, arith, ap, sym, subst, ◌∙◌, lt-ltb, ltb-true, row_at, choices_of, lines_view, common_steps}
use Rattle.bx_plan.proofs.Counting.{counted_all, counted_next, counted_none, counted_over, line_choices, low_within, IsCounted}
use Rattle.bx_plan.proofs.plans.counting.is_full.Goals.{then-row-count, else-row-count}
use Rattle.bx_plan.proofs.plans.counting.is_full.Goals as goal

pub loop-row-init : goal.loop-row-init
loop-row-init c = counted_none (choices_of (lines_view c.args.lines.now)) c.args.count c.args.rows.now c.requires.rows

pub overflow_sub-length : goal.overflow_sub-length
overflow_sub-length c = grind (arith, low_within, line_choices)

pub loop-row-preserved : goal.loop-row-preserved
loop-row-preserved c =
    let schedules = choices_of (lines_view c.args.lines.now) in
    let rows = c.args.rows.now in
    let k = c.loop-row.row-index in
    elim c.if-row-count.branch [
      | then-row-count w ↦
          let long = w.len-length.ensures.count ∙ sym (ap length (line_choices c.args.lines.now (row_at rows k).line w.index-lines-row.result (c.requires.rows.within k (omega arith)))) in
          subst (λ n. IsCounted schedules c.args.count rows (k + 1) n c.if-row-count.common) (sym w.nodes-is) (subst (λ n. IsCounted schedules c.args.count rows (k + 1) w.saturating_add-nodes.result n) (sym w.common-is)
          (counted_next schedules c.args.count rows c.requires.rows k c.loop-row.nodes c.loop-row.common c.min-common.result c.loop-row.invariant (omega arith) c.min-common.ensures w.if-row-count.true w.len-length.result w.saturating_add-nodes.result long w.saturating_add-nodes.ensures))
      | else-row-count w ↦
          subst (λ n. IsCounted schedules c.args.count rows (k + 1) n c.if-row-count.common) (sym w.nodes-is) (subst (λ n. IsCounted schedules c.args.count rows (k + 1) c.loop-row.nodes n) (sym w.common-is)
          (counted_over schedules c.args.count rows c.requires.rows k c.loop-row.nodes c.loop-row.common c.min-common.result c.loop-row.invariant (omega arith) c.min-common.ensures w.if-row-count.false))
    ]

pub returns : goal.returns
returns c = grind (arith, common_steps, counted_all, ltb-true, lt-ltb)
