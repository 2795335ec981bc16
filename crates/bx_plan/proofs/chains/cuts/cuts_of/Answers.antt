use Rattle.bx_plan.proofs.Words.{◌≡◌, ◌-◌, suc, length, reverse, subst, arith, IsCutBy, placed, row_at, choices_of, lines_view}
use Rattle.bx_plan.proofs.Cutting.{row_before}
use Rattle.bx_plan.proofs.chains.cuts.cuts_of.Goals as goal

pub loop-place-preserved : goal.loop-place-preserved
loop-place-preserved c =
    let schedules = choices_of (lines_view c.args.lines.now) in
    let rows = c.args.rows.now in
    let at = c.loop-place in
    let k = at.place - 1 in
    let e : at.place ≡ suc k = omega arith in
    let cut : IsCutBy (row_at rows k).common (length (placed schedules rows k)) at.marks.items (reverse at.cuts.items) c.cut_by.new.marks.items (reverse c.cut_by.new.cuts.items) =
    subst (λ n. IsCutBy (row_at rows k).common n at.marks.items (reverse at.cuts.items) c.cut_by.new.marks.items (reverse c.cut_by.new.cuts.items)) c.length_at-length.ensures c.in_ok-cut_by.ensures in
    let both = row_before schedules rows c.requires at.place k at.marks.items (reverse at.cuts.items) c.cut_by.new.marks.items (reverse c.cut_by.new.cuts.items) e at.invariant.within at.invariant.marks at.invariant.cuts cut in
    record { within = omega arith; marks = both.0; cuts = both.1 }
