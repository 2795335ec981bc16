use Rattle.std.proofs.Common.{◌<◌, ◌++◌, length, string_bytes, arith}
use Rattle.bx_svg.specs.Markup.{written}
use Rattle.bx_chart.specs.Rows.{rows_from}
use Rattle.bx_chart.proofs.Rowing.{row_more}
use Rattle.bx_chart.proofs.rows.push_rows.Goals as goal

pub loop-row-preserved : goal.loop-row-preserved
loop-row-preserved c =
    let image = c.args.code.now.image.now in
    let sources = c.args.code.now.sources.now in
    let short : c.loop-row.row < length c.args.events.now = omega (arith, c.loop-row-test.true) in
    row_more image sources c.loop-row.row c.args.events.now c.index-events-row.result (string_bytes c.loop-row.out) (string_bytes c.push_row.new.out)
    (string_bytes c.args.out.now ++ written (rows_from image sources 0 c.args.events.now)) short c.index-events-row.is c.loop-row.invariant c.in_ok-push_row.ensures
