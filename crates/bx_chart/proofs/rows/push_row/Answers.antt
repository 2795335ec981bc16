use Rattle.std.proofs.Common.{codes, string_bytes}
use Rattle.bx_svg.specs.Shapes.{classed}
use Rattle.bx_chart.proofs.Framing.{framed}
use Rattle.bx_chart.proofs.rows.push_row.Goals as goal

pub returns : goal.returns
returns c =
    framed (codes "g") (classed (codes "row")) _
    (string_bytes c.args.out.now) (string_bytes c.open_group.new.out) (string_bytes c.push_inside.new.out) (string_bytes c.close_group.new.out)
    c.in_ok-open_group.ensures c.in_ok-push_inside.ensures c.in_ok-close_group.ensures
