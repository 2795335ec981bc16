use Rattle.std.proofs.Common.{[], ◌++◌, codes, string_bytes}
use Rattle.bx_svg.specs.Shapes.{classed, ends}
use Rattle.bx_svg.proofs.Pieces.{closed}
use Rattle.bx_svg.proofs.shapes.push_line.Goals as goal

pub returns : goal.returns
returns c =
    closed (codes "line") (classed c.args.class.now ++ ends c.args.from c.args.to) []
    (string_bytes c.args.out.now) (string_bytes c.open_tag.new.out) (string_bytes c.push_line_attributes.new.out) (string_bytes c.close_empty.new.out)
    c.in_ok-open_tag.ensures c.in_ok-push_line_attributes.ensures c.in_ok-close_empty.ensures
