use Rattle.std.proofs.Common.{[], ◌++◌, codes, string_bytes}
use Rattle.bx_svg.specs.Shapes.{classed, sides}
use Rattle.bx_svg.proofs.Pieces.{closed}
use Rattle.bx_svg.proofs.shapes.push_box.Goals as goal

pub returns : goal.returns
returns c =
    closed (codes "rect") (classed c.args.class.now ++ sides c.args.corner c.args.width c.args.height) []
    (string_bytes c.args.out.now) (string_bytes c.open_tag.new.out) (string_bytes c.push_box_attributes.new.out) (string_bytes c.close_empty.new.out)
    c.in_ok-open_tag.ensures c.in_ok-push_box_attributes.ensures c.in_ok-close_empty.ensures
