use Rattle.std.proofs.Common.{codes, string_bytes}
use Rattle.bx_chart.specs.Sheets.{height_of, sheet_attributes, width_of}
use Rattle.bx_chart.proofs.Framing.{framed}
use Rattle.bx_chart.proofs.sheets.push_sheet.Goals as goal

pub returns : goal.returns
returns c =
    framed (codes "svg") (sheet_attributes (width_of c.args.story.now) (height_of c.args.story.now)) _
    (string_bytes c.args.out.now) (string_bytes c.open_sheet.new.out) (string_bytes c.push_inside.new.out) (string_bytes c.close_tag.new.out)
    c.in_ok-open_sheet.ensures c.in_ok-push_inside.ensures c.in_ok-close_tag.ensures
