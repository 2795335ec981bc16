-- The item that a form is; `None` for an annotation `{'%',T}`, which is ignored.
use Rattle.std.specs.Prelude.{[], Option, option_map}
use Rattle.bx_listing.specs.Items.{Item}
use Rattle.bx_listing.specs.Reading.{Reading, ◌>>=◌, give}
use Rattle.bx_listing.specs.Shape.{Shape}
use Rattle.bx_listing.specs.Rows.{Read, item_row}

abbrev pub read_as : Read → Option Item
read_as r = option_map (λ op. record { op = op; operands = r.1 }) r.0

abbrev pub item : Shape → Reading (Option Item)
item t = item_row [] t >>= λ r. give (read_as r)
