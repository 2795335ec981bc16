-- What the shapes of terms show.
use Rattle.bx_listing.specs.declared.shapes.Shape.{Shape as Seen}
use Rattle.bx_listing.specs.declared.shapes.Shape.TheVariants as shapes
use Rattle.bx_listing.specs.Shape.{Shape, bare, tagged, other}

abbrev pub seen : Seen → Shape
seen (shapes.Bare text) = bare text.now
seen (shapes.Tagged text parts) = tagged text.now parts.now
seen shapes.Other = other
