-- What was read of a line.
use Rattle.std.specs.Prelude.{◌≡◌, ℕ, List, Option, Some, None}
use Rattle.bx_plan.specs.Entry.{Entry}
use Rattle.bx_plan.specs.Made.{Make}
use Rattle.bx_plan.specs.declared.lines.Heading.{Heading}
use Rattle.bx_plan.specs.declared.lines.Line.{Line, TheVariants.Nothing, TheVariants.Schedule}
use Rattle.bx_plan.specs.Reading.{line_of}

-- there is a schedule of this name, and this was made of its entries
abbrev pub IsHeading : Heading → Option (List ℕ × List Entry) → Type 0
IsHeading heading read = (entries : List Entry) × (read ≡ Some (heading.name.now, entries)) × Make heading.entries entries

-- what was read is what the line says
abbrev pub Reads : Line → List ℕ → Type 0
Reads Nothing text = line_of text ≡ Some None
Reads (Schedule heading) text = (entries : List Entry) × (line_of text ≡ Some (Some (heading.name.now, entries))) × Make heading.entries entries
