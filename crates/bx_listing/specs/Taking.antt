-- Where memory may run out at all: where something is kept.
use Rattle.std.specs.Prelude.{◌<◌, ◌⊎◌, Result, Err, List, length}
use Rattle.bx_terms.specs.Outcomes.{Gives}
use Rattle.bx_terms.specs.declared.faults.Fault.{Fault, TheVariants.Unsupported}
use Rattle.bx_terms.specs.Tree.{height}
use Rattle.bx_text.specs.Tree.{Tree}
use Rattle.bx_ops.specs.declared.opcode.Op.{Op}
use Rattle.bx_listing.specs.declared.items.Operand.{Operand, TheVariants.Literal}
use Rattle.bx_text.specs.Place.{Place}
use Rattle.bx_text.specs.Forms.{takes_memory}
use Rattle.bx_listing.specs.Forms.{Forms, form, forms}
use Rattle.bx_listing.specs.ListedCode.{ListedModule}
use Rattle.bx_listing.specs.Ways.{Formed}

-- a literal that is a tuple or a list cell is shared
abbrev pub SharesTerm : Operand → Type 0
SharesTerm (Literal t) = 0 < height t
SharesTerm operand = ⊥

-- exports and functions are copied
abbrev pub CopiesParts : ListedModule → Type 0
CopiesParts m = (0 < length m.exports) ⊎ (0 < length m.functions)

-- the name of what is outside the subset is kept
abbrev pub KeepsName : Formed → Type 0
KeepsName (Err (Unsupported line name)) = Unit {0}
KeepsName said = ⊥

-- how the answer which instruction a form is, seen by `view`, stands to what is said of it
abbrev pub FormGives : {X : Type 0} → (X → Op × List Tree) → Result X Fault → Formed → Type 0
FormGives view result said = Gives (KeepsName said) view result said

-- there is a form to be read
abbrev pub IsForm : Forms → Type 0
IsForm (form line t rest) = Unit {0}
IsForm all = ⊥

-- the forms from a place on: memory is taken for the text of the first one, or once it was read
abbrev pub ReadsForms : Place → Type 0
ReadsForms p = takes_memory p ⊎ IsForm (forms p)
