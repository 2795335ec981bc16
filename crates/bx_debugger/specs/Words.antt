-- How an answer names what it tells of: terms, addresses, items and what registers hold.
use Rattle.std.specs.Prelude.{ℕ, List, [], ◌∷◌, ◌++◌, Option, Some, None, codes}
use Rattle.bx_terms.specs.Printed.{printed}
use Rattle.bx_terms.specs.Tree.{Tree}
use Rattle.bx_terms.specs.declared.kinds.Class.{Class, TheVariants.Throw, TheVariants.Error, TheVariants.Exit}
use Rattle.bx_terms.specs.declared.places.Place.{Place}
use Rattle.bx_cells.specs.declared.values.Value.{Value, TheVariants.Term, TheVariants.Tag, TheVariants.Trace}
use Rattle.bx_listing.specs.Items.{Item}
use Rattle.bx_listing.specs.Writing.{item_words}
use Rattle.bx_load.specs.Image.{Loaded}
use Rattle.bx_load.specs.Numbering.{numbered_at}
use Rattle.bx_debugger.specs.Program.{Program, located_text}

-- the address where there is one, and a dash where there is none
abbrev pub place_words : Program → Option Place → List ℕ
place_words program None = codes "-"
place_words program (Some place) = located_text program place

-- an item as a listing writes it, without its full stop; a dash where there is none
abbrev pub item_or_dash : Loaded → Option Item → List ℕ
item_or_dash image None = codes "-"
item_or_dash image (Some item) = item_words image.atoms item

-- an address, where it stands in its source and the item there; an address or an item that is not there is a dash
abbrev pub here_words : Program → Option Place → List ℕ
here_words program None = codes "- -"
here_words program (Some place) = located_text program place ++ codes " " ++ item_or_dash program.image (numbered_at program.image place)

abbrev pub class_words : Class → List ℕ
class_words Throw = codes "throw"
class_words Error = codes "error"
class_words Exit = codes "exit"

-- what a register holds: a term, a catch tag or a trace
abbrev pub value_words : Program → Value → List ℕ
value_words program (Term term) = printed program.image.atoms term
value_words program (Tag place) = codes "catch " ++ located_text program place
value_words program (Trace class) = codes "trace " ++ class_words class

-- a line for each term, behind a word
abbrev pub term_lines : List (List ℕ) → List ℕ → List Tree → List ℕ
term_lines texts word [] = []
term_lines texts word (term ∷ more) = word ++ codes " " ++ printed texts term ++ codes "\n" ++ term_lines texts word more
