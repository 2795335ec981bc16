-- Code forms and the texts that are read as them.
use Rattle.std.specs.Prelude.{◌≡◌, ℕ, List}
use Rattle.bx_text.specs.Place.{place_in}
use Rattle.bx_listing.specs.Reading.{Table, read}
use Rattle.bx_listing.specs.Forms.{forms, last_line}
use Rattle.bx_listing.specs.ListedCode.{ListedModule}
use Rattle.bx_listing.specs.Listing.{listing}
use Rattle.bx_listing.specs.Code.{Code, code}
use Rattle.bx_listing.specs.Writing.{code_text}

-- its text is read as a listing with this code form, and names no atom that the table lacks
abbrev pub IsReadBack : Table → Code → Type 0
IsReadBack names c =
    (m : ListedModule) × ((listing (last_line (code_text names c)) (forms (place_in (code_text names c) 0))).run names ≡ read names m) × (code m ≡ c)

-- some text is read as a listing with this code form, and has these atoms behind it
abbrev pub IsRead : Table → Code → Type 0
IsRead names c =
    (text : List ℕ) × (before : Table) × (m : ListedModule) × ((listing (last_line text) (forms (place_in text 0))).run before ≡ read names m) × (code m ≡ c)
