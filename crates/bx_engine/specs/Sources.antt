-- Where the items of loaded modules stand in their sources: for each listing, in the order of loading, what its lines say of its items.
use Rattle.std.specs.Prelude.{ℕ, List, map, Option, slice_get}
use Rattle.bx_terms.specs.Options.{◌>>=◌}
use Rattle.bx_terms.specs.declared.places.Place.{Place}
use Rattle.bx_text.specs.Place.{place_in}
use Rattle.bx_listing.specs.Forms.{forms, last_line}
use Rattle.bx_listing.specs.Locations.{Location, locations}

abbrev pub Sources : Type 0
Sources = List (List (Option Location))

-- where the items of a listing's text stand
abbrev pub located_in : List ℕ → List (Option Location)
located_in text = locations (last_line text) (forms (place_in text 0))

abbrev pub sources_of : List (List ℕ) → Sources
sources_of given = map located_in given

-- the file and the line of the item at an address; none where nothing is said, where there is no such module, and past its items
abbrev pub location_at : Sources → Place → Option Location
location_at sources place = do
  items ← slice_get sources place.«module»
  location ← slice_get items place.item
  location
