-- What is said of an item at an address.
use Rattle.std.proofs.Common.{◌≡◌, ◌∙◌, ◌<◌, ◌≤◌, List, Option, Some, None, refl, ap, get_or, length, map}
use Rattle.std.specs.Prelude.{option_and_then, option_map, slice_get}
use Rattle.std.proofs.lemmas.Option.{slice_get-map, slice_get_past, slice_get_read}
use Rattle.bx_terms.specs.Options.{◌>>=◌}
use Rattle.bx_terms.specs.declared.places.Place.{Place}
use Rattle.bx_listing.specs.Locations.{Located, Location}
use Rattle.bx_engine.specs.Sources.{location_at}

abbrev items_of : Located → List (Option Location)
items_of l = l.items

by_listing : (listings : List Located) (place : Place) (found : Option Located) → slice_get listings place.«module» ≡ found
    → location_at (map items_of listings) place ≡ (option_map items_of found >>= λ items. slice_get items place.item >>= λ (l : Option Location). l)
by_listing listings place found e =
    ap (λ (o : Option (List (Option Location))). o >>= λ items. slice_get items place.item >>= λ (l : Option Location). l)
    (slice_get-map items_of listings place.«module» ∙ ap (option_map items_of) e)

joined : (o : Option (Option Location)) → (o >>= λ (l : Option Location). l) ≡ option_and_then (λ l. l) o
joined None = refl
joined (Some l) = refl

pub location_there : (listings : List Located) (place : Place) (l : Located) → place.«module» < length listings → l ≡ get_or listings place.«module» l
    → location_at (map (λ (x : Located). x.items) listings) place ≡ option_and_then (λ x. x) (slice_get l.items place.item)
location_there listings place l within here =
    by_listing listings place (Some l) (slice_get_read listings (length listings) place.«module» l refl within here) ∙ joined (slice_get l.items place.item)

pub no_location : (listings : List Located) (place : Place) → length listings ≤ place.«module» → location_at (map (λ (x : Located). x.items) listings) place ≡ None
no_location listings place past = by_listing listings place None (slice_get_past listings place.«module» past)
