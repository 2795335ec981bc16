use Rattle.bx_listing.proofs.Known.{◌≡◌, [], ◌++◌, ◌⊎◌, None, IsTrue, length, place, Begins, forms, IsForm, located}
use Rattle.bx_listing.specs.Listing as listings
use Rattle.bx_listing.proofs.reading.functions.Given as goal

abbrev pub invariant-loop-locations : goal.invariant-loop-locations
invariant-loop-locations l = record {
  so_far : (listings.functions l.functions.items (forms (place l.here))).run l.atoms ≡ (listings.functions [] (forms (place l.fn.reader))).run l.fn.atoms;
  grown : Begins l.fn.atoms l.atoms;
  begun : (place l.here ≡ place l.fn.reader) ⊎ IsForm (forms (place l.fn.reader));
  placed : IsTrue l.fn.asked → l.locations.items ++ located l.locations.here (forms (place l.here)) ≡ located None (forms (place l.fn.reader));
}

abbrev pub decreases-loop-locations : goal.decreases-loop-locations
decreases-loop-locations l = length l.here.rest.now
