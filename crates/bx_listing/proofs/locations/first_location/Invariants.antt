use Rattle.bx_listing.proofs.Known.{◌≡◌, drop, first_location, elements_seen}
use Rattle.bx_listing.proofs.locations.first_location.Given as goal

abbrev pub invariant-loop-i : goal.invariant-loop-i
invariant-loop-i l = first_location (drop l.i (elements_seen l.nodes)) ≡ first_location (elements_seen l.nodes)
