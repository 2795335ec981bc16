use Rattle.bx_listing.proofs.Known.{◌≡◌, ◌++◌, drop, option_map, string_bytes, elements_seen}
use Rattle.bx_listing.specs.Locations.{spelled}
use Rattle.bx_listing.proofs.locations.spelled.Given as goal

abbrev pub invariant-loop-i : goal.invariant-loop-i
invariant-loop-i l = option_map (λ rest. string_bytes l.text ++ rest) (spelled (drop l.i (elements_seen l.nodes))) ≡ spelled (elements_seen l.nodes)
