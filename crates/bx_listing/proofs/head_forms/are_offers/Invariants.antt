use Rattle.bx_listing.proofs.Known.{◌≡◌, drop, are_offers, elements_seen}
use Rattle.bx_listing.proofs.head_forms.are_offers.Given as goal

abbrev pub invariant-loop-i : goal.invariant-loop-i
invariant-loop-i l = are_offers (drop l.i (elements_seen l.list)) ≡ are_offers (elements_seen l.list)
