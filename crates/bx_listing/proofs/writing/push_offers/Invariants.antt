use Rattle.bx_listing.proofs.Known.{◌≡◌, ◌++◌, drop, string_bytes, codes, flat_map, offer_text, offers_text}
use Rattle.bx_listing.proofs.writing.push_offers.Given as goal

-- what is written and what is left to write make the whole
abbrev pub invariant-loop-export : goal.invariant-loop-export
invariant-loop-export l =
    string_bytes l.out ++ flat_map (λ e. codes "," ++ offer_text l.atoms e) (drop l.export-index l.rest) ≡ string_bytes l.fn.out ++ offers_text l.atoms l.exports
