use Rattle.bx_listing.proofs.Known.{◌≡◌, take, map, function_code_of}
use Rattle.bx_listing.proofs.listing.function_codes.Given as goal

abbrev pub invariant-loop-at : goal.invariant-loop-at
invariant-loop-at l = l.codes.items ≡ map function_code_of (take l.at l.functions)
