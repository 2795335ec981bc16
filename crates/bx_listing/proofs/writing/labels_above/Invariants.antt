use Rattle.bx_listing.proofs.Known.{◌≡◌, drop, labels_above}
use Rattle.bx_listing.proofs.writing.labels_above.Given as goal

abbrev pub invariant-loop-place : goal.invariant-loop-place
invariant-loop-place l = labels_above l.greatest (drop l.place l.function.items) ≡ labels_above l.number l.function.items
