use Rattle.bx_listing.proofs.Known.{◌≡◌, drop, fold, labels_above, greatest_label}
use Rattle.bx_listing.proofs.writing.greatest_label.Given as goal

abbrev pub invariant-loop-function : goal.invariant-loop-function
invariant-loop-function l = fold (λ n f. labels_above n f.items) l.greatest (drop l.function-index l.functions) ≡ greatest_label l.functions
