use Rattle.bx_listing.proofs.Known.{◌≤◌, length, place, forms, MakeSame}
use Rattle.bx_listing.proofs.reading.behind_annotations.Given as goal

abbrev pub invariant-loop-behind : goal.invariant-loop-behind
invariant-loop-behind l = record {
  same : MakeSame (forms (place l.fn.reader)) (forms (place l.here));
  shorter : length l.here.rest.now ≤ length l.fn.reader.rest.now;
}

abbrev pub decreases-loop-behind : goal.decreases-loop-behind
decreases-loop-behind l = length l.here.rest.now
