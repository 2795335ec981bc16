use Rattle.bx_listing.proofs.{Known.arith, Known.place, Known.forms, Dropped.same_more, Dropped.annotation_dropped}
use Rattle.bx_listing.proofs.reading.behind_annotations.Goals as goal

pub loop-behind-preserved : goal.loop-behind-preserved
loop-behind-preserved c = record {
  same =
      same_more (forms (place c.args.reader)) (forms (place c.loop-behind.here)) (forms (place c.in-Some.behind)) c.loop-behind.invariant.same
      (annotation_dropped (place c.loop-behind.here) (place c.in-Some.behind) c.in-Some.ensures.form);
  shorter = omega (arith, c.in-Some.ensures.shorter, c.loop-behind.invariant.shorter);
}
