use Rattle.std.proofs.Common.{ap, arith}
use Rattle.bx_replay.specs.Courses.{Course}
use Rattle.bx_replay.proofs.Carrying.{end_step, free_more, none_yet, reads}
use Rattle.bx_replay.proofs.Keeps.{few_left}
use Rattle.bx_replay.proofs.trails.rows.Row.free_from.Goals as goal

pub loop-at-init : goal.loop-at-init
loop-at-init c = record { here = c.in_ok-end.ensures; free = none_yet c.args.choice c.args.first c.args.self.now }

pub may_pass-requires : goal.may_pass-requires
may_pass-requires c = omega (arith, few_left _ c.args.self.now _ c.loop-at.at c.loop-at.end c.self.invariant c.self.view_is c.loop-at.invariant.here)

pub advance_run-requires : goal.advance_run-requires
advance_run-requires c = omega (arith, few_left _ c.args.self.now _ c.loop-at.at c.loop-at.end c.self.invariant c.self.view_is c.loop-at.invariant.here)

pub loop-at-preserved : goal.loop-at-preserved
loop-at-preserved c =
    let s = c.args.self.now in
    let at = c.loop-at.at in
    let here = c.loop-at.invariant.here in
    let code = ap (λ (t : Course). t.image) c.self.view_is in
    let other = reads _ s c.args.choice c.index-other.result.now at c.self.view_is (omega arith) c.index-other.ensures in
    record {
      here = end_step s _ c.index-other.result.now c.args.choice at c.loop-at.end c.advance_run.new.end code (omega arith) other here c.in_ok-advance_run.ensures.ok;
      free = rw c.rest_behind-rest.ensures (free_more c.args.choice c.args.first at s c.loop-at.rest c.in_ok-free.free (omega arith) c.loop-at.invariant.free
          (λ h. rw (code, here, other) at (c.in_ok-free.ensures.yes h)) (λ h. c.in_ok-free.ensures.no (rw (code, here, other) h)));
    }
