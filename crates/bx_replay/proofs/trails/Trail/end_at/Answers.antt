use Rattle.std.proofs.Common.{◌≡◌, ◌-◌, refl}
use Rattle.bx_replay.specs.Courses.{Course}
use Rattle.bx_replay.proofs.Prefixes.{course}
use Rattle.bx_replay.proofs.Keeps.{from_nearest}
use Rattle.bx_replay.proofs.trails.Trail.end_at.Goals as goal

pub returns : goal.returns
returns c =
    let old : Course = course c.self.inside.image.now c.self.inside.start.end c.self.inside.choices in
    let there = c.nearest-from.ensures old refl (rw c.deref.ensures.value c.self.invariant) in
    let first : c.count.result - c.count-2.result ≡ c.nearest-from.result.now.end.applied - old.start.applied = λ i. c.count.ensures i - c.count-2.ensures i in
    let on = from_nearest old c.args.self.now _ c.args.count (c.count.result - c.count-2.result) c.nearest-from.result.now.end c.self.view_is there first in
    rw (c.part.ensures, on) at c.follow.ensures
