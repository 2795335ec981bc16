use Rattle.std.proofs.Common.{◌≡◌}
use Rattle.std.specs.Prelude.{is_ok}
use Rattle.bx_replay.proofs.Keeps.{joined}
use Rattle.bx_replay.proofs.trails.Trail.replace_tail.Goals as goal

pub invariant_of-self-2 : goal.invariant_of-self-2
invariant_of-self-2 c =
    let image = c.self.inside.image.now in
    let start = c.self.inside.start.end in
    let code : c.tail.inside.image.now ≡ image = rw (← c.tail.view_is, ← c.self.view_is) at c.requires.image in
    rw c.in_ok-replace_tail.ensures.ok
    (joined image start c.tail.inside.start.end c.self.inside.choices c.tail.inside.choices c.args.count (rw (← c.self.view_is) at c.requires.within) (rw (← c.tail.view_is, ← c.self.view_is) at c.requires.start)
    (rw (← c.tail.view_is, ← c.self.view_is) at c.requires.all) c.self.inside.kept.items c.tail.inside.kept.items c.append.new.self.items c.within-near.result (is_ok c.append.result) c.self.invariant
    (rw (c.deref.ensures.value, c.in_ok-reserve.ensures.items, c.count.ensures) at c.within-near.ensures) (rw code at c.tail.invariant) (rw (c.truncate.ensures.items, c.in_ok-reserve.ensures.items) at c.append.ensures.items))
