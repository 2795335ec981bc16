use Rattle.std.proofs.Common.{◌++◌, refl}
use Rattle.bx_replay.proofs.Prefixes.{course}
use Rattle.bx_replay.proofs.Keeps.{all_reached, longer}
use Rattle.bx_replay.proofs.trails.Trail.push.Goals as goal

pub invariant_of-self-in_default : goal.invariant_of-self-in_default
invariant_of-self-in_default c =
    let image = c.self.inside.image.now in
    let start = c.self.inside.start.end in
    let choices = c.self.inside.choices in
    let now = course image start (choices ++ c.args.made) in
    rw c.in_ok-append.ensures.ok (c.keep_if_due.ensures.kept now refl (longer image start choices c.args.made c.self.inside.kept.items c.self.invariant (rw (← c.self.view_is) at c.requires.few))
    (all_reached now c.args.end.now (rw (← c.self.view_is) at c.requires.all) (rw (← c.self.view_is) at c.requires.end)))
