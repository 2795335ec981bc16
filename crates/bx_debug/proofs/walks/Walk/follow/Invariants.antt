use Rattle.bx_debug.proofs.Words.{◌≡◌, ◌-◌, length, None, Walks}
use Rattle.bx_debug.proofs.walks.Walk.follow.Given as goal

-- all choices so far were applied, and the walk goes on with those that are left
abbrev pub invariant-loop-alloc : goal.invariant-loop-alloc
invariant-loop-alloc l = record {
  unstopped : l.self.stop ≡ l.fn.self.stop;
  code : l.self.made.image ≡ l.fn.self.made.image;
  begins : l.self.made.start ≡ l.fn.self.made.start;
  way : Walks l.places l.choices l.self.made l.self.end.world None;
}

-- the choices that are left
abbrev pub decreases-loop-alloc : goal.decreases-loop-alloc
decreases-loop-alloc l = length l.choices - length l.self.made.choices
