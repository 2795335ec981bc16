use Rattle.std.proofs.Common.{arith}
use Rattle.bx_cells.proofs.StackRows.{cut_to}
use Rattle.bx_cells.proofs.frames.Frames.cut.Goals as goal

pub invariant_of-self : goal.invariant_of-self
invariant_of-self c =
    let here = cut_to c.self.inside.heads.items c.self.inside.cells.items c.args.above c.saturating_sub-kept.result c.index.result.now c.self.invariant (omega arith) (omega arith) (omega arith) in
    rw (c.truncate.ensures.items, c.truncate-2.ensures.items, c.index.ensures) here.fits

pub returns : goal.returns
returns c =
    let here = cut_to c.self.inside.heads.items c.self.inside.cells.items c.args.above c.saturating_sub-kept.result c.index.result.now c.self.invariant (omega arith) (omega arith) (omega arith) in
    rw (c.truncate.ensures.items, c.truncate-2.ensures.items, c.index.ensures, ← c.self.view_is) here.left
