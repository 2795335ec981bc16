use Rattle.bx_swaps.proofs.Words.{◌≡◌, Err, None, Memory, started, AtFaultAtOnce}
use Rattle.std.proofs.Common.{rules}
use Rattle.bx_swaps.proofs.Begun.{begun_of}
use Rattle.bx_swaps.proofs.Ends.{wanting}
use Rattle.bx_swaps.proofs.swaps.check_swaps.Goals as goal

pub returns-in_err-position : goal.returns-in_err-position
returns-in_err-position c =
    let begun = begun_of c.args.image.now (started c.args.image.now c.args.module c.args.function) c.args.schedule.now c.in_ok-trail.trail c.in_ok-trail.ensures in
    let at : AtFaultAtOnce c.args.positions.now c.args.schedule.now None = c.in_default.ensures in
    let err : c.from_residual-in_err-position.result ≡ Err Memory = search rules in
    wanting c.args.image.now _ begun.start c.args.positions.now c.args.schedule.now c.from_residual-in_err-position.result begun.there at err
