use Rattle.std.proofs.Common.{string_bytes, Ok}
use Rattle.bx_debug.specs.Tidying.{tidy_of}
use Rattle.bx_debugger.proofs.SwapLaw.{does_told, swap_told}
use Rattle.bx_debugger.proofs.replies.reply.Goals as goal

pub returns-in-Swap : goal.returns-in-Swap
returns-in-Swap c =
    rw c.in-Swap.is (swap_told string_bytes c.moved_line-in-Swap.result c.args.number c.in-Swap.choice c.args.session.now c.swap-done.new.self
    c.swap-done.result c.swap-done.ensures c.moved_line-in-Swap.ensures)

pub returns-in-Tidy : goal.returns-in-Tidy
returns-in-Tidy c =
    rw c.in-Tidy.is (does_told (Unit {0}) string_bytes c.moved_line-in-Tidy.result c.args.number c.args.session.now c.tidy-done.new.self
    (Ok (tidy_of c.args.session.now, tt)) c.tidy-done.result c.tidy-done.ensures c.moved_line-in-Tidy.ensures)
