use Rattle.std.proofs.Common.{rules}
use Rattle.bx_proc.proofs.Resuming.{resumed_told}
use Rattle.bx_proc.proofs.process.Proc.resume.Goals as goal

pub returns : goal.returns
returns c =
    resumed_told c.args.image.now c.args.answer.now c.in-Some.native c.args.self.now c.withdraw.new.self c.settle-ran.new.self c.ask_still.new.self c.settle-ran.result (search rules) c.withdraw.ensures c.settle-ran.ensures c.ask_still.ensures
