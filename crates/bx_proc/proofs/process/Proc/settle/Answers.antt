use Rattle.bx_proc.proofs.Resuming.{settled_told}
use Rattle.bx_proc.proofs.process.Proc.settle.Goals as goal

pub returns : goal.returns
returns c = settled_told c.args.image.now c.args.answer.now c.args.self.now c.settle_call-ran.new.self c.rest.new.self c.settle_call-ran.result c.settle_call-ran.ensures c.rest.ensures
