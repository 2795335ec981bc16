use Rattle.bx_proc.proofs.Resuming.{noted_told}
use Rattle.bx_proc.proofs.process.Proc.settle_noting.Goals as goal

pub returns : goal.returns
returns c = noted_told c.args.image.now c.args.value.now c.args.message c.args.self.now c.note-ran.new.self c.rest.new.self c.note-ran.result c.note-ran.ensures c.rest.ensures
