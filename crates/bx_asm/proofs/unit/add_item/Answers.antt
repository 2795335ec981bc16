use Rattle.bx_asm.proofs.Growing.{grows_nowhere}
use Rattle.bx_asm.proofs.unit.add_item.Goals as goal

pub returns-in-None : goal.returns-in-None
returns-in-None c = grows_nowhere c.args.draft.now c.args.function.now.items c.args.number c.in-None.ensures
