use Rattle.std.proofs.Common.{rules}
use Rattle.bx_ops.proofs.OpcodeLemmas.{with_name_and_arity-kept}
use Rattle.bx_ops.proofs.table.op_by_name.Goals as goal

pub returns : goal.returns
returns c = with_name_and_arity-kept c.args.text.now c.args.arity c.op_named.result c.filter.result _ (λ op same h. search rules) c.op_named.ensures c.filter.ensures
