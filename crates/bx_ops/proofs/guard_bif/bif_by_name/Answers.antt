use Rattle.std.proofs.Common.{bytes_eq, ◌==◌, ◌&&◌, ◌∙◌, refl}
use Rattle.bx_ops.specs.GuardBifs.{guard_bif, guard_bif_with}
use Rattle.bx_ops.specs.Rows.{bif_in, said_of_bif}
use Rattle.bx_ops.proofs.RowLemmas.{first-agreeing}
use Rattle.bx_ops.proofs.guard_bif.bif_by_name.Goals as goal

pub returns : goal.returns
unfolding guard_bif_with
returns c =
    c.named.ensures
    ∙ first-agreeing bif_in said_of_bif guard_bif (λ row. (row.arity == c.args.arity) && bytes_eq row.name c.args.name.now) _ refl
