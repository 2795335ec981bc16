use Rattle.bx_listing.proofs.Known.{err_from_is_err_and, [], ◌∷◌, ◌++◌, length, members, elements_seen}
use Rattle.bx_listing.proofs.Lemmas.{wanting_before}
use Rattle.bx_listing.specs.declared.items.Operand.TheVariants as operands
use Rattle.bx_listing.proofs.form_reader.FormReader.list_of.Goals as goal

pub returns-in_err-push : goal.returns-in_err-push
returns-in_err-push c =
    let p = err_from_is_err_and c.from_residual.result c.from_residual.ensures.1 in
    rw (p.1, p.2) (wanting_before _ (members (c.args.operands.now.items ++ operands.List (length (elements_seen c.args.nodes)) ∷ []) c.args.first c.args.second (elements_seen c.args.nodes)))
