use Rattle.bx_listing.proofs.Known.{err_from_is_err_and, true, refl, [], ◌∷◌, ◌++◌, give, Operand, simple}
use Rattle.bx_listing.proofs.Lemmas.{wanting_stored}
use Rattle.bx_listing.proofs.form_reader.FormReader.one.Goals as goal

pub returns-in_err-push : goal.returns-in_err-push
returns-in_err-push c =
    let p = err_from_is_err_and c.from_residual-in_err-push.result c.from_residual-in_err-push.ensures.1 in
    rw (p.1, p.2) (wanting_stored (λ _. true) _ _ (simple c.args.sort c.args.node.now) _ (λ (o : Operand). give (c.args.operands.now.items ++ o ∷ [])) c.in_ok-operand.ensures refl)
