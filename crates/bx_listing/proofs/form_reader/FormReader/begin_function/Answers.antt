use Rattle.bx_listing.proofs.Known.{true, refl, [], ◌∷◌, ◌++◌, err_from_is_err_and, give, function_form, ListedFunction}
use Rattle.bx_listing.proofs.Lemmas.{wanting_stored}
use Rattle.bx_listing.proofs.form_reader.FormReader.begin_function.Goals as goal

pub returns-in_err-push : goal.returns-in_err-push
returns-in_err-push c =
    let p = err_from_is_err_and c.from_residual-in_err-push.result c.from_residual-in_err-push.ensures.1 in
    rw (p.1, p.2) (wanting_stored (λ _. true) _ _ (function_form c.args.parts.now) _ (λ (f : ListedFunction). give (c.args.functions.now.items ++ f ∷ [])) c.in_ok-function.ensures refl)
