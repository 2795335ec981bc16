use Rattle.bx_listing.proofs.{Known.err_from_is_err_and, Known.◌>>=◌, Known.give, Known.number, Known.operand, Known.atom_word, Lemmas.refused_first}
use Rattle.bx_listing.specs.declared.items.Operand.TheVariants as operands
use Rattle.bx_listing.proofs.form_reader.FormReader.external.Goals as goal

pub returns-in_err-module : goal.returns-in_err-module
returns-in_err-module c =
    let p = err_from_is_err_and c.from_residual.result c.from_residual.ensures.1 in
    rw (p.1, p.2) (refused_first _ _ _ (atom_word c.args.«module».now) (λ owner. atom_word c.args.function.now >>= λ function. operand (number c.args.count.now) >>= λ count. give (operands.Import (record { «module» = owner; function = function; arity = count }))) c.in_err-module.ensures)
