use Rattle.bx_terms.proofs.Words.{fold, ◌∙◌, ap, TEXTS, used}
use Rattle.bx_terms.proofs.AtomTables.{fixed_by_use}
use Rattle.bx_terms.proofs.atom_table.fixed_names.Goals as goal

pub returns : goal.returns
returns c =
    c.in_ok-add_all.ensures
    ∙ ap (λ names. fold (λ held text. used held text.now) names TEXTS) c.new-names.ensures
    ∙ fixed_by_use
