use Rattle.std.proofs.Common.{◌≡◌, ◌∙◌, codes, sym, subst, None, Some}
use Rattle.clap.specs.Walk.{Text, first_of}
use Rattle.clap.specs.Words.{found_of, rows_of}
use Rattle.clap.proofs.WalkLemmas.{first_value-rows}
use Rattle.bxemu.specs.CommandLines.{Spells}
use Rattle.bxemu.proofs.CommandLemmas.{lacking, lacks_workers}
use Rattle.bxemu.proofs.commands.workers_of.Goals as goal

pub returns-in_default-clause-err : goal.returns-in_default-clause-err
returns-in_default-clause-err c =
    let found = found_of c.args.values.now in
    let none = sym (first_value-rows found (codes "workers")) ∙ sym c.in_default.ensures in
    lacking (Some (codes "campaign", rows_of found)) c.incomplete.result c.incomplete.ensures
    (lacks_workers (rows_of found) (λ text n is spelt. let absent : None ≡ Some text = sym none ∙ is in cc))

pub returns-in-Some-number_of-clause-ok : goal.returns-in-Some-number_of-clause-ok
returns-in-Some-number_of-clause-ok c =
    (c.in-Some.text.now, sym (first_value-rows (found_of c.args.values.now) (codes "workers")) ∙ sym c.in-Some.ensures, c.in-Some-number_of.ensures.some)

pub returns-in-None-clause-err : goal.returns-in-None-clause-err
returns-in-None-clause-err c =
    let found = found_of c.args.values.now in
    let one = sym (first_value-rows found (codes "workers")) ∙ sym c.in-Some.ensures in
    let same : (text : Text) → first_of (codes "workers") (rows_of found) ≡ Some text → c.in-Some.text.now ≡ text = λ text is. let both : Some c.in-Some.text.now ≡ Some text = sym one ∙ is in cc in
    lacking (Some (codes "campaign", rows_of found)) c.incomplete-in-None.result c.incomplete-in-None.ensures
    (lacks_workers (rows_of found) (λ text n is spelt. c.in-None.ensures.none n (subst (λ t. Spells t n) (sym (same text is)) spelt)))
