use Rattle.std.proofs.Common.{◌∙◌, codes, refl, sym, Some}
use Rattle.clap.specs.Words.{found_of, rows_of}
use Rattle.clap.proofs.WalkLemmas.{first_value-rows}
use Rattle.bxemu.proofs.CommandLemmas.{lacking, lacks_file}
use Rattle.bxemu.proofs.commands.dis_order.Goals as goal

pub returns-in-None-clause-err : goal.returns-in-None-clause-err
returns-in-None-clause-err c =
    let found = found_of c.args.values.now in
    lacking (Some (codes "dis", rows_of found)) c.incomplete.result c.incomplete.ensures (lacks_file (rows_of found) (sym (first_value-rows found (codes "FILE")) ∙ sym c.in-None.ensures))

pub returns-in-Some-clause-ok : goal.returns-in-Some-clause-ok
returns-in-Some-clause-ok c =
    let found = found_of c.args.values.now in
    (refl, sym (first_value-rows found (codes "FILE")) ∙ sym c.in-Some.ensures)
